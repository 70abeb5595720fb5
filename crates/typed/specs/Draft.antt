-- Request 1: the stored sheet that a typed sheet is. Nodes and clauses are written one after another, each into an area of its own.
use Rattle.std.specs.Prelude.{ℕ, suc, ◌+◌, ◌-◌, ◌*◌, ◌/◌, ◌%◌, ◌<◌, Bool, cond, ◌||◌, List, [], ◌∷◌, ◌++◌, map, ◌≡◌, leb, ltb, length, get_or, take, drop, replicate}
use Rattle.std.proofs.lemmas.List.Edits.{sets}
use Rattle.semantics.specs.Formula.{Comparison, below, at_most, equal, at_least, above}
use Rattle.stored.specs.declared.Node.{Node}
use Rattle.stored.specs.declared.StoredClause.{StoredClause}
use Rattle.stored.specs.Reach.{joint, name_mask}
use Rattle.stored.specs.Written.{node_bytes, header_bytes}
use Rattle.stored.specs.Layout.{requirement_kind, node_size, clause_size, clauses_end, most_nodes, most_clauses}
use Rattle.grammar.specs.Tree.{OrP, one_p, or_p, AndP, unit_p, and_p, UnitP, trueP, falseP, signalP, nameP, not_p, bracket_p, OrF, one_f, or_f, AndF, chain_f, and_f, ChopF, unit_f, chop_f, UnitF, pointF, stretchF, wholeF, braceF, slen_f, scountF, sdurF, draw_f, at_f, gap_f, bracketF, starF, TypedPart, TypedClause, pref_c, anti_c, init_c, implies_c, follows_c, triggers_c, Line, assume_l, require_l, TypedSheet}
use Rattle.typed.specs.Meaning.{parts_of}

-- the bytes of an area, and how many entries it was given
pub record Draft : Type 0 where
  pub bytes : List ℕ
  pub count : ℕ

abbrev pub draft : List ℕ → ℕ → Draft
draft bytes count = record { bytes = bytes; count = count }

-- One entry more, of so many bytes: written after the others while there are fewer than `most`, and counted in any case.
unfoldable pub added : ℕ → ℕ → List ℕ → Draft → Draft
added size most entry d =
    draft (cond (ltb d.count most) (sets d.bytes (size * d.count) entry) d.bytes) (suc d.count)

-- the number of the entry given last
unfoldable pub last : Draft → ℕ
last d = d.count - 1

-- ---- nodes: op, q, a, b
unfoldable pub put : Node → Draft → Draft
put x d = added node_size most_nodes (node_bytes x) d

abbrev pub node : ℕ → ℕ → ℕ → ℕ → Node
node op q a b = record { op = op; q = q; a = a; b = b }

-- a node over the last one of d
unfoldable pub put_over : ℕ → ℕ → ℕ → Draft → Draft
put_over op q b d = put (node op q (last d) b) d

-- a node over the last one of d and the last one of e, which is d with the second operand after it
unfoldable pub put_joined : ℕ → Draft → Draft → Draft
put_joined op d e = put (node op 0 (last d) (last e)) e

unfoldable mutual
  pub put_or_p : OrP → Draft → Draft
  put_or_p (one_p p) d = put_and_p p d
  put_or_p (or_p p q) d = let e = put_or_p p d in put_joined 7 e (put_and_p q e)

  pub put_and_p : AndP → Draft → Draft
  put_and_p (unit_p p) d = put_unit_p p d
  put_and_p (and_p p q) d = let e = put_and_p p d in put_joined 6 e (put_unit_p q e)

  pub put_unit_p : UnitP → Draft → Draft
  put_unit_p trueP d = put (node 2 0 0 0) d
  put_unit_p falseP d = put (node 1 0 0 0) d
  put_unit_p (signalP k) d = put (node 3 0 k 0) d
  put_unit_p (nameP u) d = put (node 4 0 u 0) d
  put_unit_p (not_p p) d = put_over 5 0 0 (put_unit_p p d)
  put_unit_p (bracket_p p) d = put_or_p p d

-- a comparison, as q has it
unfoldable pub comparison_number : Comparison → ℕ
comparison_number below = 0
comparison_number at_most = 1
comparison_number equal = 2
comparison_number at_least = 3
comparison_number above = 4

-- A number that has one byte is kept as 255 where it is larger: rules 4 and 6 refuse both.
unfoldable pub in_byte : ℕ → ℕ
in_byte v = cond (leb v 255) v 255

unfoldable mutual
  pub put_or_f : OrF → Draft → Draft
  put_or_f (one_f f) d = put_and_f f d
  put_or_f (or_f f g) d = let e = put_or_f f d in put_joined 22 e (put_and_f g e)

  pub put_and_f : AndF → Draft → Draft
  put_and_f (chain_f f) d = put_chop_f f d
  put_and_f (and_f f g) d = let e = put_and_f f d in put_joined 21 e (put_chop_f g e)

  pub put_chop_f : ChopF → Draft → Draft
  put_chop_f (unit_f f) d = put_unit_f f d
  put_chop_f (chop_f f g) d = let e = put_chop_f f d in put_joined 20 e (put_unit_f g e)

  pub put_unit_f : UnitF → Draft → Draft
  put_unit_f (pointF p) d = put_over 16 0 0 (put_or_p p d)
  put_unit_f (stretchF p) d = put_over 17 0 0 (put_or_p p d)
  put_unit_f (wholeF p) d = put_over 18 0 0 (put_or_p p d)
  put_unit_f (braceF p) d = put_over 19 0 0 (put_or_p p d)
  put_unit_f (slen_f c n) d = put (node 24 (comparison_number c) 0 n) d
  put_unit_f (scountF p c n) d = put_over 25 (comparison_number c) n (put_or_p p d)
  put_unit_f (sdurF p c n) d = put_over 26 (comparison_number c) n (put_or_p p d)
  put_unit_f (draw_f q k) d = put (node 27 (in_byte q) k 0) d
  put_unit_f (at_f u) d = put (node 28 0 u 0) d
  put_unit_f (gap_f u v a b) d = put (node 29 (16 * u + v) a b) d
  put_unit_f (bracketF f) d = put_or_f f d
  put_unit_f (starF f) d = put_over 23 0 0 (put_or_f f d)

-- ---- clauses
unfoldable pub clause_bytes : StoredClause → List ℕ
clause_bytes x =
    x.clause_type ∷ x.role
    ∷ x.root1 / 256 ∷ x.root1 % 256 ∷ x.root2 / 256 ∷ x.root2 % 256 ∷ x.root3 / 256 ∷ x.root3 % 256
    ∷ x.mask1 ∷ x.mask2 ∷ x.mask3 ∷ []

-- fields that fit their bytes
pub record ClauseFits (x : StoredClause) : Type 0 where
  pub type_fits : x.clause_type < 256
  pub role_fits : x.role < 256
  pub root1_fits : x.root1 < 65536
  pub root2_fits : x.root2 < 65536
  pub root3_fits : x.root3 < 65536
  pub mask1_fits : x.mask1 < 256
  pub mask2_fits : x.mask2 < 256
  pub mask3_fits : x.mask3 < 256

unfoldable pub put_clause : StoredClause → Draft → Draft
put_clause x d = added clause_size most_clauses (clause_bytes x) d

-- bit u is name u
unfoldable pub mask_of : List ℕ → ℕ
mask_of [] = 0
mask_of (u ∷ more) = joint (name_mask u) (mask_of more)

unfoldable pub put_part : TypedPart → Draft → Draft
put_part d x = put_or_f d.formula x

-- parts one after another, and the node that each ends in
unfoldable pub put_parts : List TypedPart → Draft → Draft
put_parts [] x = x
put_parts (d ∷ more) x = put_parts more (put_part d x)

unfoldable pub roots_of : List TypedPart → Draft → List ℕ
roots_of [] x = []
roots_of (d ∷ more) x = let y = put_part d x in last y ∷ roots_of more y

unfoldable pub part_mask : TypedPart → ℕ
part_mask d = mask_of d.names

unfoldable pub type_number : TypedClause → ℕ
type_number (pref_c d) = 1
type_number (init_c d₁ d₂) = 2
type_number (anti_c d) = 3
type_number (implies_c d₁ d₂) = 4
type_number (follows_c d₁ d₂ d₃) = 5
type_number (triggers_c d₁ d₂ d₃) = 6

-- a clause's fields where its parts are put after x; a root or mask that its type has not is 0
unfoldable pub fields_of : ℕ → TypedClause → Draft → StoredClause
fields_of role c x =
    let roots = roots_of (parts_of c) x in
    let masks = map part_mask (parts_of c) in
    record {
      clause_type = type_number c;
      role = role;
      root1 = get_or roots 0 0;
      root2 = get_or roots 1 0;
      root3 = get_or roots 2 0;
      mask1 = get_or masks 0 0;
      mask2 = get_or masks 1 0;
      mask3 = get_or masks 2 0;
    }

-- the two areas of a sheet
pub record Sketch : Type 0 where
  pub nodes : Draft
  pub clauses : Draft

unfoldable pub put_typed : ℕ → TypedClause → Sketch → Sketch
put_typed role c z =
    record { nodes = put_parts (parts_of c) z.nodes; clauses = put_clause (fields_of role c z.nodes) z.clauses }

unfoldable pub put_line : Line → Sketch → Sketch
put_line (assume_l c) z = put_typed 0 c z
put_line (require_l c) z = put_typed 1 c z

unfoldable pub put_lines : List Line → Sketch → Sketch
put_lines [] z = z
put_lines (l ∷ more) z = put_lines more (put_line l z)

-- ---- the sheet
unfoldable pub empty : Sketch
empty = record { nodes = draft (replicate (node_size * most_nodes) 0) 0; clauses = draft (replicate (clause_size * most_clauses) 0) 0 }

unfoldable pub sketch_of : TypedSheet → Sketch
sketch_of t = put_lines t.lines empty

-- 20. It has more than 64 nodes or 8 clauses.
unfoldable pub too_many : TypedSheet → Bool
too_many t = ltb most_nodes (sketch_of t).nodes.count || ltb most_clauses (sketch_of t).clauses.count

-- the header, the nodes, the clauses
unfoldable pub sheet_bytes : ℕ → ℕ → Draft → Draft → List ℕ
sheet_bytes s m nodes clauses =
    header_bytes requirement_kind (in_byte s) (in_byte m) nodes.count clauses.count
    ++ (take (node_size * nodes.count) nodes.bytes ++ take (clause_size * clauses.count) clauses.bytes)

-- the lent bytes, with these at their front
unfoldable pub front_of : List ℕ → List ℕ → List ℕ
front_of bytes out = bytes ++ drop (length bytes) out

-- lent bytes that were `before` and are `after`: the sheet at their front, whose length is `long`, and the later bytes unchanged
pub record Assembled (s m : ℕ) (nodes clauses : Draft) (before after : List ℕ) (long : ℕ) : Type 0 where
  pub bytes : after ≡ front_of (sheet_bytes s m nodes clauses) before
  pub size : long ≡ length (sheet_bytes s m nodes clauses)
  pub exact : long ≡ clauses_end nodes.count clauses.count

unfoldable pub typed_bytes : TypedSheet → List ℕ
typed_bytes t = sheet_bytes t.signals t.names (sketch_of t).nodes (sketch_of t).clauses
