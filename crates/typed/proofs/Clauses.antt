-- A line's clause, read back, is what the line says.
use Rattle.std.proofs.Common.{ℕ, zero, suc, ◌+◌, ◌≤◌, ◌<◌, Bool, true, false, ◌&&◌, ◌||◌, List, [], ◌∷◌, ◌++◌, map, ◌≡◌, refl, sym, ◌∙◌, ap, ap₂, arith, ltb-true, ltb, eqb, length, get_or}
use mathlib.Core.Path.{fun_ext}
use lib.Dec.{eqb-suc-suc}
use Rattle.semantics.specs.Proposition.{bit}
use Rattle.semantics.specs.Formula.{Formula}
use Rattle.semantics.specs.Placement.{Names}
use Rattle.semantics.specs.Clause.{Part, Clause}
use Rattle.semantics.proofs.Tests.{and_left, and_right, and_true_right}
use Rattle.semantics.proofs.Bits.{bit_suc}
use Rattle.rows.proofs.Bits.{bit_nothing, bit_one, bit_or_lem, same_bits}
use Rattle.stored.specs.declared.Node.{Node}
use Rattle.stored.specs.Bytes.{in_order}
use Rattle.stored.specs.Node.{node_at}
use Rattle.stored.specs.Tree.{formula_at}
use Rattle.stored.specs.Reach.{joint, name_mask}
use Rattle.stored.specs.Clause.{stored_at, type_of, role_of, part_of, clause_of}
use Rattle.stored.proofs.Tree.{formula_agree}
use Rattle.stored.proofs.Reach.{joint_zero_l, joint_zero_r, joint_small, name_small}
use Rattle.grammar.specs.Tree.{TypedPart, TypedClause, pref_c, anti_c, init_c, implies_c, follows_c, triggers_c, Line, assume_l, require_l}
use Rattle.grammar.specs.Spelled.{is_among}
use Rattle.grammar.specs.Small.{small_or_f, small_names, small_part, small_clause, small_line, small_lines}
use Rattle.typed.specs.Meaning.{meant_names, meant_part, parts_of, meant_type, meant_clause, meant_line, meant_lines}
use Rattle.typed.specs.Draft.{Draft, added, last, put_part, mask_of, put_clause, Sketch, put_parts, roots_of, part_mask, type_number, fields_of, put_typed, put_line, put_lines}
use Rattle.typed.proofs.Areas.{Kept, kept_self, kept_then, node_kept, stored_kept, clause_kept, clause_read}
use Rattle.typed.proofs.Trees.{Grew, grew_or_f, formula_last, says_or_f}

-- ---- names
name_bit : (u v : ℕ) → u < 3 → bit (name_mask u) v ≡ eqb v u
unfolding name_mask bit
name_bit zero v h = bit_one v
name_bit (suc zero) zero h = refl
name_bit (suc zero) (suc v) h = bit_suc 2 v ∙ bit_one v ∙ sym (eqb-suc-suc v 0)
name_bit (suc (suc zero)) zero h = refl
name_bit (suc (suc zero)) (suc zero) h = refl
name_bit (suc (suc zero)) (suc (suc v)) h = bit_suc 4 (suc v) ∙ bit_suc 2 v ∙ bit_one v ∙ sym (eqb-suc-suc v 0) ∙ sym (eqb-suc-suc (suc v) 1)
name_bit (suc (suc (suc u))) v h = absurd (omega arith)

joint_assoc : (a b c : ℕ) → a < 8 → b < 8 → c < 8 → joint (joint a b) c ≡ joint a (joint b c)
unfolding joint
joint_assoc a b c p q r =
    same_bits 3 (joint (joint a b) c) (joint a (joint b c))
    (joint_small (joint a b) c (joint_small a b p q) r)
    (joint_small a (joint b c) p (joint_small b c q r))
    (λ k h. joint_bit (joint a b) c k ∙ ap (λ (x : Bool). x || bit c k) (joint_bit a b k)
    ∙ or_assoc (bit a k) (bit b k) (bit c k)
    ∙ sym (joint_bit a (joint b c) k ∙ ap (λ (x : Bool). bit a k || x) (joint_bit b c k)))
  where
    or_assoc : (x y z : Bool) → ((x || y) || z) ≡ (x || (y || z))
    or_assoc true y z = refl
    or_assoc false y z = refl

    joint_bit : (a b k : ℕ) → bit (joint a b) k ≡ (bit a k || bit b k)
    joint_bit a b k = bit_or_lem a b k

pub mask_bit : (names : List ℕ) (v : ℕ) → small_names names ≡ true → bit (mask_of names) v ≡ is_among v names
unfolding mask_of is_among small_names joint
mask_bit [] v h = bit_nothing v
mask_bit (u ∷ more) v h =
    bit_or_lem (name_mask u) (mask_of more) v
    ∙ ap₂ (λ (x y : Bool). x || y)
    (name_bit u v (ltb-true u 3 (and_left (ltb u 3) (small_names more) h)))
    (mask_bit more v (and_right (ltb u 3) (small_names more) h))

-- a mask is built name by name
pub mask_small : (names : List ℕ) → mask_of names < 8
unfolding mask_of
mask_small [] = omega arith
mask_small (u ∷ more) = joint_small (name_mask u) (mask_of more) (name_small u) (mask_small more)

pub mask_next : (names : List ℕ) (u : ℕ) → mask_of (names ++ (u ∷ [])) ≡ joint (mask_of names) (name_mask u)
unfolding mask_of
mask_next [] u = joint_zero_r (name_mask u) ∙ sym (joint_zero_l (name_mask u))
mask_next (v ∷ more) u =
    ap (joint (name_mask v)) (mask_next more u)
    ∙ sym (joint_assoc (name_mask v) (mask_of more) (name_mask u) (name_small v) (mask_small more) (name_small u))

mask_read : (names : List ℕ) → small_names names ≡ true → bit (mask_of names) ≡ meant_names names
unfolding meant_names
mask_read names h = fun_ext (λ v. mask_bit names v h)

-- ---- parts: x's nodes are those of d
abbrev pub Agrees : (ℕ → Node) → Draft → Type 0
Agrees x d = (i : ℕ) → i < d.count → x i ≡ node_at d.bytes i

agrees_before : {x : ℕ → Node} {d e : Draft} → Kept 6 d e → Agrees x e → Agrees x d
agrees_before k a i h = let more = k.more in a i (omega arith) ∙ node_kept k i h

part_grew : (d : TypedPart) (y : Draft) → Grew y (put_part d y)
unfolding put_part
part_grew d y = grew_or_f d.formula y

-- the tree at the last node of a part goes by these nodes
part_tree : (d : TypedPart) (y : Draft) (x : ℕ → Node) → Agrees x (put_part d y) → formula_at x (last (put_part d y)) ≡ formula_last (put_part d y)
unfolding formula_last last
part_tree d y x a =
    let more = (part_grew d y).grown in
    formula_agree x (node_at (put_part d y).bytes) (last (put_part d y)) (λ k l. a k (omega arith))

part_read : (d : TypedPart) (y : Draft) (x : ℕ → Node) → small_part d ≡ true → length y.bytes ≡ 384 → (put_part d y).count ≤ 64
    → Agrees x (put_part d y) → part_of x (last (put_part d y)) (mask_of d.names) ≡ meant_part d
unfolding part_of meant_part small_part put_part
part_read d y x h long few a =
    ap₂ (λ (f : Formula) (s : Names). let p : Part = record { formula = f; names = s } in p)
    (part_tree d y x a ∙ says_or_f d.formula y (and_left (small_or_f d.formula) (small_names d.names) h) long few)
    (mask_read d.names (and_right (small_or_f d.formula) (small_names d.names) h))

parts_kept : (ds : List TypedPart) (y : Draft) → Kept 6 y (put_parts ds y)
unfolding put_parts
parts_kept [] y = kept_self 6 y
parts_kept (d ∷ more) y = kept_then (part_grew d y).kept (parts_kept more (put_part d y))

small_parts : List TypedPart → Bool
small_parts [] = true
small_parts (d ∷ more) = small_part d && small_parts more

small_parts_lem : (c : TypedClause) → small_clause c ≡ true → small_parts (parts_of c) ≡ true
unfolding small_parts small_clause parts_of
small_parts_lem (pref_c d) h = rw h
small_parts_lem (init_c d₁ d₂) h = rw and_true_right h
small_parts_lem (anti_c d) h = rw h
small_parts_lem (implies_c d₁ d₂) h = rw and_true_right h
small_parts_lem (follows_c d₁ d₂ d₃) h = rw and_true_right h
small_parts_lem (triggers_c d₁ d₂ d₃) h = rw and_true_right h

-- part k, or what root 0 and mask 0 give
parts_read : (ds : List TypedPart) (y : Draft) (x : ℕ → Node) (k : ℕ) → small_parts ds ≡ true → length y.bytes ≡ 384
    → (put_parts ds y).count ≤ 64 → Agrees x (put_parts ds y)
    → part_of x (get_or (roots_of ds y) k 0) (get_or (map part_mask ds) k 0) ≡ get_or (map meant_part ds) k (part_of x 0 0)
unfolding small_parts put_parts roots_of part_mask
parts_read [] y x k h long few a = refl
parts_read (d ∷ more) y x zero h long few a =
    let rest = parts_kept more (put_part d y) in
    let kept = rest.more in
    part_read d y x (and_left (small_part d) (small_parts more) h) long (omega arith) (agrees_before rest a)
parts_read (d ∷ more) y x (suc k) h long few a =
    parts_read more (put_part d y) x k (and_right (small_part d) (small_parts more) h) ((part_grew d y).kept.long ∙ long) few a

-- ---- clauses
-- y became z by one clause more; the nodes and clauses before it stand as they stood
pub record Wrote (y z : Sketch) : Type 0 where
  pub nodes : Kept 6 y.nodes z.nodes
  pub clauses : Kept 11 y.clauses z.clauses
  pub one : z.clauses.count ≡ suc y.clauses.count

-- there is room for it, and x gives its nodes
pub record Fits (x : ℕ → Node) (y z : Sketch) : Type 0 where
  pub long : length y.nodes.bytes ≡ 384
  pub wide : length y.clauses.bytes ≡ 88
  pub few : z.nodes.count ≤ 64
  pub room : y.clauses.count < 8
  pub agrees : Agrees x z.nodes

typed_wrote : (role : ℕ) (c : TypedClause) (y : Sketch) → Wrote y (put_typed role c y)
unfolding put_typed put_clause added
typed_wrote role c y =
    record { nodes = parts_kept (parts_of c) y.nodes; clauses = clause_kept (fields_of role c y.nodes) y.clauses; one = refl }

type_read : (c : TypedClause) → type_of (type_number c) ≡ meant_type c
unfolding type_of type_number meant_type
type_read (pref_c d) = refl
type_read (init_c d₁ d₂) = refl
type_read (anti_c d) = refl
type_read (implies_c d₁ d₂) = refl
type_read (follows_c d₁ d₂ d₃) = refl
type_read (triggers_c d₁ d₂ d₃) = refl

-- the clause written last
typed_read : (role : ℕ) (c : TypedClause) (y : Sketch) (x : ℕ → Node) → small_clause c ≡ true → Fits x y (put_typed role c y)
    → clause_of x (stored_at (put_typed role c y).clauses.bytes y.clauses.count) ≡ meant_clause (part_of x 0 0) (role_of role) c
unfolding put_typed clause_of fields_of meant_clause
typed_read role c y x h fits =
    rw (clause_read (fields_of role c y.nodes) y.clauses fits.wide fits.room, type_read c, part 0, part 1, part 2)
  where
    part : (k : ℕ)
        → part_of x (get_or (roots_of (parts_of c) y.nodes) k 0) (get_or (map part_mask (parts_of c)) k 0)
        ≡ get_or (map meant_part (parts_of c)) k (part_of x 0 0)
    part k = parts_read (parts_of c) y.nodes x k (small_parts_lem c h) fits.long fits.few fits.agrees

pub line_wrote : (l : Line) (y : Sketch) → Wrote y (put_line l y)
unfolding put_line
line_wrote (assume_l c) y = typed_wrote 0 c y
line_wrote (require_l c) y = typed_wrote 1 c y

line_read : (l : Line) (y : Sketch) (x : ℕ → Node) → small_line l ≡ true → Fits x y (put_line l y)
    → clause_of x (stored_at (put_line l y).clauses.bytes y.clauses.count) ≡ meant_line (part_of x 0 0) l
unfolding put_line meant_line small_line role_of
line_read (assume_l c) y x h fits = typed_read 0 c y x h fits
line_read (require_l c) y x h fits = typed_read 1 c y x h fits

-- ---- lines
pub record WroteLines (y z : Sketch) (n : ℕ) : Type 0 where
  pub nodes : Kept 6 y.nodes z.nodes
  pub clauses : Kept 11 y.clauses z.clauses
  pub all : z.clauses.count ≡ y.clauses.count + n

pub lines_wrote : (ls : List Line) (y : Sketch) → WroteLines y (put_lines ls y) (length ls)
unfolding put_lines
lines_wrote [] y = record { nodes = kept_self 6 y.nodes; clauses = kept_self 11 y.clauses; all = omega arith }
lines_wrote (l ∷ more) y =
    let first = line_wrote l y in
    let rest = lines_wrote more (put_line l y) in
    let one = first.one in
    let all = rest.all in
    record { nodes = kept_then first.nodes rest.nodes; clauses = kept_then first.clauses rest.clauses; all = omega arith }

-- g gives the clauses from the next one of y on
pub lines_read : (ls : List Line) (y : Sketch) (x : ℕ → Node) (g : ℕ → Clause) → small_lines ls ≡ true
    → length y.nodes.bytes ≡ 384 → length y.clauses.bytes ≡ 88
    → (put_lines ls y).nodes.count ≤ 64 → (put_lines ls y).clauses.count ≤ 8 → Agrees x (put_lines ls y).nodes
    → ((k : ℕ) → k < length ls → g k ≡ clause_of x (stored_at (put_lines ls y).clauses.bytes (y.clauses.count + k)))
    → in_order (length ls) g ≡ meant_lines (part_of x 0 0) ls
unfolding put_lines meant_lines in_order small_lines
lines_read [] y x g h long wide few room a is = refl
lines_read (l ∷ more) y x g h long wide few room a is =
    let y' = put_line l y in
    let z = put_lines more y' in
    let first = line_wrote l y in
    let rest = lines_wrote more y' in
    let one = first.one in
    let kept = rest.nodes.more in
    let all = rest.all in
    let here : y.clauses.count + 0 ≡ y.clauses.count = omega arith in
    let fits : Fits x y y' =
    record { long = long; wide = wide; few = omega arith; room = omega arith; agrees = agrees_before rest.nodes a }
    in
    ap₂ (λ (c : Clause) (cs : List Clause). c ∷ cs)
    (is 0 (omega arith)
    ∙ ap (λ (k : ℕ). clause_of x (stored_at z.clauses.bytes k)) here
    ∙ ap (clause_of x) (stored_kept rest.clauses y.clauses.count (omega arith))
    ∙ line_read l y x (and_left (small_line l) (small_lines more) h) fits)
    (lines_read more y' x (λ i. g (suc i)) (and_right (small_line l) (small_lines more) h)
    (first.nodes.long ∙ long) (first.clauses.long ∙ wide) few room a
    (λ k l.
    let next : y.clauses.count + suc k ≡ y'.clauses.count + k = omega arith in
    is (suc k) (omega arith) ∙ ap (λ (j : ℕ). clause_of x (stored_at z.clauses.bytes j)) next))
