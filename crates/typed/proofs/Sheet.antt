-- The stored sheet that a typed sheet is, read back: its header, its clauses and its verdicts are what the typed sheet says.
use Rattle.std.proofs.Common.{ℕ, suc, ◌+◌, ◌-◌, ◌*◌, ◌≤◌, ◌<◌, Bool, true≢false, true, false, not, cond, ◌&&◌, ◌||◌, List, [], ◌∷◌, ◌≡◌, refl, sym, ◌∙◌, ap, ap₂, zero-add, arith, ltb-false, leb-false, le-leb, eq-eqb, leb, ltb, length, take, drop, length-append, drop-drop, length-take-le, get_or-take, take_at, drop_at, take_all}
use mathlib.Core.Path.{fun_ext}
use borrow.Author.Tests.{lt-leb}
use lib.ListN.{length-replicate}
use Rattle.semantics.specs.Proposition.{Trace}
use Rattle.semantics.specs.Clause.{Part, Role, assumption_role, commitment, Clause, breaks_at, breaks, fails}
use Rattle.semantics.specs.Cycles.{some_below}
use Rattle.semantics.specs.Verdict.{same_role, fails_as, has_role, some_fails, requirement, Finding, Broken, Excused, Holds, excused_or, broken_or, finding_of, advice_of, verdict, first_place}
use Rattle.semantics.proofs.Tests.{and_right, and_intro}
use Rattle.rows.proofs.Masks.{up_to_step}
use Rattle.stored.specs.declared.Header.{Header}
use Rattle.stored.specs.declared.nodes.Use.TheVariants.{Symbol}
use Rattle.stored.specs.Bytes.{word, framed_from, in_order}
use Rattle.stored.specs.Node.{field_right}
use Rattle.stored.specs.Clause.{stored_at, part_of, clause_of}
use Rattle.stored.specs.Sheet.{header_of, node_part, clause_part, nodes_of, stored_of, framed, versioned, of_kind_one, counted, sized, clause_in, clauses_of, requirement_of}
use Rattle.stored.proofs.Written.{halves, node_same}
use Rattle.stored.specs.Written.{header_bytes}
use Rattle.stored.specs.Layout.{following, clauses_end}
use Rattle.grammar.specs.Tree.{TypedClause, pref_c, anti_c, init_c, implies_c, follows_c, triggers_c, Line, assume_l, require_l, TypedSheet}
use Rattle.grammar.specs.Small.{small_lines, small_sheet}
use Rattle.typed.specs.Meaning.{parts_of, meant_type, meant_clause, meant_line, meant_lines, clauses_meant}
use Rattle.typed.specs.Draft.{Draft, empty, sketch_of, too_many, in_byte, sheet_bytes, typed_bytes}
use Rattle.typed.proofs.Areas.{stored_same}
use Rattle.typed.proofs.Clauses.{Agrees, lines_wrote, lines_read}

or_false_left : (a b : Bool) → (a || b) ≡ false → a ≡ false
or_false_left true b h = h
or_false_left false b h = refl

or_false_right : (a b : Bool) → (a || b) ≡ false → b ≡ false
or_false_right true b h = absurd (true≢false h)
or_false_right false b h = h

-- a number kept in a byte is in a range of small numbers exactly if it is there itself
pub in_byte_most : (v k : ℕ) → k < 255 → leb (in_byte v) k ≡ leb v k
unfolding in_byte
in_byte_most v k h = go (leb v 255) refl
  where
    go : (b : Bool) → leb v 255 ≡ b → leb (cond b v 255) k ≡ leb v k
    go true e = refl
    go false e = let large = leb-false v 255 e in lt-leb 255 k (omega arith) ∙ sym (lt-leb v k (omega arith))

pub in_byte_some : (v : ℕ) → leb 1 (in_byte v) ≡ leb 1 v
unfolding in_byte
in_byte_some v = go (leb v 255) refl
  where
    go : (b : Bool) → leb v 255 ≡ b → leb 1 (cond b v 255) ≡ leb 1 v
    go true e = refl
    go false e = let large = leb-false v 255 e in sym (le-leb 1 v (omega arith))

-- rule 6 answers as it would for a drawing's symbol itself
pub in_byte_symbol : (s m q : ℕ) → field_right s m Symbol (in_byte q) ≡ field_right s m Symbol q
unfolding field_right
in_byte_symbol s m q =
    up_to_step (in_byte q) 7 ∙ in_byte_most q 7 (omega arith) ∙ sym (up_to_step q 7)

-- ---- any drafts x of the nodes and y of the clauses, of which no more are counted than were written
pub record Whole (x y : Draft) : Type 0 where
  pub nodes_there : 6 * x.count ≤ length x.bytes
  pub clauses_there : 11 * y.count ≤ length y.bytes

module _ (s m : ℕ) (x y : Draft) where
  pub sheet_header : header_of (sheet_bytes s m x y) ≡ record { signals = in_byte s; names = in_byte m; nodes = x.count; clauses = y.count }
  unfolding header_of word sheet_bytes header_bytes
  sheet_header = rw (halves x.count)

  module _ (whole : Whole x y) where
    nodes_long : length (take (6 * x.count) x.bytes) ≡ 6 * x.count
    nodes_long = length-take-le (6 * x.count) x.bytes whole.nodes_there

    clauses_long : length (take (11 * y.count) y.bytes) ≡ 11 * y.count
    clauses_long = length-take-le (11 * y.count) y.bytes whole.clauses_there

    pub sheet_length : length (sheet_bytes s m x y) ≡ 9 + 6 * x.count + 11 * y.count
    unfolding sheet_bytes header_bytes
    sheet_length =
        let both = length-append (take (6 * x.count) x.bytes) (take (11 * y.count) y.bytes) in
        let n = nodes_long in
        let c = clauses_long in
        omega arith

    -- rules 1, 2, 3 and 5 are kept
    pub sheet_framed : framed (sheet_bytes s m x y) ≡ true
    unfolding framed framed_from word sheet_bytes header_bytes
    sheet_framed =
        let long = sheet_length in
        let z = length (sheet_bytes s m x y) in
        let rest = halves (following (clauses_end x.count y.count)) in
        let all : following (clauses_end x.count y.count) ≡ z - 2 = omega arith in
        and_intro _ _ (le-leb 9 z (omega arith)) (eq-eqb _ (z - 2) (rest ∙ all))

    pub sheet_versioned : versioned (sheet_bytes s m x y) ≡ true
    unfolding versioned sheet_bytes header_bytes
    sheet_versioned = refl

    pub sheet_of_kind_one : of_kind_one (sheet_bytes s m x y) ≡ true
    unfolding of_kind_one sheet_bytes header_bytes
    sheet_of_kind_one = refl

    pub sheet_sized : sized (sheet_bytes s m x y) ≡ true
    unfolding sized
    sheet_sized = rw sheet_header (eq-eqb _ _ sheet_length)

    -- the two areas
    nodes_cut : 9 + 6 * x.count - 9 ≡ 6 * x.count
    nodes_cut = omega arith

    nodes_front : take (6 * x.count) (drop 9 (sheet_bytes s m x y)) ≡ take (6 * x.count) x.bytes
    unfolding sheet_bytes header_bytes
    nodes_front = take_at (take (6 * x.count) x.bytes) (take (11 * y.count) y.bytes) (6 * x.count) nodes_long

    nodes_part : node_part (sheet_bytes s m x y) ≡ take (6 * x.count) x.bytes
    unfolding node_part
    nodes_part = rw (sheet_header, nodes_cut) nodes_front

    clauses_cut : 9 + 6 * x.count + 11 * y.count - (9 + 6 * x.count) ≡ 11 * y.count
    clauses_cut = omega arith

    clauses_rest : drop (9 + 6 * x.count) (sheet_bytes s m x y) ≡ take (11 * y.count) y.bytes
    unfolding sheet_bytes header_bytes
    clauses_rest =
        sym (drop-drop (6 * x.count) 9 (sheet_bytes s m x y))
        ∙ drop_at (take (6 * x.count) x.bytes) (take (11 * y.count) y.bytes) (6 * x.count) nodes_long

    clauses_part : clause_part (sheet_bytes s m x y) ≡ take (11 * y.count) y.bytes
    unfolding clause_part
    clauses_part =
        rw (sheet_header, clauses_cut, clauses_rest)
        (take_all (11 * y.count) (take (11 * y.count) y.bytes) (omega (arith, clauses_long)))

    -- the nodes and the clauses that are counted
    pub sheet_nodes : Agrees (nodes_of (sheet_bytes s m x y)) x
    unfolding nodes_of
    sheet_nodes i h =
        rw nodes_part
        (node_same (take (6 * x.count) x.bytes) x.bytes i (λ r l. get_or-take (6 * x.count) x.bytes (6 * i + r) 0 (omega arith)))

    pub sheet_clauses : (k : ℕ) → k < y.count → stored_of (sheet_bytes s m x y) k ≡ stored_at y.bytes k
    unfolding stored_of
    sheet_clauses k h =
        rw clauses_part
        (stored_same (take (11 * y.count) y.bytes) y.bytes k (λ r l. get_or-take (11 * y.count) y.bytes (11 * k + r) 0 (omega arith)))

-- ---- a typed sheet of no more than 64 nodes and 8 clauses
pub record Few (t : TypedSheet) : Type 0 where
  pub nodes : (sketch_of t).nodes.count ≤ 64
  pub clauses : (sketch_of t).clauses.count ≤ 8

pub few_of : (t : TypedSheet) → too_many t ≡ false → Few t
unfolding too_many
few_of t h =
    let n = (sketch_of t).nodes.count in
    let c = (sketch_of t).clauses.count in
    record { nodes = ltb-false 64 n (or_false_left (ltb 64 n) (ltb 8 c) h); clauses = ltb-false 8 c (or_false_right (ltb 64 n) (ltb 8 c) h) }

empty_nodes : length empty.nodes.bytes ≡ 384
unfolding empty
empty_nodes = length-replicate {A = ℕ} 384 0

empty_clauses : length empty.clauses.bytes ≡ 88
unfolding empty
empty_clauses = length-replicate {A = ℕ} 88 0

empty_none : empty.clauses.count ≡ 0
unfolding empty
empty_none = refl

pub typed_whole : (t : TypedSheet) → Few t → Whole (sketch_of t).nodes (sketch_of t).clauses
unfolding sketch_of
typed_whole t few =
    let wrote = lines_wrote t.lines empty in
    let n = wrote.nodes.long ∙ empty_nodes in
    let c = wrote.clauses.long ∙ empty_clauses in
    let p = few.nodes in
    let q = few.clauses in
    record { nodes_there = omega arith; clauses_there = omega arith }

-- as many clauses as lines
pub typed_many : (t : TypedSheet) → (sketch_of t).clauses.count ≡ length t.lines
unfolding sketch_of empty
typed_many t = (lines_wrote t.lines empty).all ∙ zero-add (length t.lines)

pub typed_header : (t : TypedSheet)
    → header_of (typed_bytes t)
    ≡ record {
      signals = in_byte t.signals;
      names = in_byte t.names;
      nodes = (sketch_of t).nodes.count;
      clauses = (sketch_of t).clauses.count;
    }
unfolding typed_bytes
typed_header t = sheet_header t.signals t.names (sketch_of t).nodes (sketch_of t).clauses

-- rules 1, 2, 3 and 5 are kept
module _ (t : TypedSheet) (h : too_many t ≡ false) where
  whole : Whole (sketch_of t).nodes (sketch_of t).clauses
  whole = typed_whole t (few_of t h)

  pub typed_framed : framed (typed_bytes t) ≡ true
  unfolding typed_bytes
  typed_framed = sheet_framed t.signals t.names (sketch_of t).nodes (sketch_of t).clauses whole

  pub typed_versioned : versioned (typed_bytes t) ≡ true
  unfolding typed_bytes
  typed_versioned = sheet_versioned t.signals t.names (sketch_of t).nodes (sketch_of t).clauses whole

  pub typed_of_kind_one : of_kind_one (typed_bytes t) ≡ true
  unfolding typed_bytes
  typed_of_kind_one = sheet_of_kind_one t.signals t.names (sketch_of t).nodes (sketch_of t).clauses whole

  pub typed_sized : sized (typed_bytes t) ≡ true
  unfolding typed_bytes
  typed_sized = sheet_sized t.signals t.names (sketch_of t).nodes (sketch_of t).clauses whole

-- rule 4 answers as it would for s and m themselves
pub typed_counted : (t : TypedSheet)
    → counted (header_of (typed_bytes t))
    ≡ counted (record { signals = t.signals; names = t.names; nodes = (sketch_of t).nodes.count; clauses = (sketch_of t).clauses.count })
unfolding counted
typed_counted t =
    rw (
      typed_header t,
      in_byte_some t.signals,
      in_byte_most t.signals 16 (omega arith),
      in_byte_most t.names 3 (omega arith),
    )

small_lines_lem : (t : TypedSheet) → small_sheet t ≡ true → small_lines t.lines ≡ true
unfolding small_sheet
small_lines_lem t h =
    and_right (leb t.names 65535) (small_lines t.lines)
    (and_right (leb t.signals 65535) (leb t.names 65535 && small_lines t.lines) h)

-- the clauses; a part that a type has not is what root 0 and mask 0 give
pub typed_clauses : (t : TypedSheet) → too_many t ≡ false → small_sheet t ≡ true
    → clauses_of (typed_bytes t) ≡ clauses_meant (part_of (nodes_of (typed_bytes t)) 0 0) t
unfolding clauses_of clause_in clauses_meant typed_bytes sketch_of
typed_clauses t h small =
    let few = few_of t h in
    let z = sketch_of t in
    let whole = typed_whole t few in
    let many = typed_many t in
    let s = typed_bytes t in
    let counted : (header_of s).clauses ≡ length t.lines = ap (λ (x : Header). x.clauses) (typed_header t) ∙ many in
    ap (λ (n : ℕ). in_order n (clause_in s)) counted
    ∙ lines_read t.lines empty (nodes_of s) (clause_in s) (small_lines_lem t small) empty_nodes empty_clauses few.nodes few.clauses
    (sheet_nodes t.signals t.names z.nodes z.clauses whole)
    (λ k l.
    let here : k ≡ empty.clauses.count + k = first k in
    ap (clause_of (nodes_of s))
    (sheet_clauses t.signals t.names z.nodes z.clauses whole k (omega arith)
    ∙ ap (stored_at z.clauses.bytes) here))
  where
    first : (k : ℕ) → k ≡ empty.clauses.count + k
    first k = omega (arith, empty_none)

-- ---- what stands for a part that a type has not says nothing
unused_breaks : (u u' : Part) (r : Role) (c : TypedClause) (σ : Trace) (i j k : ℕ)
    → breaks (meant_clause u r c) σ i j k ≡ breaks (meant_clause u' r c) σ i j k
unfolding breaks breaks_at meant_clause meant_type parts_of
unused_breaks u u' r (pref_c d) σ i j k = refl
unused_breaks u u' r (init_c d₁ d₂) σ i j k = refl
unused_breaks u u' r (anti_c d) σ i j k = refl
unused_breaks u u' r (implies_c d₁ d₂) σ i j k = refl
unused_breaks u u' r (follows_c d₁ d₂ d₃) σ i j k = refl
unused_breaks u u' r (triggers_c d₁ d₂ d₃) σ i j k = refl

-- c and c' have one role and are broken at the same places
record Alike (c c' : Clause) : Type 0 where
  role_same : c.role ≡ c'.role
  breaks_same : (σ : Trace) → breaks c σ ≡ breaks c' σ

unused_clause : (u u' : Part) (r : Role) (c : TypedClause) → Alike (meant_clause u r c) (meant_clause u' r c)
unfolding meant_clause
unused_clause u u' r c =
    record {
      role_same = refl;
      breaks_same = λ σ. fun_ext (λ i. fun_ext (λ j. fun_ext (λ k. unused_breaks u u' r c σ i j k)));
    }

unused_line : (u u' : Part) (l : Line) → Alike (meant_line u l) (meant_line u' l)
unfolding meant_line
unused_line u u' (assume_l c) = unused_clause u u' assumption_role c
unused_line u u' (require_l c) = unused_clause u u' commitment c

alike_fails : {c c' : Clause} → Alike c c' → (r : Role) (σ : Trace) → fails_as r σ c ≡ fails_as r σ c'
unfolding fails_as has_role fails
alike_fails {c} {c'} a r σ =
    let n = length σ in
    ap₂ (λ (o : Role) (b : ℕ → ℕ → ℕ → Bool). same_role r o && some_below n (λ i. some_below n (λ j. some_below n (λ k. b i j k))))
    a.role_same (a.breaks_same σ)

module _ (u u' : Part) (σ : Trace) where
  unused_fails : (r : Role) (ls : List Line) → some_fails r (meant_lines u ls) σ ≡ some_fails r (meant_lines u' ls) σ
  unfolding some_fails meant_lines
  unused_fails r [] = refl
  unused_fails r (l ∷ more) = ap₂ (λ (x y : Bool). x || y) (alike_fails (unused_line u u' l) r σ) (unused_fails r more)

  unused_excused : (from : ℕ) (ls : List Line) (v : Finding) → excused_or from (meant_lines u ls) σ v ≡ excused_or from (meant_lines u' ls) σ v
  unfolding excused_or meant_lines
  unused_excused from [] v = refl
  unused_excused from (l ∷ more) v =
      ap₂ (λ (x : Bool) (y : Finding). cond x (Excused from) y) (alike_fails (unused_line u u' l) assumption_role σ) (unused_excused (suc from) more v)

  unused_broken : (from : ℕ) (ls : List Line) (v : Finding) → broken_or from (meant_lines u ls) σ v ≡ broken_or from (meant_lines u' ls) σ v
  unfolding broken_or meant_lines
  unused_broken from [] v = refl
  unused_broken from (l ∷ more) v =
      let a = unused_line u u' l in
      ap₂ (λ (x : Bool) (y : Finding). cond x (Broken (first_place from (length σ) (breaks (meant_line u l) σ))) y)
      (alike_fails a commitment σ) (unused_broken (suc from) more v)
      ∙ ap
      (λ (b : ℕ → ℕ → ℕ → Bool).
      cond (fails_as commitment σ (meant_line u' l)) (Broken (first_place from (length σ) b)) (broken_or (suc from) (meant_lines u' more) σ v))
      (a.breaks_same σ)

  pub unused_requirement : (t : TypedSheet) → requirement (clauses_meant u t) σ ≡ requirement (clauses_meant u' t) σ
  unfolding requirement clauses_meant
  unused_requirement t =
      ap₂ (λ (x y : Bool). x || not y) (unused_fails assumption_role t.lines) (unused_fails commitment t.lines)

  unused_finding : (t : TypedSheet) → finding_of (clauses_meant u t) σ ≡ finding_of (clauses_meant u' t) σ
  unfolding finding_of clauses_meant
  unused_finding t =
      unused_excused 0 t.lines (broken_or 0 (meant_lines u t.lines) σ Holds)
      ∙ ap (excused_or 0 (meant_lines u' t.lines) σ) (unused_broken 0 t.lines Holds)

-- no word makes a typed clause advice
no_advice : (u : Part) (σ : Trace) (ls : List Line) → advice_of (meant_lines u ls) σ ≡ 0
unfolding advice_of meant_lines meant_line meant_clause fails_as has_role same_role
no_advice u σ [] = refl
no_advice u σ (assume_l c ∷ more) = ap (λ (x : ℕ). x * 2 + 0) (no_advice u σ more)
no_advice u σ (require_l c ∷ more) = ap (λ (x : ℕ). x * 2 + 0) (no_advice u σ more)

-- a typed sheet's verdict is its finding alone
pub typed_alone : (u : Part) (σ : Trace) (t : TypedSheet) → verdict (clauses_meant u t) σ ≡ record { finding = finding_of (clauses_meant u t) σ; advice = 0 }
unfolding verdict clauses_meant
typed_alone u σ t = ap (λ (x : ℕ). record { finding = finding_of (clauses_meant u t) σ; advice = x }) (no_advice u σ t.lines)

unused_verdict : (u u' : Part) (σ : Trace) (t : TypedSheet) → verdict (clauses_meant u t) σ ≡ verdict (clauses_meant u' t) σ
unused_verdict u u' σ t =
    typed_alone u σ t
    ∙ ap (λ (f : Finding). record { finding = f; advice = 0 }) (unused_finding u u' σ t)
    ∙ sym (typed_alone u' σ t)

-- ---- the stored sheet's requirement and verdicts are those of what the typed sheet says, whatever stands for unused parts
module _ (t : TypedSheet) (h : too_many t ≡ false) (small : small_sheet t ≡ true) (unused : Part) (σ : Trace) where
  pub typed_requirement : requirement_of (typed_bytes t) σ ≡ requirement (clauses_meant unused t) σ
  unfolding requirement_of
  typed_requirement =
      ap (λ (cs : List Clause). requirement cs σ) (typed_clauses t h small)
      ∙ unused_requirement (part_of (nodes_of (typed_bytes t)) 0 0) unused σ t

  pub typed_verdict : verdict (clauses_of (typed_bytes t)) σ ≡ verdict (clauses_meant unused t) σ
  typed_verdict =
      ap (λ (cs : List Clause). verdict cs σ) (typed_clauses t h small)
      ∙ unused_verdict (part_of (nodes_of (typed_bytes t)) 0 0) unused σ t
