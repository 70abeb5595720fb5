-- The finding from the first failing assumption and the first failing commitment, and the advice bit by bit.
use Rattle.std.proofs.Common.{ℕ, zero, suc, ◌+◌, ◌*◌, ◌%◌, ◌^◌, ◌≤◌, ◌<◌, arith, Bool, true, false, cond, inl, inr, eq-or-lt_of_le, ◌≡◌, refl, sym, ap, ap₂, ◌∙◌, bit_or, eqb, length, eq-eqb, ne_eqb, lt-ltb, Option, None, Some, is_some}
use Rattle.semantics.specs.Proposition.{Trace}
use Rattle.semantics.specs.Clause.{Role, assumption_role, commitment, advice, Clause, breaks, fails}
use Rattle.semantics.specs.Verdict as semantics
use Rattle.semantics.specs.Verdict.{has_role, fails_as, first_place, excused_or, broken_or, finding_of, advice_of}
use Rattle.semantics.proofs.Tests.{and_intro, and_false_left, and_false_right}
use Rattle.rows.specs.Row.{word}
use Rattle.rows.proofs.Rows.{word_set}
use Rattle.rows.proofs.Masks.{only_is}
use Rattle.stored.specs.declared.Node.{Node}
use Rattle.stored.specs.declared.StoredClause.{StoredClause}
use Rattle.stored.specs.Bytes.{in_order}
use Rattle.stored.specs.Clause.{last_role, clause_of, role_of}
use Rattle.stored.proofs.Roles.{same_role_lem}
use Rattle.checker.specs.declared.check.Finding.TheVariants.{Excused, Broken, Holds}
use Rattle.intervals.specs.Places.{places, numbered, IsLeast}
use Rattle.checker.specs.declared.failing.Failing.{Failing}
use Rattle.checker.specs.Check.{told}
use Rattle.checker.specs.Clauses.{PlaceIs, First, place_of}
use Rattle.intervals.proofs.Places.{fails_least, place_least}

-- ---- the first failing clause of a list in order
excused_none : (from n : ℕ) (f : ℕ → Clause) (σ : Trace) (v : semantics.Finding) → ((k : ℕ) → k < n → fails_as assumption_role σ (f k) ≡ false)
    → excused_or from (in_order n f) σ v ≡ v
unfolding in_order excused_or
excused_none from zero f σ v h = refl
excused_none from (suc n) f σ v h = rw (h 0 (omega arith)) (excused_none (suc from) n (λ i. f (suc i)) σ v (λ k l. h (suc k) (omega arith)))

excused_at : (from n : ℕ) (f : ℕ → Clause) (σ : Trace) (v : semantics.Finding) (k : ℕ) → k < n → ((j : ℕ) → j < k → fails_as assumption_role σ (f j) ≡ false)
    → fails_as assumption_role σ (f k) ≡ true → excused_or from (in_order n f) σ v ≡ semantics.Excused (from + k)
unfolding in_order excused_or
excused_at from zero f σ v k l h e = absurd (omega arith)
excused_at from (suc n) f σ v zero l h e = let z : from ≡ from + 0 = omega arith in rw e (ap semantics.Excused z)
excused_at from (suc n) f σ v (suc k) l h e =
    let z : suc from + k ≡ from + suc k = omega arith in
    rw (h 0 (omega arith)) (excused_at (suc from) n (λ i. f (suc i)) σ v k (omega arith) (λ j m. h (suc j) (omega arith)) e ∙ ap semantics.Excused z)

broken_none : (from n : ℕ) (f : ℕ → Clause) (σ : Trace) (v : semantics.Finding) → ((k : ℕ) → k < n → fails_as commitment σ (f k) ≡ false)
    → broken_or from (in_order n f) σ v ≡ v
unfolding in_order broken_or
broken_none from zero f σ v h = refl
broken_none from (suc n) f σ v h = rw (h 0 (omega arith)) (broken_none (suc from) n (λ i. f (suc i)) σ v (λ k l. h (suc k) (omega arith)))

broken_at : (from n : ℕ) (f : ℕ → Clause) (σ : Trace) (v : semantics.Finding) (k : ℕ) → k < n → ((j : ℕ) → j < k → fails_as commitment σ (f j) ≡ false)
    → fails_as commitment σ (f k) ≡ true → broken_or from (in_order n f) σ v ≡ semantics.Broken (first_place (from + k) (length σ) (breaks (f k) σ))
unfolding in_order broken_or
broken_at from zero f σ v k l h e = absurd (omega arith)
broken_at from (suc n) f σ v zero l h e =
    let z : from ≡ from + 0 = omega arith in
    rw e (ap (λ (c : ℕ). semantics.Broken (first_place c (length σ) (breaks (f 0) σ))) z)
broken_at from (suc n) f σ v (suc k) l h e =
    let z : suc from + k ≡ from + suc k = omega arith in
    rw (h 0 (omega arith))
    (broken_at (suc from) n (λ i. f (suc i)) σ v k (omega arith) (λ j m. h (suc j) (omega arith)) e
    ∙ ap (λ (c : ℕ). semantics.Broken (first_place c (length σ) (breaks (f (suc k)) σ))) z)

module _ (f : ℕ → Clause) (c : ℕ) (σ : Trace) where
  pub finding_excused : (x : Failing) → First assumption_role f c σ x → Excused x.clause ≡ told (finding_of (in_order c f) σ)
  unfolding finding_of told
  finding_excused x w =
      let k = x.clause in
      let z : 0 + k ≡ k = omega arith in
      sym (ap told (excused_at 0 c f σ (broken_or 0 (in_order c f) σ semantics.Holds) k w.below w.before w.here.fails ∙ ap semantics.Excused z))

  pub finding_broken : (x : Failing) → length σ ≤ 64 → ((j : ℕ) → j < c → fails_as assumption_role σ (f j) ≡ false) → First commitment f c σ x
      → Broken (place_of x.clause x.place) ≡ told (finding_of (in_order c f) σ)
  unfolding finding_of told place_of
  finding_broken x short h w =
      let k = x.clause in
      let z : 0 + k ≡ k = omega arith in
      sym (ap told
      (excused_none 0 c f σ (broken_or 0 (in_order c f) σ semantics.Holds) h
      ∙ broken_at 0 c f σ semantics.Holds k w.below w.before w.here.fails
      ∙ ap (λ (n : ℕ). semantics.Broken (first_place n (length σ) (breaks (f k) σ))) z
      ∙ ap semantics.Broken (place_least (f k) σ short x.place w.here.least k w.here.found)))

  pub finding_holds : ((j : ℕ) → j < c → fails_as assumption_role σ (f j) ≡ false) → ((j : ℕ) → j < c → fails_as commitment σ (f j) ≡ false)
      → Holds ≡ told (finding_of (in_order c f) σ)
  unfolding finding_of told
  finding_holds h g =
      sym (ap told (excused_none 0 c f σ (broken_or 0 (in_order c f) σ semantics.Holds) h ∙ broken_none 0 c f σ semantics.Holds g))

-- ---- one clause
role_of_lem : (x : ℕ → Node) (d : StoredClause) (role : ℕ) → role ≤ last_role → d.role ≤ last_role → has_role (role_of role) (clause_of x d) ≡ eqb role d.role
unfolding has_role clause_of
role_of_lem x d role h l = same_role_lem role d.role h l

module _ (x : ℕ → Node) (d : StoredClause) (role : ℕ) (h : role ≤ last_role) (l : d.role ≤ last_role) (σ : Trace) where
  -- another role
  pub other_role : (d.role ≡ role → ⊥) → fails_as (role_of role) σ (clause_of x d) ≡ false
  unfolding fails_as
  other_role ne = and_false_left (has_role (role_of role) (clause_of x d)) (fails (clause_of x d) σ) (role_of_lem x d role h l ∙ ne_eqb role d.role (λ e. ne (sym e)))

  module _ (short : length σ ≤ 64) (r : ℕ) (least : IsLeast places (numbered (length σ) (breaks (clause_of x d) σ)) r) where
    pub no_place : places ≤ r → fails_as (role_of role) σ (clause_of x d) ≡ false
    unfolding fails_as
    no_place m =
        and_false_right (has_role (role_of role) (clause_of x d)) (fails (clause_of x d) σ)
        (fails_least (clause_of x d) σ short r least ∙ borrow.Author.Tests.le-ltb r places m)

    pub some_place : d.role ≡ role → r < places → fails_as (role_of role) σ (clause_of x d) ≡ true
    unfolding fails_as
    some_place e m =
        and_intro (has_role (role_of role) (clause_of x d)) (fails (clause_of x d) σ) (role_of_lem x d role h l ∙ eq-eqb role d.role (sym e))
        (fails_least (clause_of x d) σ short r least ∙ lt-ltb r places m)

-- ---- the advice of a list in order, bit by bit
abbrev pub advised : (ℕ → Clause) → Trace → ℕ → Bool
advised f σ k = fails_as advice σ (f k)

pub advice_word : (n : ℕ) (f : ℕ → Clause) (σ : Trace) → word n (advised f σ) ≡ advice_of (in_order n f) σ
unfolding word in_order advice_of
advice_word zero f σ = refl
advice_word (suc n) f σ = ap (λ (x : ℕ). x * 2 + cond (fails_as advice σ (f 0)) 1 0) (advice_word n (λ k. f (suc k)) σ)

-- the bit of one clause more
pub advice_set : (k byte : ℕ) (p : ℕ → Bool) → k < 64 → byte ≡ word k p → p k ≡ true → bit_or byte (1 * 2 ^ k % 2 ^ 64) ≡ word (k + 1) p
advice_set k byte p h e t = ap₂ bit_or e (only_is 64 k h) ∙ word_set 64 k p h t

-- one more clause that does not fail
pub one_more : (p : ℕ → Bool) (k : ℕ) → ((j : ℕ) → j < k → p j ≡ false) → p k ≡ false → (j : ℕ) → j < k + 1 → p j ≡ false
one_more p k f e j h =
    let o : j ≤ k = omega arith in
    elim (eq-or-lt_of_le o) [ inl q ↦ rw q e | inr l ↦ f j l ]

-- whether a clause fails in its role, by whether it has a first broken place
pub fails_if_some : (r : Role) (c : Clause) (σ : Trace) (place : Option ℕ) → PlaceIs r c σ place → fails_as r σ c ≡ is_some place
fails_if_some r c σ None e = e
fails_if_some r c σ (Some x) h = h.fails
