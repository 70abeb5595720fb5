-- What lasts of a verdict as cycles are added (request 7): a clause's first place never moves later, Broken stays Broken or becomes Excused,
-- Excused stays Excused, and no bit of advice is taken back. Then the same of the requirement.
use Rattle.std.proofs.Common.{ℕ, zero, suc, ◌≤◌, ◌<◌, arith, Bool, true, false, not, cond, ◌&&◌, ◌||◌, true≢false, List, [], ◌∷◌, ◌++◌, inl, inr, ◌≡◌, refl, sym, ◌∙◌, ltb, eqb, length, ltb-false, le-leb, eq-eqb}
use mathlib.Core.Bool.{false≢true}
use Rattle.semantics.specs.Proposition.{Trace, bit}
use Rattle.semantics.specs.Clause.{Role, assumption_role, commitment, advice, Clause, breaks, fails}
use Rattle.semantics.specs.Verdict.{has_role, fails_as, some_fails, requirement, Place, Finding, Excused, Broken, Holds, first_place, excused_or, broken_or, finding_of, advice_of, verdict}
use Rattle.semantics.specs.Lasting.{less_or, not_later, may_become, Lasting}
use Rattle.semantics.proofs.Tests.{test, and_intro, and_left, and_right, or_left, or_right, or_elim, or_false, false_not}
use Rattle.semantics.proofs.Bits.{bit_lowest, bit_higher}
use Rattle.semantics.proofs.Longer.{longer, breaks_longer, fails_longer}
use Rattle.semantics.proofs.Verdict.{Sooner, place_first}

-- ---- places
less_or_lem : (x y : ℕ) (rest : Bool) → (y < x → ⊥) → (x ≡ y → rest ≡ true) → less_or x y rest ≡ true
unfolding less_or
less_or_lem x y rest never same =
    elim (test (ltb x y)) [
      | inl e ↦ or_left (ltb x y) (eqb x y && rest) e
      | inr e ↦ (
          let least = ltb-false x y e in
          let equal : x ≡ y = omega (arith, never) in
          or_right (ltb x y) (eqb x y && rest) (and_intro (eqb x y) rest (eq-eqb x y equal) (same equal)))
    ]

clause_of_lem : (number n : ℕ) (broken : ℕ → ℕ → ℕ → Bool) → (first_place number n broken).clause ≡ number
unfolding first_place
clause_of_lem number n broken = refl

module _ (σ more : Trace) (number : ℕ) (c : Clause) where
  abbrev was : Place
  was = first_place number (length σ) (breaks c σ)

  abbrev is : Place
  is = first_place number (length (σ ++ more)) (breaks c (σ ++ more))

  -- it is still broken where it was first, so the first place comes no later
  none_sooner : fails c σ ≡ true → Sooner was.i was.j was.k is.i is.j is.k → ⊥
  unfolding fails
  none_sooner h sooner =
      let at = place_first number (length σ) (breaks c σ) h in
      let first = place_first number (length (σ ++ more)) (breaks c (σ ++ more)) (fails_longer σ more c h) in
      false_not (breaks c (σ ++ more) was.i was.j was.k)
      (first.before was.i was.j was.k (omega (arith, longer σ more, at.j_cycle)) (omega (arith, longer σ more, at.k_cycle)) sooner)
      (sym (breaks_longer σ more c was.i was.j was.k at.j_cycle at.k_cycle) ∙ at.ok)

  -- a failing clause's first place never moves later
  pub place_longer : fails c σ ≡ true → not_later is was ≡ true
  unfolding not_later
  place_longer h =
      let number_is = clause_of_lem number (length (σ ++ more)) (breaks c (σ ++ more)) in
      let number-was = clause_of_lem number (length σ) (breaks c σ) in
      less_or_lem is.clause was.clause _ (λ l. omega (arith, number_is, number-was)) (λ e.
      less_or_lem is.i was.i _ (λ l. none_sooner h (inl l)) (λ ei.
      less_or_lem is.j was.j _ (λ l. none_sooner h (inr (sym ei, inl l))) (λ ej.
      let never : was.k < is.k → ⊥ = λ l. none_sooner h (inr (sym ei, inr (sym ej, l))) in
      le-leb is.k was.k (omega (arith, never)))))

-- ---- findings
as_fails : (r : Role) (σ : Trace) (c : Clause) → fails_as r σ c ≡ true → fails c σ ≡ true
unfolding fails_as
as_fails r σ c h = and_right (has_role r c) (fails c σ) h

as_longer : (r : Role) (σ more : Trace) (c : Clause) → fails_as r σ c ≡ true → fails_as r (σ ++ more) c ≡ true
unfolding fails_as
as_longer r σ more c h =
    and_intro (has_role r c) (fails c (σ ++ more)) (and_left (has_role r c) (fails c σ) h) (fails_longer σ more c (as_fails r σ c h))

-- an earlier clause may be named
broken_sooner : (q : Place) (from : ℕ) (cs : List Clause) (σ : Trace) → q.clause < from → may_become (broken_or from cs σ Holds) (Broken q) ≡ true
unfolding broken_or may_become not_later
broken_sooner q from [] σ l = refl
broken_sooner q from (c ∷ cs) σ l = go (fails_as commitment σ c) (broken_sooner q (suc from) cs σ (omega arith))
  where
    go : (a : Bool) → may_become (broken_or (suc from) cs σ Holds) (Broken q) ≡ true
        → may_become (cond a (Broken (first_place from (length σ) (breaks c σ))) (broken_or (suc from) cs σ Holds)) (Broken q) ≡ true
    go true h =
        let number = clause_of_lem from (length σ) (breaks c σ) in
        less_or_lem q.clause (first_place from (length σ) (breaks c σ)).clause _ (λ m. omega arith) (λ e. absurd (omega arith))
    go false h = h

broken_excused : (m from : ℕ) (cs : List Clause) (σ : Trace) → may_become (broken_or from cs σ Holds) (Excused m) ≡ true
unfolding broken_or may_become
broken_excused m from [] σ = refl
broken_excused m from (c ∷ cs) σ = go (fails_as commitment σ c) (broken_excused m (suc from) cs σ)
  where
    go : (a : Bool) → may_become (broken_or (suc from) cs σ Holds) (Excused m) ≡ true
        → may_become (cond a (Broken (first_place from (length σ) (breaks c σ))) (broken_or (suc from) cs σ Holds)) (Excused m) ≡ true
    go true h = refl
    go false h = h

excused_sooner : (m from : ℕ) (cs : List Clause) (σ : Trace) (v : Finding) → m ≤ from → may_become v (Excused m) ≡ true
    → may_become (excused_or from cs σ v) (Excused m) ≡ true
unfolding excused_or may_become
excused_sooner m from [] σ v l h = h
excused_sooner m from (c ∷ cs) σ v l h = go (fails_as assumption_role σ c) (excused_sooner m (suc from) cs σ v (omega arith) h)
  where
    go : (a : Bool) → may_become (excused_or (suc from) cs σ v) (Excused m) ≡ true → may_become (cond a (Excused from) (excused_or (suc from) cs σ v)) (Excused m) ≡ true
    go true h = le-leb m from l
    go false h = h

module _ (σ more : Trace) where
  broken_longer : (from : ℕ) (cs : List Clause) → may_become (broken_or from cs σ Holds) (broken_or from cs (σ ++ more) Holds) ≡ true
  unfolding broken_or may_become
  broken_longer from [] = refl
  broken_longer from (c ∷ cs) = go (fails_as commitment σ c) (fails_as commitment (σ ++ more) c) refl (as_longer commitment σ more c) (broken_longer (suc from) cs)
    where
      was : Place
      was = first_place from (length σ) (breaks c σ)

      is : Place
      is = first_place from (length (σ ++ more)) (breaks c (σ ++ more))

      go : (a b : Bool) → fails_as commitment σ c ≡ a → (a ≡ true → b ≡ true)
          → may_become (broken_or (suc from) cs σ Holds) (broken_or (suc from) cs (σ ++ more) Holds) ≡ true
          → may_become (cond a (Broken was) (broken_or (suc from) cs σ Holds)) (cond b (Broken is) (broken_or (suc from) cs (σ ++ more) Holds)) ≡ true
      go true true e f h = place_longer σ more from c (as_fails commitment σ c e)
      go true false e f h = absurd (false≢true (f refl))
      go false true e f h =
          broken_sooner is (suc from) cs σ (let number = clause_of_lem from (length (σ ++ more)) (breaks c (σ ++ more)) in omega arith)
      go false false e f h = h

  excused_longer : (from : ℕ) (cs : List Clause) (v w : Finding) → ((m : ℕ) → may_become v (Excused m) ≡ true) → may_become v w ≡ true
      → may_become (excused_or from cs σ v) (excused_or from cs (σ ++ more) w) ≡ true
  unfolding excused_or may_become
  excused_longer from [] v w other h = h
  excused_longer from (c ∷ cs) v w other h =
      go (fails_as assumption_role σ c) (fails_as assumption_role (σ ++ more) c) (as_longer assumption_role σ more c) (excused_longer (suc from) cs v w other h)
    where
      go : (a b : Bool) → (a ≡ true → b ≡ true) → may_become (excused_or (suc from) cs σ v) (excused_or (suc from) cs (σ ++ more) w) ≡ true
          → may_become (cond a (Excused from) (excused_or (suc from) cs σ v)) (cond b (Excused from) (excused_or (suc from) cs (σ ++ more) w)) ≡ true
      go true true f h = le-leb from from (omega arith)
      go true false f h = absurd (false≢true (f refl))
      go false true f h = excused_sooner from (suc from) cs σ v (omega arith) (other from)
      go false false f h = h

  -- Broken stays Broken or becomes Excused, and Excused stays Excused
  pub finding_longer : (cs : List Clause) → may_become (finding_of cs σ) (finding_of cs (σ ++ more)) ≡ true
  unfolding finding_of
  finding_longer cs =
      excused_longer 0 cs (broken_or 0 cs σ Holds) (broken_or 0 cs (σ ++ more) Holds) (λ m. broken_excused m 0 cs σ) (broken_longer 0 cs)

  advice_longer : (cs : List Clause) (k : ℕ) → bit (advice_of cs σ) k ≡ true → bit (advice_of cs (σ ++ more)) k ≡ true
  unfolding advice_of
  advice_longer [] k h = h
  advice_longer (c ∷ cs) zero h =
      bit_lowest (advice_of cs (σ ++ more)) (fails_as advice (σ ++ more) c)
      ∙ as_longer advice σ more c (sym (bit_lowest (advice_of cs σ) (fails_as advice σ c)) ∙ h)
  advice_longer (c ∷ cs) (suc k) h =
      bit_higher (advice_of cs (σ ++ more)) (fails_as advice (σ ++ more) c) k
      ∙ advice_longer cs k (sym (bit_higher (advice_of cs σ) (fails_as advice σ c) k) ∙ h)

  -- the verdict on a trace lasts in the verdict on every trace that begins with it
  pub verdict_longer : (cs : List Clause) → Lasting (verdict cs σ) (verdict cs (σ ++ more))
  unfolding verdict
  verdict_longer cs = record { finding = finding_longer cs; advice = advice_longer cs }

  -- ---- the requirement
  some_longer : (r : Role) (cs : List Clause) → some_fails r cs σ ≡ true → some_fails r cs (σ ++ more) ≡ true
  unfolding some_fails
  some_longer r [] h = h
  some_longer r (c ∷ cs) h =
      elim (or_elim (fails_as r σ c) (some_fails r cs σ) h) [
        | inl e ↦ or_left (fails_as r (σ ++ more) c) (some_fails r cs (σ ++ more)) (as_longer r σ more c e)
        | inr e ↦ or_right (fails_as r (σ ++ more) c) (some_fails r cs (σ ++ more)) (some_longer r cs e)
      ]

  -- once it is false, it is true of a longer trace exactly if an assumption fails of that
  pub requirement_false : (cs : List Clause) → requirement cs σ ≡ false → requirement cs (σ ++ more) ≡ some_fails assumption_role cs (σ ++ more)
  unfolding requirement
  requirement_false cs h = go (some_fails assumption_role cs σ) (some_fails commitment cs σ) h (some_longer commitment cs)
    where
      go : (a b : Bool) → a || not b ≡ false → (b ≡ true → some_fails commitment cs (σ ++ more) ≡ true)
          → (some_fails assumption_role cs (σ ++ more) || not (some_fails commitment cs (σ ++ more))) ≡ some_fails assumption_role cs (σ ++ more)
      go true b h f = absurd (true≢false h)
      go false true h f = rw (f refl) (or_false (some_fails assumption_role cs (σ ++ more)))
      go false false h f = absurd (true≢false h)

  -- and from there on it is true
  pub requirement_true : (cs : List Clause) → some_fails assumption_role cs σ ≡ true → requirement cs (σ ++ more) ≡ true
  unfolding requirement
  requirement_true cs h = or_left (some_fails assumption_role cs (σ ++ more)) (not (some_fails commitment cs (σ ++ more))) (some_longer assumption_role cs h)
