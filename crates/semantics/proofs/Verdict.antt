-- The finding and the requirement: Broken exactly when the requirement is false, with the first failing commitment and its first broken place;
-- Excused with the first failing assumption.
use Rattle.std.proofs.Common.{ℕ, suc, ◌+◌, ◌<◌, arith, Bool, true, false, not, cond, ◌&&◌, ◌||◌, List, [], ◌∷◌, ◌++◌, ◌⊎◌, inl, inr, ◌≡◌, refl, sym, ap, ◌∙◌, length}
use Rattle.semantics.specs.Cycles.{some_below, first_below}
use Rattle.semantics.specs.Proposition.{Trace}
use Rattle.semantics.specs.Clause.{Role, assumption_role, commitment, Clause, breaks, fails}
use Rattle.semantics.specs.Verdict.{has_role, fails_as, some_fails, requirement, Place, Finding, Excused, Broken, Holds, is_broken, first_place, excused_or, broken_or, finding_of}
use Rattle.semantics.proofs.Tests.{is_false, false_not, and_left, and_right}
use Rattle.semantics.proofs.Cycles.{below_intro, first_least}

excused_broken : (from : ℕ) (cs : List Clause) (σ : Trace) (v : Finding)
    → is_broken (excused_or from cs σ v) ≡ (not (some_fails assumption_role cs σ) && is_broken v)
unfolding excused_or some_fails is_broken
excused_broken from [] σ v = refl
excused_broken from (c ∷ cs) σ v = go (fails_as assumption_role σ c) (excused_broken (suc from) cs σ v)
  where
    go : (a : Bool) → is_broken (excused_or (suc from) cs σ v) ≡ (not (some_fails assumption_role cs σ) && is_broken v)
        → is_broken (cond a (Excused from) (excused_or (suc from) cs σ v)) ≡ (not (a || some_fails assumption_role cs σ) && is_broken v)
    go true h = refl
    go false h = h

broken_broken : (from : ℕ) (cs : List Clause) (σ : Trace) → is_broken (broken_or from cs σ Holds) ≡ some_fails commitment cs σ
unfolding broken_or some_fails is_broken
broken_broken from [] σ = refl
broken_broken from (c ∷ cs) σ = go (fails_as commitment σ c) (broken_broken (suc from) cs σ)
  where
    go : (a : Bool) → is_broken (broken_or (suc from) cs σ Holds) ≡ some_fails commitment cs σ
        → is_broken (cond a (Broken (first_place from (length σ) (breaks c σ))) (broken_or (suc from) cs σ Holds)) ≡ (a || some_fails commitment cs σ)
    go true h = refl
    go false h = h

-- Broken exactly when the requirement is false
pub broken_exactly : (cs : List Clause) (σ : Trace) → is_broken (finding_of cs σ) ≡ not (requirement cs σ)
unfolding finding_of requirement
broken_exactly cs σ =
    excused_broken 0 cs σ (broken_or 0 cs σ Holds)
    ∙ ap (λ (b : Bool). not (some_fails assumption_role cs σ) && b) (broken_broken 0 cs σ)
    ∙ go (some_fails assumption_role cs σ) (some_fails commitment cs σ)
  where
    go : (a b : Bool) → not a && b ≡ not (a || not b)
    go true b = refl
    go false true = refl
    go false false = refl

-- the clause has that number in the list, counted from `from`, and is the first of its role that fails
pub record FirstFailing (r : Role) (from : ℕ) (cs : List Clause) (σ : Trace) (number : ℕ) (clause : Clause) : Type 0 where
  pub earlier : List Clause
  pub later : List Clause
  pub split : cs ≡ earlier ++ clause ∷ later
  pub counted : number ≡ from + length earlier
  pub role : has_role r clause ≡ true
  pub failing : fails clause σ ≡ true
  pub first : some_fails r earlier σ ≡ false

here : (r : Role) (from : ℕ) (c : Clause) (cs : List Clause) (σ : Trace) → fails_as r σ c ≡ true → FirstFailing r from (c ∷ cs) σ from c
unfolding fails_as some_fails
here r from c cs σ h =
    record {
      earlier = [];
      later = cs;
      split = refl;
      counted = omega arith;
      role = and_left (has_role r c) (fails c σ) h;
      failing = and_right (has_role r c) (fails c σ) h;
      first = refl;
    }

there : (r : Role) (from : ℕ) (c : Clause) (cs : List Clause) (σ : Trace) (number : ℕ) (d : Clause) → fails_as r σ c ≡ false
    → FirstFailing r (suc from) cs σ number d → FirstFailing r from (c ∷ cs) σ number d
unfolding some_fails
there r from c cs σ number d h w =
    record {
      earlier = c ∷ w.earlier;
      later = w.later;
      split = ap (λ (l : List Clause). c ∷ l) w.split;
      counted = omega (arith, w.counted);
      role = w.role;
      failing = w.failing;
      first = rw h w.first;
    }

never : (n : ℕ) (p : Place) → Excused n ≡ Broken p → ⊥
never n p h = let z : ◌≡◌ {A = ℕ} 0 1 = cc in omega arith

excused_from : (from : ℕ) (cs : List Clause) (σ : Trace) (v : Finding) (n : ℕ) → (v ≡ Excused n → ⊥) → excused_or from cs σ v ≡ Excused n
    → (c : Clause) × FirstFailing assumption_role from cs σ n c
unfolding excused_or
excused_from from [] σ v n f h = absurd (f h)
excused_from from (c ∷ cs) σ v n f h = go (fails_as assumption_role σ c) refl h (excused_from (suc from) cs σ v n f)
  where
    go : (a : Bool) → fails_as assumption_role σ c ≡ a → cond a (Excused from) (excused_or (suc from) cs σ v) ≡ Excused n
        → (excused_or (suc from) cs σ v ≡ Excused n → (d : Clause) × FirstFailing assumption_role (suc from) cs σ n d)
        → (d : Clause) × FirstFailing assumption_role from (c ∷ cs) σ n d
    go true e h f = (c, let q : from ≡ n = cc in rw (← q) (here assumption_role from c cs σ e))
    go false e h f = let w = f h in (w.0, there assumption_role from c cs σ n w.0 e w.1)

broken_not_excused : (from : ℕ) (cs : List Clause) (σ : Trace) (n : ℕ) → broken_or from cs σ Holds ≡ Excused n → ⊥
unfolding broken_or
broken_not_excused from [] σ n h = let z : ◌≡◌ {A = ℕ} 0 1 = cc in omega arith
broken_not_excused from (c ∷ cs) σ n h = go (fails_as commitment σ c) h (broken_not_excused (suc from) cs σ n)
  where
    go : (a : Bool) → cond a (Broken (first_place from (length σ) (breaks c σ))) (broken_or (suc from) cs σ Holds) ≡ Excused n
        → (broken_or (suc from) cs σ Holds ≡ Excused n → ⊥) → ⊥
    go true h f = never n (first_place from (length σ) (breaks c σ)) (sym h)
    go false h f = f h

-- Excused carries the first failing assumption
pub excused_first : (cs : List Clause) (σ : Trace) (n : ℕ) → finding_of cs σ ≡ Excused n → (c : Clause) × FirstFailing assumption_role 0 cs σ n c
unfolding finding_of
excused_first cs σ n h = excused_from 0 cs σ (broken_or 0 cs σ Holds) n (broken_not_excused 0 cs σ n) h

-- i', j', k' come before i, j, k
abbrev pub Sooner : ℕ → ℕ → ℕ → ℕ → ℕ → ℕ → Type 0
Sooner i' j' k' i j k = (i' < i) ⊎ ((i' ≡ i) × ((j' < j) ⊎ ((j' ≡ j) × (k' < k))))

-- i, j, k are cycles at which the clause is broken, and it is broken at none that come before
pub record FirstPlace (n : ℕ) (broken : ℕ → ℕ → ℕ → Bool) (i j k : ℕ) : Type 0 where
  pub i_cycle : i < n
  pub j_cycle : j < n
  pub k_cycle : k < n
  pub ok : broken i j k ≡ true
  pub before : (i' j' k' : ℕ) → j' < n → k' < n → Sooner i' j' k' i j k → broken i' j' k' ≡ false

pub place_first : (clause n : ℕ) (broken : ℕ → ℕ → ℕ → Bool)
    → some_below n (λ i. some_below n (λ j. some_below n (λ k. broken i j k))) ≡ true
    → FirstPlace n broken (first_place clause n broken).i (first_place clause n broken).j (first_place clause n broken).k
unfolding first_place
place_first clause n broken h =
    let at_i = first_least n (λ i. some_below n (λ j. some_below n (λ k. broken i j k))) h in
    let at_j = first_least n (λ j. some_below n (λ k. broken i j k)) at_i.ok in
    let at-k = first_least n (λ k. broken i j k) at_j.ok in
    record {
      i_cycle = at_i.high;
      j_cycle = at_j.high;
      k_cycle = at-k.high;
      ok = at-k.ok;
      before = λ i' j' k' hj hk. elim [
        | inl l ↦ is_false (broken i' j' k') (λ q.
            false_not (some_below n (λ j. some_below n (λ k. broken i' j k))) (at_i.before i' l)
            (below_intro n (λ j. some_below n (λ k. broken i' j k)) j' hj (below_intro n (λ k. broken i' j' k) k' hk q)))
        | inr r ↦ rw r.0 (elim r.1 [
          | inl l ↦ is_false (broken i j' k') (λ q.
              false_not (some_below n (λ k. broken i j' k)) (at_j.before j' l) (below_intro n (λ k. broken i j' k) k' hk q))
          | inr e ↦ rw e.0 (at-k.before k' e.1)
        ])
      ];
    }
  where
    i : ℕ
    i = first_below n (λ i. some_below n (λ j. some_below n (λ k. broken i j k)))

    j : ℕ
    j = first_below n (λ j. some_below n (λ k. broken i j k))

-- a place that Broken carries: the first failing commitment, and its first broken place
pub record FirstBroken (from : ℕ) (cs : List Clause) (σ : Trace) (p : Place) : Type 0 where
  pub commitment_of : Clause
  pub failing : FirstFailing commitment from cs σ p.clause commitment_of
  pub place : FirstPlace (length σ) (breaks commitment_of σ) p.i p.j p.k

broken_here : (from : ℕ) (c : Clause) (cs : List Clause) (σ : Trace) → fails_as commitment σ c ≡ true
    → FirstBroken from (c ∷ cs) σ (first_place from (length σ) (breaks c σ))
unfolding first_place fails fails_as
broken_here from c cs σ e =
    record {
      commitment_of = c;
      failing = here commitment from c cs σ e;
      place = place_first from (length σ) (breaks c σ) (and_right (has_role commitment c) (fails c σ) e);
    }

broken_from : (from : ℕ) (cs : List Clause) (σ : Trace) (p : Place) → broken_or from cs σ Holds ≡ Broken p → FirstBroken from cs σ p
unfolding broken_or
broken_from from [] σ p h = absurd (let z : ◌≡◌ {A = ℕ} 0 1 = cc in omega arith)
broken_from from (c ∷ cs) σ p h = go (fails_as commitment σ c) refl h (broken_from (suc from) cs σ p)
  where
    go : (a : Bool) → fails_as commitment σ c ≡ a
        → cond a (Broken (first_place from (length σ) (breaks c σ))) (broken_or (suc from) cs σ Holds) ≡ Broken p
        → (broken_or (suc from) cs σ Holds ≡ Broken p → FirstBroken (suc from) cs σ p) → FirstBroken from (c ∷ cs) σ p
    go true e h f = let q : first_place from (length σ) (breaks c σ) ≡ p = cc in rw (← q) (broken_here from c cs σ e)
    go false e h f =
        let w = f h in
        record { commitment_of = w.commitment_of; failing = there commitment from c cs σ p.clause w.commitment_of e w.failing; place = w.place }

excused_through : (from : ℕ) (cs : List Clause) (σ : Trace) (v : Finding) (p : Place) → excused_or from cs σ v ≡ Broken p → v ≡ Broken p
unfolding excused_or
excused_through from [] σ v p h = h
excused_through from (c ∷ cs) σ v p h = go (fails_as assumption_role σ c) h (excused_through (suc from) cs σ v p)
  where
    go : (a : Bool) → cond a (Excused from) (excused_or (suc from) cs σ v) ≡ Broken p → (excused_or (suc from) cs σ v ≡ Broken p → v ≡ Broken p)
        → v ≡ Broken p
    go true h f = absurd (never from p h)
    go false h f = f h

pub broken_first : (cs : List Clause) (σ : Trace) (p : Place) → finding_of cs σ ≡ Broken p → FirstBroken 0 cs σ p
unfolding finding_of
broken_first cs σ p h = broken_from 0 cs σ p (excused_through 0 cs σ (broken_or 0 cs σ Holds) p h)
