-- A clause fails exactly if it is broken at some place; the ranges of i, j and k for each type.
use Rattle.std.proofs.Common.{ℕ, suc, ◌-◌, ◌<◌, arith, Bool, true, ◌&&◌, ◌≡◌, refl, leb, eqb, leb-true, le-leb, eq-eqb}
use Rattle.semantics.specs.Cycles.{some_below, some_from, some_in}
use Rattle.semantics.specs.Placement.{Names, Placement, some_placement}
use Rattle.semantics.proofs.Tests.{same, and_intro, and_left, and_right}
use Rattle.semantics.proofs.Cycles.{below_intro, below_elim, some_intro, some_elim}
use Rattle.semantics.proofs.Placement.{placement_intro, placement_elim}

-- some i, j and k below n pass
unfoldable pub some_three : ℕ → (ℕ → ℕ → ℕ → Bool) → Bool
some_three n p = some_below n (λ i. some_below n (λ j. some_below n (λ k. p i j k)))

pub record Three (n : ℕ) (p : ℕ → ℕ → ℕ → Bool) : Type 0 where
  pub i : ℕ
  pub j : ℕ
  pub k : ℕ
  pub i_below : i < n
  pub j_below : j < n
  pub k_below : k < n
  pub ok : p i j k ≡ true

pub three_intro : (n : ℕ) (p : ℕ → ℕ → ℕ → Bool) → Three n p → some_three n p ≡ true
unfolding some_three
three_intro n p w =
    below_intro n (λ i. some_below n (λ j. some_below n (λ k. p i j k))) w.i w.i_below
    (below_intro n (λ j. some_below n (λ k. p w.i j k)) w.j w.j_below
    (below_intro n (λ k. p w.i w.j k) w.k w.k_below w.ok))

pub three_elim : (n : ℕ) (p : ℕ → ℕ → ℕ → Bool) → some_three n p ≡ true → Three n p
unfolding some_three
three_elim n p h =
    let wi = below_elim n (λ i. some_below n (λ j. some_below n (λ k. p i j k))) h in
    let wj = below_elim n (λ j. some_below n (λ k. p wi.at j k)) wi.ok in
    let wk = below_elim n (λ k. p wi.at wj.at k) wj.ok in
    record {
      i = wi.at;
      j = wj.at;
      k = wk.at;
      i_below = wi.high;
      j_below = wj.high;
      k_below = wk.high;
      ok = wk.ok;
    }

module _ (n : ℕ) (positive : 0 < n) where
  -- i is 0 and k is j
  pub from_start : (p : ℕ → Bool) → some_three n (λ i j k. eqb i 0 && eqb k j && p j) ≡ some_in 0 (n - 1) p
  from_start p =
      same (some_three n (λ i j k. eqb i 0 && eqb k j && p j)) (some_in 0 (n - 1) p)
      (λ h. let w = three_elim n (λ i j k. eqb i 0 && eqb k j && p j) h in
      some_intro 0 (suc (n - 1)) p w.j (omega arith) (omega (arith, w.j_below))
      (and_right (eqb w.i 0 && eqb w.k w.j) (p w.j) w.ok))
      (λ h. let w = some_elim 0 (suc (n - 1)) p h in
      three_intro n (λ i j k. eqb i 0 && eqb k j && p j)
      (record {
        i = 0;
        j = w.at;
        k = w.at;
        i_below = positive;
        j_below = omega (arith, w.high);
        k_below = omega (arith, w.high);
        ok = and_intro (eqb w.at w.at) (p w.at) (eq-eqb w.at w.at refl) w.ok;
      }))

  -- i is at most j and k is j
  pub on_intervals : (p : ℕ → ℕ → Bool)
      → some_three n (λ i j k. leb i j && eqb k j && p i j) ≡ some_in 0 (n - 1) (λ i. some_in i (n - 1) (p i))
  on_intervals p =
      same (some_three n (λ i j k. leb i j && eqb k j && p i j)) (some_in 0 (n - 1) (λ i. some_in i (n - 1) (p i)))
      (λ h. let w = three_elim n (λ i j k. leb i j && eqb k j && p i j) h in
      let l = leb-true w.i w.j (and_left (leb w.i w.j) (eqb w.k w.j)
      (and_left (leb w.i w.j && eqb w.k w.j) (p w.i w.j) w.ok)) in
      some_intro 0 (suc (n - 1)) (λ i. some_in i (n - 1) (p i)) w.i (omega arith) (omega (arith, w.i_below))
      (some_intro w.i (suc (n - 1)) (p w.i) w.j l (omega (arith, w.j_below))
      (and_right (leb w.i w.j && eqb w.k w.j) (p w.i w.j) w.ok)))
      (λ h. let wi = some_elim 0 (suc (n - 1)) (λ i. some_in i (n - 1) (p i)) h in
      let wj = some_elim wi.at (suc (n - 1)) (p wi.at) wi.ok in
      three_intro n (λ i j k. leb i j && eqb k j && p i j)
      (record {
        i = wi.at;
        j = wj.at;
        k = wj.at;
        i_below = omega (arith, wi.high);
        j_below = omega (arith, wj.high);
        k_below = omega (arith, wj.high);
        ok =
            and_intro (leb wi.at wj.at && eqb wj.at wj.at) (p wi.at wj.at)
            (and_intro (leb wi.at wj.at) (eqb wj.at wj.at) (le-leb wi.at wj.at wj.low) (eq-eqb wj.at wj.at refl))
            wj.ok;
      }))

  -- i is at most j, and k is at or after the cycle at which the answer starts
  pub on_answers : (start : ℕ → ℕ → ℕ) (p : ℕ → ℕ → ℕ → Bool)
      → some_three n (λ i j k. leb i j && leb (start i j) k && p i j k)
      ≡ some_in 0 (n - 1) (λ i. some_in i (n - 1) (λ j. some_in (start i j) (n - 1) (p i j)))
  on_answers start p =
      same (some_three n (λ i j k. leb i j && leb (start i j) k && p i j k))
      (some_in 0 (n - 1) (λ i. some_in i (n - 1) (λ j. some_in (start i j) (n - 1) (p i j))))
      (λ h. let w = three_elim n (λ i j k. leb i j && leb (start i j) k && p i j k) h in
      let both = and_left (leb w.i w.j && leb (start w.i w.j) w.k) (p w.i w.j w.k) w.ok in
      some_intro 0 (suc (n - 1)) (λ i. some_in i (n - 1) (λ j. some_in (start i j) (n - 1) (p i j))) w.i (omega arith) (omega (arith, w.i_below))
      (some_intro w.i (suc (n - 1)) (λ j. some_in (start w.i j) (n - 1) (p w.i j)) w.j
      (leb-true w.i w.j (and_left (leb w.i w.j) (leb (start w.i w.j) w.k) both)) (omega (arith, w.j_below))
      (some_intro (start w.i w.j) (suc (n - 1)) (p w.i w.j) w.k
      (leb-true (start w.i w.j) w.k (and_right (leb w.i w.j) (leb (start w.i w.j) w.k) both)) (omega (arith, w.k_below))
      (and_right (leb w.i w.j && leb (start w.i w.j) w.k) (p w.i w.j w.k) w.ok))))
      (λ h. let wi = some_elim 0 (suc (n - 1)) (λ i. some_in i (n - 1) (λ j. some_in (start i j) (n - 1) (p i j))) h in
      let wj = some_elim wi.at (suc (n - 1)) (λ j. some_in (start wi.at j) (n - 1) (p wi.at j)) wi.ok in
      let wk = some_elim (start wi.at wj.at) (suc (n - 1)) (p wi.at wj.at) wj.ok in
      three_intro n (λ i j k. leb i j && leb (start i j) k && p i j k)
      (record {
        i = wi.at;
        j = wj.at;
        k = wk.at;
        i_below = omega (arith, wi.high);
        j_below = omega (arith, wj.high);
        k_below = omega (arith, wk.high);
        ok =
            and_intro (leb wi.at wj.at && leb (start wi.at wj.at) wk.at) (p wi.at wj.at wk.at)
            (and_intro (leb wi.at wj.at) (leb (start wi.at wj.at) wk.at)
            (le-leb wi.at wj.at wj.low) (le-leb (start wi.at wj.at) wk.at wk.low))
            wk.ok;
      }))

-- a test that does not depend on the cycle goes in and out of a choice of cycles
pub and_some : (a : Bool) (b e : ℕ) (p : ℕ → Bool) → a && some_from b e p ≡ some_from b e (λ i. a && p i)
and_some a b e p =
    same (a && some_from b e p) (some_from b e (λ i. a && p i))
    (λ h. let w = some_elim b e p (and_right a (some_from b e p) h) in
    some_intro b e (λ i. a && p i) w.at w.low w.high (and_intro a (p w.at) (and_left a (some_from b e p) h) w.ok))
    (λ h. let w = some_elim b e (λ i. a && p i) h in
    and_intro a (some_from b e p) (and_left a (p w.at) w.ok)
    (some_intro b e p w.at w.low w.high (and_right a (p w.at) w.ok)))

pub some_and : (a : Bool) (b e : ℕ) (p : ℕ → Bool) → some_from b e p && a ≡ some_from b e (λ i. p i && a)
some_and a b e p =
    same (some_from b e p && a) (some_from b e (λ i. p i && a))
    (λ h. let w = some_elim b e p (and_left (some_from b e p) a h) in
    some_intro b e (λ i. p i && a) w.at w.low w.high (and_intro (p w.at) a w.ok (and_right (some_from b e p) a h)))
    (λ h. let w = some_elim b e (λ i. p i && a) h in
    and_intro (some_from b e p) a (some_intro b e p w.at w.low w.high (and_left (p w.at) a w.ok))
    (and_right (p w.at) a w.ok))

-- a cycle and a placement are chosen in either order
pub swap : (names : Names) (x y : ℕ) (ν : Placement) (b e : ℕ) (q : Placement → ℕ → Bool)
    → some_placement names x y ν (λ ν'. some_from b e (q ν')) ≡ some_from b e (λ j. some_placement names x y ν (λ ν'. q ν' j))
swap names x y ν b e q =
    same (some_placement names x y ν (λ ν'. some_from b e (q ν'))) (some_from b e (λ j. some_placement names x y ν (λ ν'. q ν' j)))
    (λ h. let w = placement_elim names x y ν (λ ν'. some_from b e (q ν')) h in
    let v = some_elim b e (q w.to) w.ok in
    some_intro b e (λ j. some_placement names x y ν (λ ν'. q ν' j)) v.at v.low v.high
    (placement_intro names x y ν (λ ν'. q ν' v.at) w.to w.agreeing v.ok))
    (λ h. let v = some_elim b e (λ j. some_placement names x y ν (λ ν'. q ν' j)) h in
    let w = placement_elim names x y ν (λ ν'. q ν' v.at) v.ok in
    placement_intro names x y ν (λ ν'. some_from b e (q ν')) w.to w.agreeing
    (some_intro b e (q w.to) v.at v.low v.high w.ok))
