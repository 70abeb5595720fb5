-- The turns of the search, over the three arrays of rows.
use Rattle.std.proofs.Common.{ℕ, ◌+◌, ◌/◌, ◌%◌, ◌≤◌, ◌<◌, min, arith, eq-or-lt_of_le, Bool, true, false, List, inl, inr, ◌≡◌, sym, ap, subst, ◌∙◌, get_or, ltb, ltb-true, ltb-false}
use Rattle.semantics.specs.Proposition.{bit}
use Rattle.semantics.specs.Clause.{ClauseType}
use Rattle.semantics.proofs.Tests.{test, and_intro, and_false_left, and_false_right}
use Rattle.rows.specs.Row.{word}
use Rattle.rows.proofs.Rows.{word_bit}
use Rattle.intervals.specs.Search.{missed}
use Rattle.intervals.specs.Places.{places, number, numbered, IsLeast}
use Rattle.intervals.specs.Rows.{test_of, starting, ending, unreplied, Next}
use Rattle.intervals.proofs.Found.{missed_is}
use Rattle.intervals.proofs.Places.{first_is_least, least_stay, least_below, numbered_false}

module _ (κ : ClauseType) (first third answers : List ℕ) (n : ℕ) where
  abbrev pub unanswered_at : ℕ → ℕ → ℕ → Bool
  unanswered_at i j k = missed κ (test_of first) (test_of third) (test_of answers) i j k

  -- nothing is found in rows before i; nor from i at ends before j; nor from i to j at cycles before k
  abbrev pub RowsPassed : ℕ → Type 0
  RowsPassed i = (i' j k : ℕ) → i' < i → j < n → k < n → unanswered_at i' j k ≡ false

  abbrev pub EndsPassed : ℕ → ℕ → Type 0
  EndsPassed i j = (j' k : ℕ) → j' < j → j' < n → k < n → unanswered_at i j' k ≡ false

  abbrev pub CyclesPassed : ℕ → ℕ → ℕ → Type 0
  CyclesPassed i j k = (k' : ℕ) → k' < k → k' < n → unanswered_at i j k' ≡ false

  module _ (i from : ℕ) (is : from ≡ word n (starting κ i (bit (get_or first i 0)) (bit (get_or answers i 0)))) where
    start_bit : (j : ℕ) → j < n → bit from j ≡ starting κ i (test_of first i) (test_of answers i) j
    unfolding test_of
    start_bit j h = ap (λ (x : ℕ). bit x j) is ∙ word_bit n (starting κ i (bit (get_or first i 0)) (bit (get_or answers i 0))) j h

    no_start : (j k : ℕ) → j < n → bit from j ≡ false → unanswered_at i j k ≡ false
    no_start j k h e =
        missed_is κ (test_of first) (test_of third) (test_of answers) i j k
        ∙ and_false_left (starting κ i (test_of first i) (test_of answers i) j) _ (sym (start_bit j h) ∙ e)

    pub first_end : (r : ℕ) → Next from 0 r → EndsPassed i r
    first_end r w j' k l h m = no_start j' k h (w.between j' (omega arith) l)

    pub next_end : (j r : ℕ) → Next from (j + 1) r → EndsPassed i j → CyclesPassed i j n → EndsPassed i r
    next_end j r w before here j' k l h m =
        elim (test (ltb j' j)) [
          | inl q ↦ before j' k (ltb-true j' j q) h m
          | inr q ↦
              let o : j ≤ j' = ltb-false j' j q in
              elim (eq-or-lt_of_le o) [
                | inl e ↦ subst (λ (x : ℕ). unanswered_at i x k ≡ false) e (here k m m)
                | inr p ↦ no_start j' k h (w.between j' (omega arith) l)
              ]
        ]

    module _ (j to : ℕ) (ends : to ≡ word n (ending κ i j (test_of third))) where
      end_bit : (k : ℕ) → k < n → bit to k ≡ ending κ i j (test_of third) k
      end_bit k h = ap (λ (x : ℕ). bit x k) ends ∙ word_bit n (ending κ i j (test_of third)) k h

      no_end : (k : ℕ) → k < n → bit to k ≡ false → unanswered_at i j k ≡ false
      no_end k h e =
          missed_is κ (test_of first) (test_of third) (test_of answers) i j k
          ∙ and_false_right (starting κ i (test_of first i) (test_of answers i) j) _
          (and_false_left (ending κ i j (test_of third) k) (unreplied κ i j (test_of answers) k) (sym (end_bit k h) ∙ e))

      replied : (k : ℕ) → unreplied κ i j (test_of answers) k ≡ false → unanswered_at i j k ≡ false
      replied k e =
          missed_is κ (test_of first) (test_of third) (test_of answers) i j k
          ∙ and_false_right (starting κ i (test_of first i) (test_of answers i) j) _
          (and_false_right (ending κ i j (test_of third) k) (unreplied κ i j (test_of answers) k) e)

      pub first_cycle : (r : ℕ) → Next to 0 r → CyclesPassed i j r
      first_cycle r w k' l h = no_end k' h (w.between k' (omega arith) l)

      pub next_cycle : (k r : ℕ) → Next to (k + 1) r → unreplied κ i j (test_of answers) k ≡ false → CyclesPassed i j k → CyclesPassed i j r
      next_cycle k r w e before k' l h =
          elim (test (ltb k' k)) [
            | inl q ↦ before k' (ltb-true k' k q) h
            | inr q ↦
                let o : k ≤ k' = ltb-false k' k q in
                elim (eq-or-lt_of_le o) [
                  | inl s ↦ subst (λ (x : ℕ). unanswered_at i j x ≡ false) s (replied k e)
                  | inr p ↦ no_end k' h (w.between k' (omega arith) l)
                ]
          ]

      -- the first place that is found
      pub found_least : (k best : ℕ) → best ≤ places → n ≤ 64 → i < n → j < n → k < n → bit from j ≡ true → bit to k ≡ true → unreplied κ i j (test_of answers) k ≡ true
          → RowsPassed i → EndsPassed i j → CyclesPassed i j k → IsLeast best (numbered n unanswered_at) (min (number i j k) best)
      found_least k best most s hi hj hk from-j to-k still rows ends cycles =
          least_below best most (first_is_least n unanswered_at i j k s
          (record {
            i_cycle = hi;
            j_cycle = hj;
            k_cycle = hk;
            ok =
                missed_is κ (test_of first) (test_of third) (test_of answers) i j k
                ∙ and_intro (starting κ i (test_of first i) (test_of answers i) j) _
                (sym (start_bit j hj) ∙ from-j) (and_intro (ending κ i j (test_of third) k) _ (sym (end_bit k hk) ∙ to-k) still);
            before = λ i' j' k' hj' hk'. elim [
              | inl l ↦ rows i' j' k' l hj' hk'
              | inr r ↦ rw r.0 (elim r.1 [ inl l ↦ ends j' k' l hj' hk' | inr e ↦ rw e.0 (cycles k' e.1 hk') ])
            ];
          }))

  pub next_row : (i : ℕ) → RowsPassed i → EndsPassed i n → RowsPassed (i + 1)
  next_row i rows ends i' j k l hj hk =
      let o : i' ≤ i = omega arith in
      elim (eq-or-lt_of_le o) [ inl q ↦ rw q (ends j k hj hj hk) | inr p ↦ rows i' j k p hj hk ]

  -- nothing in the rows of places before the best
  pub none_found : (best : ℕ) → RowsPassed (min n ((best + 4095) / 4096)) → IsLeast best (numbered n unanswered_at) best
  none_found best rows =
      least_stay (λ x l. numbered_false n unanswered_at x (λ hi hj hk. rows (x / 4096) (x / 64 % 64) (x % 64) (omega arith) hj hk))
