-- Laws of rows written in a part of the words.
use Rattle.std.proofs.Common.{ltb, ltb-true, ltb-false, ℕ, ◌+◌, ◌*◌, ◌-◌, ◌≤◌, ◌<◌, List, ◌++◌, ◌≡◌, sym, ◌∙◌, ap, inl, inr, arith, length, get_or, take, drop, length-take-le, get_or-take, get_or-drop}
use Rattle.std.proofs.lemmas.List.{get_or-append_right, get_or_append_left}
use borrow.Rule.Slice.PartMut.{put_mid}
use Rattle.semantics.proofs.Tests.{test}
use Rattle.tables.specs.Table.{row_at}

module _ (at k : ℕ) (words part : List ℕ) (inside : at + k ≤ length words) (long : length part ≡ k) where
  pub put_part : (j : ℕ) → j < k → get_or (put_mid at k words part) (at + j) 0 ≡ get_or part j 0
  put_part j h =
      let same : at + j - at ≡ j = omega arith in
      get_or-append_right (take at words) (part ++ drop k (drop at words)) at (at + j) 0 (length-take-le at words (omega arith)) (omega arith)
      ∙ ap (λ (i : ℕ). get_or (part ++ drop k (drop at words)) i 0) same
      ∙ get_or_append_left part (drop k (drop at words)) 0 j (omega arith)

  pub put_before : (j : ℕ) → j < at → get_or (put_mid at k words part) j 0 ≡ get_or words j 0
  put_before j h =
      let front = length-take-le at words (omega arith) in
      get_or_append_left (take at words) (part ++ drop k (drop at words)) 0 j (omega arith) ∙ get_or-take at words j 0 h

  pub put_after : (j : ℕ) → at + k ≤ j → get_or (put_mid at k words part) j 0 ≡ get_or words j 0
  put_after j h =
      let same : at + (k + (j - at - k)) ≡ j = omega arith in
      get_or-append_right (take at words) (part ++ drop k (drop at words)) at j 0 (length-take-le at words (omega arith)) (omega arith)
      ∙ get_or-append_right part (drop k (drop at words)) k (j - at) 0 long (omega arith)
      ∙ get_or-drop k (drop at words) (j - at - k) 0
      ∙ get_or-drop at words (k + (j - at - k)) 0
      ∙ ap (λ (i : ℕ). get_or words i 0) same

  -- the rows of node i, which begin there, and those of the other nodes
  pub part_rows : (i b : ℕ) → at ≡ 64 * i → b < k → row_at (put_mid at k words part) i b ≡ get_or part b 0
  unfolding row_at
  part_rows i b e h = ap (λ (j : ℕ). get_or (put_mid at k words part) (j + b) 0) (sym e) ∙ put_part b h

  pub part_beside : (i m b : ℕ) → at ≡ 64 * i → k ≤ 64 → b < 64 → (m ≡ i → ⊥) → row_at (put_mid at k words part) m b ≡ row_at words m b
  unfolding row_at
  part_beside i m b e few l ne =
      elim (test (ltb m i)) [
        | inl s ↦ (let low = ltb-true m i s in put_before (64 * m + b) (omega arith))
        | inr s ↦ (let high = ltb-false m i s in let past : i < m = omega arith in put_after (64 * m + b) (omega arith))
      ]
