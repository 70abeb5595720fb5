-- A list filled from the front with f 0, f 1, ..
use Rattle.std.proofs.Common.{ℕ, ◌+◌, ◌≤◌, ◌<◌, List, inl, inr, ◌≡◌, sym, ◌∙◌, subst, arith, eqb-true, eqb, length, get_or, set, get_or-set_same, get_or-set_other, ext_get_or}
use borrow.Author.Tests.{eqb-false}
use Rattle.semantics.proofs.Tests.{test}
use Rattle.stored.specs.Bytes.{in_order}
use Rattle.stored.proofs.Rules.{length_in_order, get_or_in_order}

pub copied_more : (f : ℕ → ℕ) (l : List ℕ) (b v : ℕ) → b < length l → v ≡ f b → ((k : ℕ) → k < b → get_or l k 0 ≡ f k) → (k : ℕ) → k < b + 1 → get_or (set l b v) k 0 ≡ f k
copied_more f l b v h e before k m =
    elim (test (eqb k b)) [
      | inl s ↦ (
          let same = eqb-true k b s in
          subst (λ (j : ℕ). get_or (set l b v) j 0 ≡ f j) (sym same) (get_or-set_same l b v 0 h ∙ e))
      | inr s ↦ (
          let other = eqb-false k b s in
          get_or-set_other l b k v 0 other ∙ before k (omega arith))
    ]

pub copied_all : (f : ℕ → ℕ) (n : ℕ) (l : List ℕ) (b : ℕ) → n ≤ b → length l ≡ n → ((k : ℕ) → k < b → get_or l k 0 ≡ f k) → l ≡ in_order n f
copied_all f n l b h e all =
    ext_get_or 0 l (in_order n f) (e ∙ sym (length_in_order n f))
    (λ k m. let less : k < n = omega arith in all k (omega arith) ∙ sym (get_or_in_order n f k 0 less))
