-- What is made by recursion on earlier numbers.
use Rattle.std.proofs.Common.{ℕ, zero, suc, ◌+◌, ◌≤◌, ◌<◌, Bool, true, false, inl, inr, ◌≡◌, refl, sym, ◌∙◌, ap, arith, ltb-true, ltb-false, lt-ltb, le-ltb, ltb}
use mathlib.Core.Path.{fun_ext}
use Rattle.stored.specs.Tree.{pick, earlier, deep, made}
use Rattle.semantics.proofs.Tests.{test}

module _ {A : Type 0} where
  pub earlier_at : (i : ℕ) (d : A) (t : ℕ → A) (k : ℕ) → k < i → earlier i d t k ≡ t k
  unfolding earlier pick
  earlier_at i d t k h = rw (lt-ltb k i h)

  pub earlier_same : (i : ℕ) (d : A) (t t' : ℕ → A) (k : ℕ) → (k < i → t k ≡ t' k) → earlier i d t k ≡ earlier i d t' k
  unfolding earlier pick
  earlier_same i d t t' k h = go (ltb k i) (λ e. h (ltb-true k i e))
    where
      go : (b : Bool) → (b ≡ true → t k ≡ t' k) → pick b (t k) d ≡ pick b (t' k) d
      go true e = e refl
      go false e = refl

  deep_same : (d : A) (step : ℕ → (ℕ → A) → A) (m n i : ℕ) → i < m → i < n → deep d step m i ≡ deep d step n i
  unfolding deep
  deep_same d step zero n i h l = absurd (omega arith)
  deep_same d step (suc m) zero i h l = absurd (omega arith)
  deep_same d step (suc m) (suc n) i h l =
      ap (step i)
      (fun_ext (λ k. earlier_same i d (deep d step m) (deep d step n) k (λ e. deep_same d step m n k (omega arith) (omega arith))))

  pub made_step : (d : A) (step : ℕ → (ℕ → A) → A) (i : ℕ) → made d step i ≡ step i (earlier i d (made d step))
  unfolding made deep
  made_step d step i =
      ap (step i)
      (fun_ext (λ k. earlier_same i d (deep d step i) (made d step) k (λ e. deep_same d step i (suc k) k (omega arith) (omega arith))))

  -- steps that agree up to i make the same at i
  deep_agree : (d : A) (step step' : ℕ → (ℕ → A) → A) (n i : ℕ) → ((k : ℕ) → k ≤ i → (t : ℕ → A) → step k t ≡ step' k t) → deep d step n i ≡ deep d step' n i
  unfolding deep
  deep_agree d step step' zero i h = refl
  deep_agree d step step' (suc n) i h =
      h i (omega arith) (earlier i d (deep d step n))
      ∙ ap (step' i)
      (fun_ext
      (λ k. earlier_same i d (deep d step n) (deep d step' n) k (λ e. deep_agree d step step' n k (λ j l. h j (omega arith)))))

  pub made_agree : (d : A) (step step' : ℕ → (ℕ → A) → A) (i : ℕ) → ((k : ℕ) → k ≤ i → (t : ℕ → A) → step k t ≡ step' k t) → made d step i ≡ made d step' i
  unfolding made
  made_agree d step step' i h = deep_agree d step step' (suc i) i h

  pub earlier_not : (i : ℕ) (d : A) (t : ℕ → A) (k : ℕ) → i ≤ k → earlier i d t k ≡ d
  unfolding earlier pick
  earlier_not i d t k h = rw (le-ltb k i h)

  pub earlier_wider : (i : ℕ) (d : A) (t : ℕ → A) (k : ℕ) → (k ≡ i → ⊥) → earlier i d t k ≡ earlier (i + 1) d t k
  earlier_wider i d t k other =
      elim (test (ltb k i)) [
        | inl e ↦ let less = ltb-true k i e in earlier_at i d t k less ∙ sym (earlier_at (i + 1) d t k (omega arith))
        | inr e ↦ let more = ltb-false k i e in earlier_not i d t k more ∙ sym (earlier_not (i + 1) d t k (omega arith))
      ]
