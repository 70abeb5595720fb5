-- Document 01's star unrolled: a chain is empty, or has a first link.
use Rattle.std.proofs.Common.{ℕ, zero, suc, ◌+◌, ◌-◌, ◌≤◌, Bool, ◌&&◌, ◌||◌, inl, inr, ◌≡◌, refl, sym, ap, ◌∙◌, arith, eqb}
use Rattle.semantics.specs.Cycles.{some_in}
use Rattle.semantics.specs.Formula.{chain}
use Rattle.semantics.proofs.Tests.{same, or_left, or_elim}
use Rattle.semantics.proofs.Cycles.{some_elim, some_cong}

-- no link starts past e
no_link : (b e : ℕ) (p : ℕ → Bool) → e ≤ b → (eqb b e || some_in (suc b) e p) ≡ eqb b e
no_link b e p l =
    same (eqb b e || some_in (suc b) e p) (eqb b e)
    (λ t. elim (or_elim (eqb b e) (some_in (suc b) e p) t) [
      | inl a ↦ a
      | inr a ↦ (
          let f = some_elim (suc b) (suc e) p a in
          let x = f.low in
          let y = f.high in
          absurd (omega arith))
    ])
    (λ t. or_left (eqb b e) (some_in (suc b) e p) t)

-- any number of links that is enough is as good as another
chain_fuel : (m k : ℕ) (h : ℕ → ℕ → Bool) (b e : ℕ) → e ≤ b + m → e ≤ b + k → chain m h b e ≡ chain k h b e
unfolding chain
chain_fuel zero zero h b e l r = refl
chain_fuel zero (suc k) h b e l r = sym (no_link b e (λ i. h b i && chain k h i e) (omega arith))
chain_fuel (suc m) zero h b e l r = no_link b e (λ i. h b i && chain m h i e) (omega arith)
chain_fuel (suc m) (suc k) h b e l r =
    ap (λ (c : Bool). eqb b e || c)
    (some_cong (suc b) (suc e) (λ i. h b i && chain m h i e) (λ i. h b i && chain k h i e)
    (λ i x y. ap (λ (c : Bool). h b i && c) (chain_fuel m k h i e (omega arith) (omega arith))))

-- a chain is empty, or has a first link
pub chain_step : (h : ℕ → ℕ → Bool) (b e : ℕ) → b ≤ e
    → chain (e - b) h b e ≡ (eqb b e || some_in (suc b) e (λ i. h b i && chain (e - i) h i e))
unfolding chain
chain_step h b e l =
    chain_fuel (e - b) (suc (e - b)) h b e (omega arith) (omega arith)
    ∙ ap (λ (c : Bool). eqb b e || c)
    (some_cong (suc b) (suc e) (λ i. h b i && chain (e - b) h i e) (λ i. h b i && chain (e - i) h i e)
    (λ i x y. ap (λ (c : Bool). h b i && c) (chain_fuel (e - b) (e - i) h i e (omega arith) (omega arith))))
