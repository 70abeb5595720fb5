-- The bits of a number, lowest first.
use Rattle.std.proofs.Common.{ℕ, suc, ◌+◌, ◌*◌, ◌/◌, ◌%◌, ◌^◌, arith, Bool, true, false, cond, ◌≡◌, sym, ap, ◌∙◌, eqb, shr-shr}
use Rattle.semantics.specs.Proposition.{bit}

pub bit_shr : (x j k : ℕ) → bit (x / 2 ^ j) k ≡ bit x (j + k)
unfolding bit
bit_shr x j k = ap (λ (y : ℕ). eqb (y % 2) 1) (shr-shr x j k)

pub bit_zero : (x : ℕ) → bit x 0 ≡ eqb (x % 2) 1
unfolding bit
bit_zero x = let h : x / 1 ≡ x = omega arith in ap (λ (y : ℕ). eqb (y % 2) 1) h

pub bit_suc : (x k : ℕ) → bit x (suc k) ≡ bit (x / 2) k
bit_suc x k = let h : suc k ≡ 1 + k = omega arith in ap (bit x) h ∙ sym (bit_shr x 1 k)

-- a digit below a number
pub bit_lowest : (x : ℕ) (b : Bool) → bit (x * 2 + cond b 1 0) 0 ≡ b
bit_lowest x true = let e : (x * 2 + 1) % 2 ≡ 1 = omega arith in bit_zero (x * 2 + 1) ∙ ap (λ (y : ℕ). eqb y 1) e
bit_lowest x false = let e : (x * 2 + 0) % 2 ≡ 0 = omega arith in bit_zero (x * 2 + 0) ∙ ap (λ (y : ℕ). eqb y 1) e

pub bit_higher : (x : ℕ) (b : Bool) (k : ℕ) → bit (x * 2 + cond b 1 0) (suc k) ≡ bit x k
bit_higher x true k = let e : (x * 2 + 1) / 2 ≡ x = omega arith in bit_suc (x * 2 + 1) k ∙ ap (λ (y : ℕ). bit y k) e
bit_higher x false k = let e : (x * 2 + 0) / 2 ≡ x = omega arith in bit_suc (x * 2 + 0) k ∙ ap (λ (y : ℕ). bit y k) e
