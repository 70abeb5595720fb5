-- Laws of bits, over the width.
use Rattle.std.proofs.Common.{ℕ, zero, suc, ◌+◌, ◌-◌, ◌*◌, ◌/◌, ◌%◌, ◌^◌, ◌≤◌, ◌<◌, min, max, Bool, true, false, not, cond, ◌&&◌, ◌||◌, ◌⊎◌, inl, inr, ◌≡◌, refl, sym, ap, ap₂, subst, ◌∙◌, lt_of_lt_of_le, mul_assoc, pow-suc, arith, leb, eqb, pow_pos, pow_mono, pow-add, bit_and, bit_or, bit_xor, leb-true, leb-false, eq-eqb, eqb-true}
use native.Mathlib.Nat.{div-eq_of_lt, mul-mod_left}
use lib.Dec.{eqb-suc-zero, eqb-suc-suc}
use lib.Arith.{digits_mod}
use lib.Pow.{shl-shr, field, mod-mod-pow}
use lib.Bits.{differ, and_step, or_step, xor_step, and_shr, or_shr, xor_shr}
use lib.Count.{ones, ones_step, under, count_trailing_zeros}
use borrow.Author.Tests.{eqb-false}
use Rattle.semantics.specs.Cycles.{count_below}
use Rattle.semantics.specs.Proposition.{bit}
use Rattle.semantics.proofs.Bits.{bit_shr, bit_zero, bit_suc}
use Rattle.semantics.proofs.Tests.{test, false_not, and_true_right, and_self}
use Rattle.semantics.proofs.Cycles.{count_first, count_below_cong}

-- the lowest digit
digit : (x : ℕ) → (x % 2 ≡ 0) ⊎ (x % 2 ≡ 1)
digit x =
    elim (test (eqb (x % 2) 0)) [
      | inl e ↦ inl (eqb-true (x % 2) 0 e)
      | inr e ↦ (let d = eqb-false (x % 2) 0 e in inr (omega arith))
    ]

pub bit_above : (n x k : ℕ) → x < 2 ^ n → n ≤ k → bit x k ≡ false
unfolding bit
bit_above n x k h l = ap (λ (y : ℕ). eqb (y % 2) 1) (div-eq_of_lt (lt_of_lt_of_le h (pow_mono l)))

pub bit_nothing : (k : ℕ) → bit 0 k ≡ false
bit_nothing k = bit_above 0 0 k (omega arith) (omega arith)

min_digits : (x y : ℕ) → (x ≡ 0) ⊎ (x ≡ 1) → (y ≡ 0) ⊎ (y ≡ 1) → eqb (min x y) 1 ≡ (eqb x 1 && eqb y 1)
min_digits x y (inl p) (inl q) = rw (p, q)
min_digits x y (inl p) (inr q) = rw (p, q)
min_digits x y (inr p) (inl q) = rw (p, q)
min_digits x y (inr p) (inr q) = rw (p, q)

max_digits : (x y : ℕ) → (x ≡ 0) ⊎ (x ≡ 1) → (y ≡ 0) ⊎ (y ≡ 1) → eqb (max x y) 1 ≡ (eqb x 1 || eqb y 1)
max_digits x y (inl p) (inl q) = rw (p, q)
max_digits x y (inl p) (inr q) = rw (p, q)
max_digits x y (inr p) (inl q) = rw (p, q)
max_digits x y (inr p) (inr q) = rw (p, q)

differ_digits : (x y : ℕ) → (x ≡ 0) ⊎ (x ≡ 1) → (y ≡ 0) ⊎ (y ≡ 1) → eqb (differ x y) 1 ≡ cond (eqb x 1) (not (eqb y 1)) (eqb y 1)
differ_digits x y (inl p) (inl q) = rw (p, q)
differ_digits x y (inl p) (inr q) = rw (p, q)
differ_digits x y (inr p) (inl q) = rw (p, q)
differ_digits x y (inr p) (inr q) = rw (p, q)

and_odd : (a b : ℕ) → bit_and a b % 2 ≡ min (a % 2) (b % 2)
and_odd a b = ap (λ (x : ℕ). x % 2) (and_step a b) ∙ digits_mod (bit_and (a / 2) (b / 2)) (omega arith)

or_odd : (a b : ℕ) → bit_or a b % 2 ≡ max (a % 2) (b % 2)
or_odd a b = ap (λ (x : ℕ). x % 2) (or_step a b) ∙ digits_mod (bit_or (a / 2) (b / 2)) (omega arith)

xor_odd : (a b : ℕ) → bit_xor a b % 2 ≡ differ (a % 2) (b % 2)
xor_odd a b =
    ap (λ (x : ℕ). x % 2) (xor_step a b)
    ∙ digits_mod (bit_xor (a / 2) (b / 2)) (below_two (a % 2) (b % 2) (digit a) (digit b))
  where
    below_two : (x y : ℕ) → (x ≡ 0) ⊎ (x ≡ 1) → (y ≡ 0) ⊎ (y ≡ 1) → differ x y < 2
    below_two x y (inl p) (inl q) = rw (p, q) (omega arith)
    below_two x y (inl p) (inr q) = rw (p, q) (omega arith)
    below_two x y (inr p) (inl q) = rw (p, q) (omega arith)
    below_two x y (inr p) (inr q) = rw (p, q) (omega arith)

pub bit_and_lem : (a b k : ℕ) → bit (bit_and a b) k ≡ (bit a k && bit b k)
unfolding bit
bit_and_lem a b k =
    ap (λ (x : ℕ). eqb (x % 2) 1) (and_shr a b k)
    ∙ ap (λ (x : ℕ). eqb x 1) (and_odd (a / 2 ^ k) (b / 2 ^ k))
    ∙ min_digits (a / 2 ^ k % 2) (b / 2 ^ k % 2) (digit (a / 2 ^ k)) (digit (b / 2 ^ k))

pub bit_or_lem : (a b k : ℕ) → bit (bit_or a b) k ≡ (bit a k || bit b k)
unfolding bit
bit_or_lem a b k =
    ap (λ (x : ℕ). eqb (x % 2) 1) (or_shr a b k)
    ∙ ap (λ (x : ℕ). eqb x 1) (or_odd (a / 2 ^ k) (b / 2 ^ k))
    ∙ max_digits (a / 2 ^ k % 2) (b / 2 ^ k % 2) (digit (a / 2 ^ k)) (digit (b / 2 ^ k))

pub bit_xor_lem : (a b k : ℕ) → bit (bit_xor a b) k ≡ cond (bit a k) (not (bit b k)) (bit b k)
unfolding bit
bit_xor_lem a b k =
    ap (λ (x : ℕ). eqb (x % 2) 1) (xor_shr a b k)
    ∙ ap (λ (x : ℕ). eqb x 1) (xor_odd (a / 2 ^ k) (b / 2 ^ k))
    ∙ differ_digits (a / 2 ^ k % 2) (b / 2 ^ k % 2) (digit (a / 2 ^ k)) (digit (b / 2 ^ k))

pub bit_mod : (n x k : ℕ) → k < n → bit (x % 2 ^ n) k ≡ bit x k
unfolding bit
bit_mod n x k l =
    let e : n ≡ (n - suc k) + 1 + k = omega arith in
    ap (λ (m : ℕ). eqb (x % 2 ^ m / 2 ^ k % 2) 1) e
    ∙ ap (λ (y : ℕ). eqb (y % 2) 1) (field x ((n - suc k) + 1) k)
    ∙ ap (λ (y : ℕ). eqb y 1) (mod-mod-pow (x / 2 ^ k) (n - suc k) 1)

pub bit_shl : (x j k : ℕ) → j ≤ k → bit (x * 2 ^ j) k ≡ bit x (k - j)
bit_shl x j k l =
    let e : k ≡ j + (k - j) = omega arith in
    ap (bit (x * 2 ^ j)) e ∙ sym (bit_shr (x * 2 ^ j) j (k - j)) ∙ ap (λ (y : ℕ). bit y (k - j)) (shl-shr x j)

pub bit_shl_under : (x j k : ℕ) → k < j → bit (x * 2 ^ j) k ≡ false
unfolding bit
bit_shl_under x j k l =
    let e : j ≡ (j - suc k) + 1 + k = omega arith in
    let whole : x * 2 ^ j ≡ x * 2 ^ (j - suc k) * 2 * 2 ^ k =
    ap (λ (m : ℕ). x * 2 ^ m) e ∙ ap (λ (y : ℕ). x * y) (pow-add 2 ((j - suc k) + 1) k)
    ∙ ap (λ (y : ℕ). x * (y * 2 ^ k)) (pow-add 2 (j - suc k) 1)
    ∙ sym (mul_assoc x (2 ^ (j - suc k) * 2) (2 ^ k))
    ∙ ap (λ (y : ℕ). y * 2 ^ k) (sym (mul_assoc x (2 ^ (j - suc k)) 2)) in
    ap (λ (y : ℕ). eqb (y / 2 ^ k % 2) 1) whole
    ∙ ap (λ (y : ℕ). eqb (y % 2) 1) (shl-shr (x * 2 ^ (j - suc k) * 2) k)
    ∙ ap (λ (y : ℕ). eqb y 1) (mul-mod_left (x * 2 ^ (j - suc k)) 2)

-- a shift of a word of n bits: `x << j`
pub bit_shifted : (n x j k : ℕ) → k < n → bit (x * 2 ^ j % 2 ^ n) k ≡ (leb j k && bit x (k - j))
bit_shifted n x j k l =
    bit_mod n (x * 2 ^ j) k l
    ∙ elim (test (leb j k)) [
      | inl t ↦ bit_shl x j k (leb-true j k t) ∙ ap (λ (c : Bool). c && bit x (k - j)) (sym t)
      | inr t ↦ bit_shl_under x j k (leb-false j k t) ∙ ap (λ (c : Bool). c && bit x (k - j)) (sym t)
    ]

-- the complement of a word of n bits: `!x`
pub bit_not : (n x k : ℕ) → x < 2 ^ n → k < n → bit (2 ^ n - 1 - x) k ≡ not (bit x k)
bit_not zero x k h l = absurd (omega arith)
bit_not (suc n) x zero h l =
    let p = pow-suc 2 n in
    bit_zero (2 ^ suc n - 1 - x) ∙ flip (x % 2) ((2 ^ suc n - 1 - x) % 2) (digit x) (omega arith) ∙ ap not (sym (bit_zero x))
  where
    flip : (a b : ℕ) → (a ≡ 0) ⊎ (a ≡ 1) → b ≡ 1 - a → eqb b 1 ≡ not (eqb a 1)
    flip a b (inl p) q = rw (q, p)
    flip a b (inr p) q = rw (q, p)
bit_not (suc n) x (suc k) h l =
    let p = pow-suc 2 n in
    let half : (2 ^ suc n - 1 - x) / 2 ≡ 2 ^ n - 1 - x / 2 = omega arith in
    bit_suc (2 ^ suc n - 1 - x) k ∙ ap (λ (y : ℕ). bit y k) half
    ∙ bit_not n (x / 2) k (omega arith) (omega arith) ∙ ap not (sym (bit_suc x k))

pub bit_ones : (n k : ℕ) → k < n → bit (2 ^ n - 1) k ≡ true
bit_ones n k l =
    let e : 2 ^ n - 1 ≡ 2 ^ n - 1 - 0 = omega arith in
    ap (λ (y : ℕ). bit y k) e ∙ bit_not n 0 k (pow_pos n) l ∙ ap not (bit_nothing k)

-- 1 << j
pub bit_one : (k : ℕ) → bit 1 k ≡ eqb k 0
bit_one zero = bit_zero 1
bit_one (suc k) = bit_suc 1 k ∙ bit_nothing k ∙ sym (eqb-suc-zero k)

-- words of n bits are equal whose bits are
from_digit : (x y : ℕ) → (x ≡ 0) ⊎ (x ≡ 1) → (y ≡ 0) ⊎ (y ≡ 1) → eqb x 1 ≡ eqb y 1 → x ≡ y
from_digit x y (inl p) (inl q) e = p ∙ sym q
from_digit x y (inl p) (inr q) e = absurd (false_not (eqb x 1) (ap (λ (z : ℕ). eqb z 1) p) (e ∙ eq-eqb y 1 q))
from_digit x y (inr p) (inl q) e = absurd (false_not (eqb x 1) (e ∙ ap (λ (z : ℕ). eqb z 1) q) (eq-eqb x 1 p))
from_digit x y (inr p) (inr q) e = p ∙ sym q

pub same_bits : (n a b : ℕ) → a < 2 ^ n → b < 2 ^ n → ((k : ℕ) → k < n → bit a k ≡ bit b k) → a ≡ b
same_bits zero a b ha hb f = omega arith
same_bits (suc n) a b ha hb f =
    let p = pow-suc 2 n in
    let high = same_bits n (a / 2) (b / 2) (omega arith) (omega arith) (λ k l. sym (bit_suc a k) ∙ f (suc k) (omega arith) ∙ bit_suc b k) in
    let low = from_digit (a % 2) (b % 2) (digit a) (digit b) (sym (bit_zero a) ∙ f 0 (omega arith) ∙ bit_zero b) in
    omega arith

-- the lowest set bit t of a word that is not 0: where its trailing zeros end. `a & (a - 1)` is the word without it
pub record Lowest (n a t : ℕ) : Type 0 where
  pub below : t < n
  pub set : bit a t ≡ true
  pub lower : (k : ℕ) → k < t → bit a k ≡ false
  pub cleared : (k : ℕ) → (bit a k && bit (a - 1) k) ≡ (bit a k && not (eqb k t))

odd_lowest : (n a : ℕ) → a % 2 ≡ 1 → Lowest (suc n) a 0
odd_lowest n a e =
    record {
      below = omega arith;
      set = bit_zero a ∙ ap (λ (d : ℕ). eqb d 1) e;
      lower = λ k l. absurd (omega arith);
      cleared = cleared;
    }
  where
    cleared : (k : ℕ) → (bit a k && bit (a - 1) k) ≡ (bit a k && not (eqb k 0))
    cleared zero =
        let z : (a - 1) % 2 ≡ 0 = omega arith in
        ap (λ (c : Bool). bit a 0 && c) (bit_zero (a - 1) ∙ ap (λ (d : ℕ). eqb d 1) z)
    cleared (suc k) =
        let z : (a - 1) / 2 ≡ a / 2 = omega arith in
        let rest : bit (a - 1) (suc k) ≡ bit a (suc k) = bit_suc (a - 1) k ∙ ap (λ (y : ℕ). bit y k) z ∙ sym (bit_suc a k) in
        ap (λ (c : Bool). bit a (suc k) && c) rest ∙ and_self (bit a (suc k)) ∙ sym (and_true_right (bit a (suc k)))
        ∙ ap (λ (c : Bool). bit a (suc k) && not c) (sym (eqb-suc-zero k))

even_lowest : (n a t : ℕ) → a % 2 ≡ 0 → 0 < a → Lowest n (a / 2) t → Lowest (suc n) a (suc t)
even_lowest n a t e p l =
    record {
      below = let b = l.below in omega arith;
      set = bit_suc a t ∙ l.set;
      lower = lower;
      cleared = cleared;
    }
  where
    lower : (k : ℕ) → k < suc t → bit a k ≡ false
    lower zero h = bit_zero a ∙ ap (λ (d : ℕ). eqb d 1) e
    lower (suc k) h = bit_suc a k ∙ l.lower k (omega arith)

    cleared : (k : ℕ) → (bit a k && bit (a - 1) k) ≡ (bit a k && not (eqb k (suc t)))
    cleared zero =
        let z : bit a 0 ≡ false = lower 0 (omega arith) in
        ap (λ (c : Bool). c && bit (a - 1) 0) z ∙ ap (λ (c : Bool). c && not (eqb 0 (suc t))) (sym z)
    cleared (suc k) =
        let z : (a - 1) / 2 ≡ a / 2 - 1 = omega arith in
        ap₂ (λ (x y : Bool). x && y) (bit_suc a k) (bit_suc (a - 1) k ∙ ap (λ (y : ℕ). bit y k) z)
        ∙ l.cleared k
        ∙ ap₂ (λ (x y : Bool). x && not y) (sym (bit_suc a k)) (sym (eqb-suc-suc k t))

pub lowest : (n a : ℕ) → 0 < a → a < 2 ^ n → Lowest n a (count_trailing_zeros n a)
unfolding count_trailing_zeros
lowest zero a p h = absurd (omega arith)
lowest (suc n) a p h =
    let q = pow-suc 2 n in
    elim (digit a) [
      | inl e ↦ (
          let l = lowest n (a / 2) (omega arith) (omega arith) in
          subst (λ (d : ℕ). Lowest (suc n) a (under d (count_trailing_zeros n (a / 2)))) (sym e)
          (even_lowest n a (count_trailing_zeros n (a / 2)) e p l))
      | inr e ↦ subst (λ (d : ℕ). Lowest (suc n) a (under d (count_trailing_zeros n (a / 2)))) (sym e) (odd_lowest n a e)
    ]

ones_none : ones 0 ≡ 0
unfolding ones
ones_none = refl

digit_count : (x : ℕ) → (x ≡ 0) ⊎ (x ≡ 1) → x ≡ cond (eqb x 1) 1 0
digit_count x (inl p) = rw p
digit_count x (inr p) = rw p

-- a word has as many ones as set bits
pub ones_count : (n x : ℕ) → x < 2 ^ n → ones x ≡ count_below n (bit x)
unfolding count_below
ones_count zero x h = let e : x ≡ 0 = omega arith in ap ones e ∙ ones_none
ones_count (suc n) x h =
    let q = pow-suc 2 n in
    ones_step x
    ∙ ap₂ (λ (a b : ℕ). a + b) (digit_count (x % 2) (digit x) ∙ ap (λ (c : Bool). cond c 1 0) (sym (bit_zero x)))
    (ones_count n (x / 2) (omega arith) ∙ count_below_cong n (bit (x / 2)) (λ i. bit x (suc i)) (λ i l. sym (bit_suc x i)))
    ∙ sym (count_first n (bit x))
