-- Laws of the leaves: words from cycles, the least cycle of a set, single bits.
use Rattle.std.proofs.Common.{ℕ, suc, ◌+◌, ◌-◌, ◌*◌, ◌/◌, ◌%◌, ◌^◌, ◌≤◌, ◌<◌, Bool, true, not, ◌&&◌, inl, inr, ◌≡◌, sym, ap, ap₂, ◌∙◌, lt_of_le_of_lt, mod-eq_of_lt, mod-lt, one-mul, add-one, arith, leb, ltb, eqb, pow_pos, bit_and, ltb-true, ltb-false, leb-true, leb-false, le-ltb, le-leb, eq-eqb, eqb-true}
use lib.Dec.{leb-suc-suc}
use lib.Pow.{pow-lt}
use lib.Bits.{and_le_l, and_mask}
use lib.Count.{count_trailing_zeros, trailing_of_zero}
use borrow.Author.Tests.{eqb-false, not-true}
use Rattle.semantics.specs.Cycles.{some_below}
use Rattle.semantics.specs.Proposition.{bit}
use Rattle.rows.specs.Row.{word, row, always}
use Rattle.semantics.proofs.Tests.{same, test, false_not, is_false, both, and_left, and_right, and_true_right}
use Rattle.semantics.proofs.Cycles.{below_intro, below_elim}
use Rattle.rows.proofs.Bits.{bit_above, bit_nothing, bit_and_lem, bit_not, bit_ones, bit_one, bit_shifted, lowest}
use Rattle.rows.proofs.Rows.{word_small, word_bit, is_word_lem, word_ext, is_word_in}

-- 1 << k
pub one_shifted : (n k : ℕ) → k < n → 1 * 2 ^ k % 2 ^ n ≡ 2 ^ k
one_shifted n k l = ap (λ (x : ℕ). x % 2 ^ n) (one-mul (2 ^ k)) ∙ mod-eq_of_lt (pow-lt l)

pub below_is : (n k : ℕ) → k < n → 1 * 2 ^ k % 2 ^ n - 1 ≡ word n (λ e. ltb e k)
below_is n k l =
    let p = pow-lt l in
    let q = pow_pos k in
    ap (λ (x : ℕ). x - 1) (one_shifted n k l)
    ∙ is_word_lem n (2 ^ k - 1) (λ e. ltb e k) (omega arith)
    (λ e m. elim (test (ltb e k)) [
      | inl t ↦ bit_ones k e (ltb-true e k t) ∙ sym t
      | inr t ↦ bit_above k (2 ^ k - 1) e (omega arith) (ltb-false e k t) ∙ sym t
    ])

pub all_is : (n : ℕ) (p : ℕ → Bool) → ((e : ℕ) → e < n → p e ≡ true) → 2 ^ n - 1 ≡ word n p
all_is n p f = let q = pow_pos n in is_word_lem n (2 ^ n - 1) p (omega arith) (λ e m. bit_ones n e m ∙ sym (f e m))

pub only_is : (n b : ℕ) → b < n → 1 * 2 ^ b % 2 ^ n ≡ word n (eqb b)
only_is n b l = is_word_lem n (1 * 2 ^ b % 2 ^ n) (eqb b) (mod-lt (1 * 2 ^ b) (pow_pos n)) (λ e m. bit_shifted n 1 b e m ∙ there e)
  where
    there : (e : ℕ) → (leb b e && bit 1 (e - b)) ≡ eqb b e
    there e =
        same (leb b e && bit 1 (e - b)) (eqb b e)
        (λ t.
        let l = leb-true b e (and_left (leb b e) (bit 1 (e - b)) t) in
        let z = eqb-true (e - b) 0 (sym (bit_one (e - b)) ∙ and_right (leb b e) (bit 1 (e - b)) t) in
        eq-eqb b e (omega arith))
        (λ t.
        let q = eqb-true b e t in
        both (le-leb b e (omega arith)) (bit_one (e - b) ∙ eq-eqb (e - b) 0 (omega arith)))

-- a word without the cycles below b
pub cut_bit : (w x b e : ℕ) → e < w → bit (bit_and x (2 ^ w - 1 - word w (λ t. ltb t b))) e ≡ (bit x e && leb b e)
cut_bit w x b e l =
    bit_and_lem x (2 ^ w - 1 - word w (λ t. ltb t b)) e
    ∙ ap (λ (c : Bool). bit x e && c)
    (bit_not w (word w (λ t. ltb t b)) e (word_small w (λ t. ltb t b)) l ∙ ap not (word_bit w (λ t. ltb t b) e l) ∙ not_under)
  where
    not_under : not (ltb e b) ≡ leb b e
    not_under =
        same (not (ltb e b)) (leb b e)
        (λ t. le-leb b e (ltb-false e b (not-true (ltb e b) t)))
        (λ t. ap not (le-ltb e b (leb-true b e t)))

pub from_is : (w n b : ℕ) → n ≤ w → bit_and (word w (λ e. ltb e n)) (2 ^ w - 1 - word w (λ e. ltb e b)) ≡ row n always b
unfolding row
from_is w n b l =
    is_word_in w n (bit_and (word w (λ e. ltb e n)) (2 ^ w - 1 - word w (λ e. ltb e b))) (λ e. leb b e && true) l
    (lt_of_le_of_lt (and_le_l (word w (λ e. ltb e n)) (2 ^ w - 1 - word w (λ e. ltb e b))) (word_small w (λ e. ltb e n)))
    (λ e m.
    cut_bit w (word w (λ e. ltb e n)) b e m
    ∙ ap₂ (λ (x y : Bool). x && y) (word_bit w (λ e. ltb e n) e m) (sym (and_true_right (leb b e))))

pub has_is : (x b : ℕ) → eqb (bit_and (x / 2 ^ b) 1) 1 ≡ bit x b
unfolding bit
has_is x b = ap (λ (y : ℕ). eqb y 1) (and_mask (x / 2 ^ b) 1)

-- no cycle of a set is below e exactly if e is at most its trailing zeros
pub none_lower : (n a e : ℕ) → a < 2 ^ n → e ≤ n → leb e (count_trailing_zeros n a) ≡ not (some_below e (bit a))
none_lower n a e h l =
    elim (test (eqb a 0)) [
      | inl t ↦ (
          let z = eqb-true a 0 t in
          let full : count_trailing_zeros n a ≡ n = ap (count_trailing_zeros n) z ∙ trailing_of_zero n in
          le-leb e (count_trailing_zeros n a) (omega arith)
          ∙ ap not (sym (is_false (some_below e (bit a)) (λ s.
          let f = below_elim e (bit a) s in
          false_not (bit a f.at) (ap (λ (x : ℕ). bit x f.at) z ∙ bit_nothing f.at) f.ok))))
      | inr t ↦ (
          let z = eqb-false a 0 t in
          let r = lowest n a (omega arith) h in
          elim (test (leb e (count_trailing_zeros n a))) [
            | inl s ↦ (
                let m = leb-true e (count_trailing_zeros n a) s in
                s ∙ ap not (sym (is_false (some_below e (bit a)) (λ s.
                let f = below_elim e (bit a) s in
                let k = f.high in
                false_not (bit a f.at) (r.lower f.at (omega arith)) f.ok))))
            | inr s ↦ (
                let m = leb-false e (count_trailing_zeros n a) s in
                s ∙ ap not (sym (below_intro e (bit a) (count_trailing_zeros n a) m r.set)))
          ])
    ]

pub up_to_first_is : (n a : ℕ) → a < 2 ^ n → word n (λ e. leb e (count_trailing_zeros n a)) ≡ word n (λ e. not (some_below e (bit a)))
up_to_first_is n a h =
    word_ext n (λ e. leb e (count_trailing_zeros n a)) (λ e. not (some_below e (bit a))) (λ e l. none_lower n a e h (omega arith))

pub before_first_is : (n a : ℕ) → a < 2 ^ n → word n (λ e. ltb e (count_trailing_zeros n a)) ≡ word n (λ e. not (some_below (suc e) (bit a)))
before_first_is n a h =
    word_ext n (λ e. ltb e (count_trailing_zeros n a)) (λ e. not (some_below (suc e) (bit a))) (λ e l. none_lower n a (suc e) h l)

pub up_to_step : (e k : ℕ) → ltb e (k + 1) ≡ leb e k
up_to_step e k = ap (ltb e) (add-one k) ∙ leb-suc-suc e k
