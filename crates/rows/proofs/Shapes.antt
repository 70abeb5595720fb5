-- Laws of the rows of formulas over one column.
use Rattle.std.proofs.Common.{ℕ, ◌+◌, ◌-◌, ◌*◌, ◌%◌, ◌^◌, ◌≤◌, ◌<◌, Bool, true, false, not, ◌&&◌, ◌||◌, ◌≡◌, sym, ap, ◌∙◌, lt_of_le_of_lt, arith, leb, ltb, eqb, bit_and, bit_or, leb-true, le-leb, eq-eqb, eqb-true}
use lib.Bits.{and_le_l}
use Rattle.semantics.specs.Cycles.{some_below, some_from, every_from}
use Rattle.semantics.specs.Proposition.{bit}
use Rattle.semantics.specs.Formula.{low, either, low_stretch, steady, drawn_on}
use Rattle.rows.specs.Row.{word, row, always}
use Rattle.semantics.proofs.Tests.{and_comm, same, both, and_left, and_right, and_true_right}
use Rattle.semantics.proofs.Cycles.{below_cong, every_cong}
use Rattle.rows.proofs.Bits.{bit_and_lem, bit_not, bit_ones, bit_shifted}
use Rattle.rows.proofs.Masks.{cut_bit}
use Rattle.rows.proofs.Rows.{row_or, row_none, word_bit, is_word_lem, is_row, row_ext, masked_row}

pub lacking_is : (column b : ℕ) → column < 2 ^ 64
    → bit_and (2 ^ 64 - 1 - column) (2 ^ 64 - 1 - word 64 (λ t. ltb t b)) ≡ word 64 (λ t. leb b t && not (bit column t))
lacking_is column b h =
    is_word_lem 64 (bit_and (2 ^ 64 - 1 - column) (2 ^ 64 - 1 - word 64 (λ t. ltb t b))) (λ t. leb b t && not (bit column t))
    (lt_of_le_of_lt (and_le_l (2 ^ 64 - 1 - column) (2 ^ 64 - 1 - word 64 (λ t. ltb t b))) (omega arith))
    (λ t l. cut_bit 64 (2 ^ 64 - 1 - column) b t l
    ∙ ap (λ (c : Bool). c && leb b t) (bit_not 64 column t h l) ∙ and_comm (not (bit column t)) (leb b t))

-- some cycle below e of a word
pub word_some : (w e : ℕ) (p : ℕ → Bool) → e ≤ w → some_below e (bit (word w p)) ≡ some_below e p
word_some w e p l = below_cong e (bit (word w p)) p (λ i m. word_bit w p i (omega arith))

-- ---- point, stretch, whole, unit, mark

pub point_all : (n column b : ℕ) → bit column b ≡ true → row n always b ≡ row n (λ b e. bit column b) b
point_all n column b t = row_ext n always (λ b e. bit column b) b (λ e l m. sym t)

pub point_none : (n column b : ℕ) → bit column b ≡ false → 0 ≡ row n (λ b e. bit column b) b
point_none n column b t = row_none n (λ b e. bit column b) b (λ e l m. t)

-- p at each cycle from b up to but without `end e`: e itself for a stretch, the next cycle for a whole one
pub held_is : (end : ℕ → ℕ) (n column b : ℕ) → ((e : ℕ) → e < n → end e ≤ 64) → n ≤ 64
    → bit_and (row n always b) (word 64 (λ e. not (some_below (end e) (bit (word 64 (λ t. leb b t && not (bit column t)))))))
    ≡ row n (λ b e. every_from b (end e) (bit column)) b
unfolding some_from
held_is end n column b f l =
    masked_row n (word 64 (λ e. not (some_below (end e) (bit (word 64 (λ t. leb b t && not (bit column t))))))) (λ b e. every_from b (end e) (bit column)) b
    (λ e k m.
    word_bit 64 (λ e. not (some_below (end e) (bit (word 64 (λ t. leb b t && not (bit column t)))))) e (omega arith)
    ∙ ap not (word_some 64 (end e) (λ t. leb b t && not (bit column t)) (f e m)))

here_bit : (column b e : ℕ) → e < 64 → bit (bit_and column (word 64 (eqb b))) e ≡ (bit column e && eqb b e)
here_bit column b e l =
    bit_and_lem column (word 64 (eqb b)) e ∙ ap (λ (c : Bool). bit column e && c) (word_bit 64 (eqb b) e l)

pub unit_is : (n column b : ℕ) → n ≤ 64
    → bit_and (row n always b) (bit_and column (word 64 (eqb b)) * 2 ^ 1 % 2 ^ 64) ≡ row n (λ b e. eqb e (b + 1) && bit column b) b
unit_is n column b l =
    masked_row n (bit_and column (word 64 (eqb b)) * 2 ^ 1 % 2 ^ 64) (λ b e. eqb e (b + 1) && bit column b) b
    (λ e k m.
    bit_shifted 64 (bit_and column (word 64 (eqb b))) 1 e (omega arith)
    ∙ ap (λ (c : Bool). leb 1 e && c) (here_bit column b (e - 1) (omega arith))
    ∙ next e)
  where
    next : (e : ℕ) → (leb 1 e && (bit column (e - 1) && eqb b (e - 1))) ≡ (eqb e (b + 1) && bit column b)
    next e =
        same (leb 1 e && (bit column (e - 1) && eqb b (e - 1))) (eqb e (b + 1) && bit column b)
        (λ t.
        let p = leb-true 1 e (and_left (leb 1 e) (bit column (e - 1) && eqb b (e - 1)) t) in
        let r = and_right (leb 1 e) (bit column (e - 1) && eqb b (e - 1)) t in
        let q = eqb-true b (e - 1) (and_right (bit column (e - 1)) (eqb b (e - 1)) r) in
        both (eq-eqb e (b + 1) (omega arith)) (ap (bit column) q ∙ and_left (bit column (e - 1)) (eqb b (e - 1)) r))
        (λ t.
        let p = eqb-true e (b + 1) (and_left (eqb e (b + 1)) (bit column b) t) in
        let q : b ≡ e - 1 = omega arith in
        both (le-leb 1 e (omega arith)) (both (ap (bit column) (sym q) ∙ and_right (eqb e (b + 1)) (bit column b) t) (eq-eqb b (e - 1) q)))

pub mark_is : (n column b : ℕ) → n ≤ 64 → b < n → column < 2 ^ 64 → bit_and column (word 64 (eqb b)) ≡ row n (λ b e. eqb b e && bit column b) b
mark_is n column b l h small =
    is_row 64 n (bit_and column (word 64 (eqb b))) (λ b e. eqb b e && bit column b) b l
    (lt_of_le_of_lt (and_le_l column (word 64 (eqb b))) small)
    (λ e m t.
    let r = sym (here_bit column b e m) ∙ t in
    let q = and_right (bit column e) (eqb b e) r in
    let same = eqb-true b e q in
    record {
      low = omega arith;
      high = omega arith;
      ok = both q (ap (bit column) same ∙ and_left (bit column e) (eqb b e) r);
    })
    (λ e s.
    let high = s.high in
    let q = and_left (eqb b e) (bit column b) s.ok in
    here_bit column b e (omega arith)
    ∙ both (ap (bit column) (sym (eqb-true b e q)) ∙ and_right (eqb b e) (bit column b) s.ok) q)

-- ---- symbols

pub low_is : (n column b : ℕ) → n ≤ 64 → column < 2 ^ 64 → b < n
    → row n (λ b e. eqb e (b + 1) && bit (2 ^ 64 - 1 - column) b) b ≡ row n (λ b e. drawn_on low (bit column) b e) b
unfolding drawn_on
low_is n column b l h k =
    row_ext n (λ b e. eqb e (b + 1) && bit (2 ^ 64 - 1 - column) b) (λ b e. drawn_on low (bit column) b e) b
    (λ e x y. ap (λ (c : Bool). eqb e (b + 1) && c) (bit_not 64 column b h (omega arith)))

pub either_is : (n column b : ℕ) → n ≤ 64 → b < n
    → row n (λ b e. eqb e (b + 1) && bit (2 ^ 64 - 1) b) b ≡ row n (λ b e. drawn_on either (bit column) b e) b
unfolding drawn_on
either_is n column b l k =
    row_ext n (λ b e. eqb e (b + 1) && bit (2 ^ 64 - 1) b) (λ b e. drawn_on either (bit column) b e) b
    (λ e x y. ap (λ (c : Bool). eqb e (b + 1) && c) (bit_ones 64 b (omega arith)) ∙ and_true_right (eqb e (b + 1)))

flipped_every : (column b e : ℕ) → column < 2 ^ 64 → e < 64 → every_from b e (bit (2 ^ 64 - 1 - column)) ≡ every_from b e (λ t. not (bit column t))
flipped_every column b e h l = every_cong b e (bit (2 ^ 64 - 1 - column)) (λ t. not (bit column t)) (λ t x y. bit_not 64 column t h (omega arith))

pub low_stretch_is : (n column b : ℕ) → n ≤ 64 → column < 2 ^ 64
    → row n (λ b e. every_from b e (bit (2 ^ 64 - 1 - column))) b ≡ row n (λ b e. drawn_on low_stretch (bit column) b e) b
unfolding drawn_on
low_stretch_is n column b l h =
    row_ext n (λ b e. every_from b e (bit (2 ^ 64 - 1 - column))) (λ b e. drawn_on low_stretch (bit column) b e) b
    (λ e x y. flipped_every column b e h (omega arith))

pub steady_is : (n column b : ℕ) → n ≤ 64 → column < 2 ^ 64
    → bit_or (row n (λ b e. every_from b e (bit (2 ^ 64 - 1 - column))) b) (row n (λ b e. every_from b e (bit column)) b)
    ≡ row n (λ b e. drawn_on steady (bit column) b e) b
unfolding drawn_on
steady_is n column b l h =
    row_or n (λ b e. every_from b e (bit (2 ^ 64 - 1 - column))) (λ b e. every_from b e (bit column)) b
    ∙ row_ext n (λ b e. every_from b e (bit (2 ^ 64 - 1 - column)) || every_from b e (bit column)) (λ b e. drawn_on steady (bit column) b e) b
    (λ e x y. ap (λ (c : Bool). c || every_from b e (bit column)) (flipped_every column b e h (omega arith)))
