-- Laws of counts and lengths.
use Rattle.std.proofs.Common.{ℕ, zero, suc, ◌+◌, ◌-◌, ◌^◌, ◌≤◌, ◌<◌, Bool, true, false, not, cond, ◌&&◌, inl, inr, ◌≡◌, refl, sym, ap, ap₂, ◌∙◌, arith, leb, ltb, eqb, bit_and, ltb-true, ltb-false, lt-ltb, le-ltb, leb-true, leb-false, le-leb, eqb-true, eq-eqb}
use lib.Bits.{and_le_l, and_le_r}
use lib.Count.{ones, count_trailing_zeros}
use borrow.Author.Tests.{lt-leb, eqb-false, not-true}
use Rattle.semantics.specs.Cycles.{count_below, count_from}
use Rattle.semantics.specs.Proposition.{bit}
use Rattle.semantics.specs.Formula.{Comparison, below, at_most, equal, at_least, above, compared}
use Rattle.rows.specs.Row.{word, row}
use Rattle.rows.specs.Symbols.{counted_to, After, Distant, Counted}
use Rattle.semantics.proofs.Tests.{same, test, and_left, and_right, and_intro, and_comm, and_true_right, and_false}
use Rattle.semantics.proofs.Cycles.{count_below_cong, count_grows, count_none}
use Rattle.rows.proofs.Bits.{bit_and_lem, bit_not, bit_ones, bit_nothing, lowest, ones_count}
use Rattle.rows.proofs.Masks.{cut_bit}
use Rattle.rows.proofs.Rows.{word_small, word_bit, row_ext}

not_less : (x y : ℕ) → not (ltb x y) ≡ leb y x
not_less x y =
    same (not (ltb x y)) (leb y x)
    (λ q. le-leb y x (ltb-false x y (not-true (ltb x y) q)))
    (λ q. let z = leb-true y x q in ap not (le-ltb x y z))

not_most : (x y : ℕ) → not (leb x y) ≡ ltb y x
not_most x y =
    same (not (leb x y)) (ltb y x)
    (λ q. lt-ltb y x (leb-false x y (not-true (leb x y) q)))
    (λ q. let z = ltb-true y x q in ap not (lt-leb x y z))

between : (x y : ℕ) → leb x y && not (ltb x y) ≡ eqb x y
between x y =
    same (leb x y && not (ltb x y)) (eqb x y)
    (λ q. let l = leb-true x y (and_left (leb x y) (not (ltb x y)) q) in
    let m = leb-true y x (sym (not_less x y) ∙ and_right (leb x y) (not (ltb x y)) q) in
    eq-eqb x y (omega arith))
    (λ q. let e = eqb-true x y q in
    and_intro (leb x y) (not (ltb x y)) (le-leb x y (omega arith)) (not_less x y ∙ le-leb y x (omega arith)))

-- ---- counts, by dropping cycles

-- q passes where p does, but at t
count_without : (e t : ℕ) (p q : ℕ → Bool) → p t ≡ true → ((k : ℕ) → q k ≡ (p k && not (eqb k t)))
    → count_below e p ≡ count_below e q + cond (ltb t e) 1 0
unfolding count_below
count_without zero t p q s f = let none : ◌≡◌ {A = ℕ} (cond (ltb t 0) 1 0) 0 = ap (λ (c : Bool). cond c 1 0) (le-ltb t 0 (omega arith)) in omega arith
count_without (suc e) t p q s f =
    let rest = count_without e t p q s f in
    elim (test (eqb e t)) [
      | inl h ↦ (
          let z = eqb-true e t h in
          let here : ◌≡◌ {A = ℕ} (cond (p e) 1 0) 1 = ap (λ (c : Bool). cond c 1 0) (ap p z ∙ s) in
          let gone : ◌≡◌ {A = ℕ} (cond (q e) 1 0) 0 = ap (λ (c : Bool). cond c 1 0) (f e ∙ ap (λ (c : Bool). p e && not c) h ∙ and_false (p e)) in
          let past : ◌≡◌ {A = ℕ} (cond (ltb t e) 1 0) 0 = ap (λ (c : Bool). cond c 1 0) (le-ltb t e (omega arith)) in
          let under : ◌≡◌ {A = ℕ} (cond (ltb t (suc e)) 1 0) 1 = ap (λ (c : Bool). cond c 1 0) (lt-ltb t (suc e) (omega arith)) in
          omega arith)
      | inr h ↦ (
          let z = eqb-false e t h in
          let as_is : ◌≡◌ {A = ℕ} (cond (q e) 1 0) (cond (p e) 1 0) =
          ap (λ (c : Bool). cond c 1 0) (f e ∙ ap (λ (c : Bool). p e && not c) h ∙ and_true_right (p e)) in
          let still : ◌≡◌ {A = ℕ} (cond (ltb t (suc e)) 1 0) (cond (ltb t e) 1 0) =
          ap (λ (c : Bool). cond c 1 0)
          (same (ltb t (suc e)) (ltb t e)
          (λ u. let l = ltb-true t (suc e) u in lt-ltb t e (omega arith))
          (λ u. let l = ltb-true t e u in lt-ltb t (suc e) (omega arith))) in
          omega arith)
    ]

-- the cycles below e of a set that has some, and of the set without its lowest
module _ (left : ℕ) (some : 0 < left) (fits : left < 2 ^ 64) (e : ℕ) where
  abbrev lowest_at : ℕ
  lowest_at = count_trailing_zeros 64 left

  abbrev rest : ℕ
  rest = bit_and left (left - 1)

  dropped_count : count_below e (bit left) ≡ count_below e (bit rest) + cond (ltb lowest_at e) 1 0
  dropped_count =
      let low = lowest 64 left some fits in
      count_without e lowest_at (bit left) (bit rest) low.set (λ k. bit_and_lem left (left - 1) k ∙ low.cleared k)

  none_under : ltb lowest_at e ≡ false → count_below e (bit left) ≡ 0
  none_under u =
      let l = ltb-false lowest_at e u in
      count_none e (bit left) (λ k m. (lowest 64 left some fits).lower k (omega arith))

  -- a turn: one fewer of the rest
  drop_turn : (more : ℕ) → 0 < more → ltb (more - 1) (count_below e (bit rest)) ≡ ltb more (count_below e (bit left))
  drop_turn more p =
      let all = dropped_count in
      elim (test (ltb lowest_at e)) [
        | inl u ↦ (
            let one : ◌≡◌ {A = ℕ} (cond (ltb lowest_at e) 1 0) 1 = ap (λ (c : Bool). cond c 1 0) u in
            same (ltb (more - 1) (count_below e (bit rest))) (ltb more (count_below e (bit left)))
            (λ s. let l = ltb-true (more - 1) (count_below e (bit rest)) s in lt-ltb more (count_below e (bit left)) (omega arith))
            (λ s. let l = ltb-true more (count_below e (bit left)) s in lt-ltb (more - 1) (count_below e (bit rest)) (omega arith)))
        | inr u ↦ (
            let none = none_under u in
            le-ltb (more - 1) (count_below e (bit rest)) (omega arith) ∙ sym (le-ltb more (count_below e (bit left)) (omega arith)))
      ]

  -- the end: some cycle of the set is below e
  drop_end : ltb 0 (count_below e (bit left)) ≡ ltb lowest_at e
  drop_end =
      let all = dropped_count in
      elim (test (ltb lowest_at e)) [
        | inl u ↦ (
            let one : ◌≡◌ {A = ℕ} (cond (ltb lowest_at e) 1 0) 1 = ap (λ (c : Bool). cond c 1 0) u in
            lt-ltb 0 (count_below e (bit left)) (omega arith) ∙ sym u)
        | inr u ↦ (let none = none_under u in le-ltb 0 (count_below e (bit left)) (omega arith) ∙ sym u)
      ]

-- a column without the cycles below b
abbrev pub from : ℕ → ℕ → ℕ
from column b = bit_and column (2 ^ 64 - 1 - word 64 (λ t. ltb t b))

from_fits : (column b : ℕ) → from column b < 2 ^ 64
from_fits column b = omega (arith, and_le_r column (2 ^ 64 - 1 - word 64 (λ t. ltb t b)))

-- `left` has more than `more` cycles below e exactly if the column has more than `number` from b on
pub record Dropped (column b number left more : ℕ) : Type 0 where
  pub fits : left < 2 ^ 64
  pub alike : (e : ℕ) → ltb more (count_below e (bit left)) ≡ ltb number (count_below e (bit (from column b)))

pub dropped_none : (column b number : ℕ) → Dropped column b number (from column b) number
dropped_none column b number = record { fits = from_fits column b; alike = λ e. refl }

module _ (column b number left more : ℕ) (d : Dropped column b number left more) where
  -- where the ones from b on are more than the number, something is left
  pub dropped_some : number < ones (from column b) → 0 < left
  dropped_some m =
      elim (test (eqb left 0)) [
        | inl u ↦ (
            let z = eqb-true left 0 u in
            let all = ones_count 64 (from column b) (from_fits column b) in
            let reached = ltb-true more (count_below 64 (bit left)) (d.alike 64 ∙ lt-ltb number (count_below 64 (bit (from column b))) (omega arith)) in
            let none = count_none 64 (bit left) (λ k l. ap (λ (x : ℕ). bit x k) z ∙ bit_nothing k) in
            omega arith)
        | inr u ↦ (let z = eqb-false left 0 u in omega arith)
      ]

  pub dropped_more : 0 < left → 0 < more → Dropped column b number (bit_and left (left - 1)) (more - 1)
  dropped_more s p =
      record {
        fits = let h = d.fits in omega (arith, and_le_l left (left - 1));
        alike = λ e. drop_turn left s d.fits e more p ∙ d.alike e;
      }

count_start : (column b e : ℕ) → e ≤ 64 → count_from b e (bit column) ≡ count_below e (bit (from column b))
unfolding count_from
count_start column b e l =
    count_below_cong e (λ i. leb b i && bit column i) (bit (from column b))
    (λ i m. and_comm (leb b i) (bit column i) ∙ sym (cut_bit 64 column b i (omega arith)))

-- above a number
module _ (column number last b : ℕ) (short : last ≤ 1) where
  above_start : (e : ℕ) → e < 64 → counted_to above column number last b e ≡ ltb number (count_below (e + last) (bit (from column b)))
  unfolding counted_to compared
  above_start e m = ap (ltb number) (count_start column b (e + last) (omega arith))

  -- too few cycles in all
  pub few_above : ones (from column b) ≤ number → Counted above column number last b 0
  few_above few =
      record {
        passes = λ e l m.
            let all = ones_count 64 (from column b) (from_fits column b) in
            let grows = count_grows 64 (e + last) (bit (from column b)) (omega arith) in
            bit_nothing e
            ∙ sym (above_start e m ∙ le-ltb number (count_below (e + last) (bit (from column b))) (omega arith));
      }

  -- the count is passed from the cycle on, or after the cycle, that is the lowest left
  pub dropped_above : (left : ℕ) → 0 < left → Dropped column b number left 0
      → Counted above column number last b (2 ^ 64 - 1 - word 64 (λ e. ltb e (count_trailing_zeros 64 left + 1 - last)))
  dropped_above left s d =
      record {
        passes = λ e l m.
            bit_not 64 _ e (word_small 64 (λ e. ltb e (t + 1 - last))) m
            ∙ ap not (word_bit 64 (λ e. ltb e (t + 1 - last)) e m)
            ∙ not_less e (t + 1 - last)
            ∙ same (leb (t + 1 - last) e) (ltb t (e + last))
            (λ u. let z = leb-true (t + 1 - last) e u in lt-ltb t (e + last) (omega arith))
            (λ u. let z = ltb-true t (e + last) u in le-leb (t + 1 - last) e (omega arith))
            ∙ sym (above_start e m ∙ sym (d.alike (e + last)) ∙ drop_end left s d.fits (e + last));
      }
    where
      t : ℕ
      t = count_trailing_zeros 64 left

-- every comparison, by at least and above
module _ (column number last b : ℕ) where
  -- at least none
  pub all_least : number ≡ 0 → Counted at_least column number last b (2 ^ 64 - 1)
  unfolding counted_to compared
  all_least z =
      record { passes = λ e l m. bit_ones 64 e m ∙ sym (le-leb number (count_from b (e + last) (bit column)) (omega arith)) }

  -- at least the number: above the one before it
  pub above_least : (set : ℕ) → 0 < number → Counted above column (number - 1) last b set → Counted at_least column number last b set
  unfolding counted_to compared
  above_least set p t =
      record {
        passes = λ e l m.
            let x = count_from b (e + last) (bit column) in
            t.passes e l m
            ∙ same (ltb (number - 1) x) (leb number x)
            (λ u. let z = ltb-true (number - 1) x u in le-leb number x (omega arith))
            (λ u. let z = leb-true number x u in lt-ltb (number - 1) x (omega arith));
      }

  pub counted_below : (set : ℕ) → set < 2 ^ 64 → Counted at_least column number last b set → Counted below column number last b (2 ^ 64 - 1 - set)
  unfolding counted_to compared
  counted_below set h t =
      record { passes = λ e l m. bit_not 64 set e h m ∙ ap not (t.passes e l m) ∙ not_most number (count_from b (e + last) (bit column)) }

  pub counted_most : (set : ℕ) → set < 2 ^ 64 → Counted above column number last b set → Counted at_most column number last b (2 ^ 64 - 1 - set)
  unfolding counted_to compared
  counted_most set h t =
      record { passes = λ e l m. bit_not 64 set e h m ∙ ap not (t.passes e l m) ∙ not_less number (count_from b (e + last) (bit column)) }

  pub counted_equal : (least more : ℕ) → more < 2 ^ 64 → Counted at_least column number last b least → Counted above column number last b more
      → Counted equal column number last b (bit_and least (2 ^ 64 - 1 - more))
  unfolding counted_to compared
  counted_equal least more h s t =
      record {
        passes = λ e l m.
            let x = count_from b (e + last) (bit column) in
            bit_and_lem least (2 ^ 64 - 1 - more) e
            ∙ ap₂ (λ (x y : Bool). x && y) (s.passes e l m) (bit_not 64 more e h m ∙ ap not (t.passes e l m))
            ∙ between number x
            ∙ same (eqb number x) (eqb x number) (λ u. eq-eqb x number (sym (eqb-true number x u))) (λ u. eq-eqb number x (sym (eqb-true x number u)));
      }

-- counts up to but without `end e`
pub counted_as : (end : ℕ → ℕ) (n : ℕ) (c : Comparison) (column number last b : ℕ) → ((e : ℕ) → e + last ≡ end e)
    → row n (counted_to c column number last) b ≡ row n (λ b e. compared c (count_from b (end e) (bit column)) number) b
unfolding counted_to
counted_as end n c column number last b f =
    row_ext n (counted_to c column number last) (λ b e. compared c (count_from b (end e) (bit column)) number) b
    (λ e l m. ap (λ (k : ℕ). compared c (count_from b k (bit column)) number) (f e))

-- ---- the length, by the cycle that lies `number` after b
pub after_is : (b number : ℕ) → number < 64 → After b number (b + number)
after_is b number h =
    record {
      less = λ e l m. same (ltb e (b + number)) (ltb (e - b) number)
          (λ q. let z = ltb-true e (b + number) q in lt-ltb (e - b) number (omega arith))
          (λ q. let z = ltb-true (e - b) number q in lt-ltb e (b + number) (omega arith));
      most = λ e l m. same (leb e (b + number)) (leb (e - b) number)
          (λ q. let z = leb-true e (b + number) q in le-leb (e - b) number (omega arith))
          (λ q. let z = leb-true (e - b) number q in le-leb e (b + number) (omega arith));
    }

pub after_all : (b number : ℕ) → 64 ≤ number → After b number 128
after_all b number h =
    record {
      less = λ e l m. lt-ltb e 128 (omega arith) ∙ sym (lt-ltb (e - b) number (omega arith));
      most = λ e l m. le-leb e 128 (omega arith) ∙ sym (le-leb (e - b) number (omega arith));
    }

module _ (b number at : ℕ) (a : After b number at) where
  less_bit : (e : ℕ) → b ≤ e → e < 64 → bit (word 64 (λ e. ltb e at)) e ≡ ltb (e - b) number
  less_bit e l m = word_bit 64 (λ e. ltb e at) e m ∙ a.less e l m

  most_bit : (e : ℕ) → b ≤ e → e < 64 → bit (word 64 (λ e. leb e at)) e ≡ leb (e - b) number
  most_bit e l m = word_bit 64 (λ e. leb e at) e m ∙ a.most e l m

  pub distant_below : Distant below b number (word 64 (λ e. ltb e at))
  unfolding compared
  distant_below = record { passes = less_bit }

  pub distant_most : Distant at_most b number (word 64 (λ e. leb e at))
  unfolding compared
  distant_most = record { passes = most_bit }

  pub distant_least : Distant at_least b number (2 ^ 64 - 1 - word 64 (λ e. ltb e at))
  unfolding compared
  distant_least =
      record { passes = λ e l m. bit_not 64 _ e (word_small 64 (λ e. ltb e at)) m ∙ ap not (less_bit e l m) ∙ not_less (e - b) number }

  pub distant_above : Distant above b number (2 ^ 64 - 1 - word 64 (λ e. leb e at))
  unfolding compared
  distant_above =
      record { passes = λ e l m. bit_not 64 _ e (word_small 64 (λ e. leb e at)) m ∙ ap not (most_bit e l m) ∙ not_most (e - b) number }

  pub distant_equal : Distant equal b number (bit_and (word 64 (λ e. leb e at)) (2 ^ 64 - 1 - word 64 (λ e. ltb e at)))
  unfolding compared
  distant_equal =
      record {
        passes = λ e l m.
            bit_and_lem (word 64 (λ e. leb e at)) (2 ^ 64 - 1 - word 64 (λ e. ltb e at)) e
            ∙ ap₂ (λ (x y : Bool). x && y) (most_bit e l m) (bit_not 64 _ e (word_small 64 (λ e. ltb e at)) m ∙ ap not (less_bit e l m))
            ∙ between (e - b) number;
      }
