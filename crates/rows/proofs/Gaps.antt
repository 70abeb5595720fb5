-- Laws of the rows of gaps.
use Rattle.std.proofs.Common.{ℕ, suc, ◌-◌, ◌^◌, ◌≤◌, ◌<◌, Bool, not, ◌&&◌, ◌≡◌, sym, ap, ◌∙◌, lt_of_le_of_lt, arith, leb, ltb, bit_and, leb-true, le-leb}
use lib.Bits.{and_le_l}
use Rattle.semantics.specs.Cycles.{some_below, some_in}
use Rattle.semantics.specs.Proposition.{bit}
use Rattle.rows.specs.Row.{word, row, always, joined, shifted}
use Rattle.semantics.proofs.Tests.{same, both, and_left, and_right, and_comm, not_not}
use Rattle.semantics.proofs.Cycles.{below_intro, below_elim, some_intro, some_elim}
use Rattle.rows.proofs.Bits.{bit_and_lem, bit_not, bit_shifted}
use Rattle.rows.proofs.Rows.{word_small, word_bit, is_word_lem, masked_row}
use Rattle.rows.proofs.Joins.{joined_elim, joined_intro}
use Rattle.rows.proofs.Masks.{cut_bit}

pub window_is : (least most : ℕ)
    → bit_and (word 64 (λ e. leb e most)) (2 ^ 64 - 1 - word 64 (λ e. ltb e least)) ≡ word 64 (λ d. leb least d && leb d most)
window_is least most =
    is_word_lem 64 (bit_and (word 64 (λ e. leb e most)) (2 ^ 64 - 1 - word 64 (λ e. ltb e least))) (λ d. leb least d && leb d most)
    (lt_of_le_of_lt (and_le_l (word 64 (λ e. leb e most)) (2 ^ 64 - 1 - word 64 (λ e. ltb e least))) (word_small 64 (λ e. leb e most)))
    (λ d l. cut_bit 64 (word 64 (λ e. leb e most)) least d l
    ∙ ap (λ (c : Bool). c && leb least d) (word_bit 64 (λ e. leb e most) d l) ∙ and_comm (leb d most) (leb least d))

module _ (first second least most b : ℕ) where
  -- y ends a gap from x
  abbrev pub ends : ℕ → ℕ → Bool
  ends x y = bit second y && (leb least (y - x) && leb (y - x) most)

  abbrev pub distances : ℕ
  distances = word 64 (λ d. leb least d && leb d most)

  abbrev pub starts : ℕ
  starts = bit_and first (2 ^ 64 - 1 - word 64 (λ e. ltb e b))

  abbrev pub hits : ℕ
  hits = bit_and second (joined starts (shifted distances))

  later : (x y : ℕ) → y < 64 → bit (shifted distances x) y ≡ (leb x y && (leb least (y - x) && leb (y - x) most))
  unfolding shifted
  later x y l =
      bit_shifted 64 distances x y l
      ∙ ap (λ (c : Bool). leb x y && c) (word_bit 64 (λ d. leb least d && leb d most) (y - x) (omega arith))

  gap_at : (e : ℕ) → e < 64 → some_below (suc e) (bit hits) ≡ some_in b e (λ x. bit first x && some_in x e (ends x))
  gap_at e l =
      same (some_below (suc e) (bit hits)) (some_in b e (λ x. bit first x && some_in x e (ends x)))
      (λ t.
      let f = below_elim (suc e) (bit hits) t in
      let y = f.at in
      let hy = f.high in
      let pair = sym (bit_and_lem second (joined starts (shifted distances)) y) ∙ f.ok in
      let j = joined_elim starts (shifted distances) y (omega arith) (and_right (bit second y) (bit (joined starts (shifted distances)) y) pair) in
      let x = j.from in
      let start = sym (cut_bit 64 first b x j.below) ∙ j.chosen in
      let gone = sym (later x y (omega arith)) ∙ j.has in
      let xy = leb-true x y (and_left (leb x y) (leb least (y - x) && leb (y - x) most) gone) in
      some_intro b (suc e) (λ x. bit first x && some_in x e (ends x)) x
      (leb-true b x (and_right (bit first x) (leb b x) start)) (omega arith)
      (both (and_left (bit first x) (leb b x) start)
      (some_intro x (suc e) (ends x) y xy hy
      (both (and_left (bit second y) (bit (joined starts (shifted distances)) y) pair)
      (and_right (leb x y) (leb least (y - x) && leb (y - x) most) gone)))))
      (λ t.
      let f = some_elim b (suc e) (λ x. bit first x && some_in x e (ends x)) t in
      let x = f.at in
      let hx = f.high in
      let g = some_elim x (suc e) (ends x) (and_right (bit first x) (some_in x e (ends x)) f.ok) in
      let y = g.at in
      let hy = g.high in
      below_intro (suc e) (bit hits) y hy
      (bit_and_lem second (joined starts (shifted distances)) y
      ∙ both (and_left (bit second y) (leb least (y - x) && leb (y - x) most) g.ok)
      (joined_intro starts (shifted distances) y (omega arith)
      (record {
        from = x;
        below = omega arith;
        chosen = cut_bit 64 first b x (omega arith) ∙ both (and_left (bit first x) (some_in x e (ends x)) f.ok) (le-leb b x f.low);
        has = later x y (omega arith) ∙ both (le-leb x y g.low) (and_right (bit second y) (leb least (y - x) && leb (y - x) most) g.ok);
      }))))

  pub gap_is : (n : ℕ) → n ≤ 64
      → bit_and (row n always b) (2 ^ 64 - 1 - word 64 (λ e. not (some_below (suc e) (bit hits))))
      ≡ row n (λ b e. some_in b e (λ x. bit first x && some_in x e (ends x))) b
  gap_is n l =
      masked_row n (2 ^ 64 - 1 - word 64 (λ e. not (some_below (suc e) (bit hits)))) (λ b e. some_in b e (λ x. bit first x && some_in x e (ends x))) b
      (λ e k m.
      bit_not 64 (word 64 (λ e. not (some_below (suc e) (bit hits)))) e (word_small 64 (λ e. not (some_below (suc e) (bit hits)))) (omega arith)
      ∙ ap not (word_bit 64 (λ e. not (some_below (suc e) (bit hits))) e (omega arith))
      ∙ not_not (some_below (suc e) (bit hits)) ∙ gap_at e (omega arith))
