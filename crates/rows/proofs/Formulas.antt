-- The rows that the code makes are the rows of the formulas, as document 01 means them: one law a formula.
use Rattle.std.proofs.Common.{ℕ, suc, ◌+◌, ◌-◌, ◌≤◌, ◌<◌, ◌&&◌, ◌≡◌, refl, arith, leb, eqb, bit_and, bit_or}
use Rattle.semantics.specs.Cycles.{some_in, every_from, every_in, count_from, count_in}
use Rattle.semantics.specs.Proposition.{Proposition, Trace, Marks, bit, signal_at, holds_at}
use Rattle.semantics.specs.Formula.{Formula, point, stretch, whole, unit, chop, star, slen, scount, sdur, drawn, at, gap, conjunction, disjunction, holds, Comparison, compared, Symbol, drawn_on}
use Rattle.rows.specs.Row.{row, joined, starred}
use Rattle.rows.proofs.Columns.{Column, held_of, point_of, unit_of, counted_of, drawn_of, gap_of, marked_of}
use Rattle.rows.proofs.Joins.{chop_row, star_row}
use Rattle.rows.proofs.Rows.{row_and, row_or}

module _ (n : ℕ) (small : n ≤ 64) (σ : Trace) (μ : Marks) (b : ℕ) (lb : b < n) where
  pub point_holds : (c : ℕ) (p : Proposition) → Column n c (holds_at p σ μ) → row n (λ b e. bit c b) b ≡ row n (holds (point p) σ μ) b
  unfolding holds
  point_holds c p f = point_of n c (holds_at p σ μ) f b lb

  pub stretch_holds : (c : ℕ) (p : Proposition) → Column n c (holds_at p σ μ)
      → row n (λ b e. every_from b e (bit c)) b ≡ row n (holds (stretch p) σ μ) b
  unfolding holds
  stretch_holds c p f = held_of n c (holds_at p σ μ) f b (λ e. e) (λ e l. omega arith)

  pub whole_holds : (c : ℕ) (p : Proposition) → Column n c (holds_at p σ μ) → row n (λ b e. every_in b e (bit c)) b ≡ row n (holds (whole p) σ μ) b
  unfolding holds
  whole_holds c p f = held_of n c (holds_at p σ μ) f b suc (λ e l. l)

  pub unit_holds : (c : ℕ) (p : Proposition) → Column n c (holds_at p σ μ) → row n (λ b e. eqb e (b + 1) && bit c b) b ≡ row n (holds (unit p) σ μ) b
  unfolding holds
  unit_holds c p f = unit_of n c (holds_at p σ μ) f b lb

  pub scount_holds : (q : Comparison) (k c : ℕ) (p : Proposition) → Column n c (holds_at p σ μ)
      → row n (λ b e. compared q (count_in b e (bit c)) k) b ≡ row n (holds (scount q p k) σ μ) b
  unfolding holds
  scount_holds q k c p f = counted_of n c (holds_at p σ μ) f b suc q k (λ e l. l)

  pub sdur_holds : (q : Comparison) (k c : ℕ) (p : Proposition) → Column n c (holds_at p σ μ)
      → row n (λ b e. compared q (count_from b e (bit c)) k) b ≡ row n (holds (sdur q p k) σ μ) b
  unfolding holds
  sdur_holds q k c p f = counted_of n c (holds_at p σ μ) f b (λ e. e) q k (λ e l. omega arith)

  pub slen_holds : (q : Comparison) (k : ℕ) → row n (λ b e. compared q (e - b) k) b ≡ row n (holds (slen q k) σ μ) b
  unfolding holds
  slen_holds q k = refl

  pub drawn_holds : (s : Symbol) (k c : ℕ) → Column n c (signal_at σ k) → row n (λ b e. drawn_on s (bit c) b e) b ≡ row n (holds (drawn s k) σ μ) b
  unfolding holds
  drawn_holds s k c f = drawn_of n c (signal_at σ k) f b s

  pub at_holds : (u c : ℕ) → Column n c (μ u) → row n (λ b e. eqb b e && bit c b) b ≡ row n (holds (at u) σ μ) b
  unfolding holds
  at_holds u c f = marked_of n c (μ u) f b lb

  pub gap_holds : (u v c d x y : ℕ) → Column n c (μ u) → Column n d (μ v)
      → row n (λ b e. some_in b e (λ i. bit c i && some_in i e (λ j. bit d j && (leb x (j - i) && leb (j - i) y)))) b ≡ row n (holds (gap u v x y) σ μ) b
  unfolding holds
  gap_holds u v c d x y f g = gap_of n c d (μ u) (μ v) f g x y b

  pub chop_holds : (f g : Formula) (words : ℕ → ℕ) → ((i : ℕ) → i < n → words i ≡ row n (holds g σ μ) i)
      → joined (row n (holds f σ μ) b) words ≡ row n (holds (chop f g) σ μ) b
  unfolding holds
  chop_holds f g words k = chop_row n (holds f σ μ) (holds g σ μ) words b small k

  pub star_holds : (f : Formula) (words : ℕ → ℕ) → ((i : ℕ) → b < i → i < n → words i ≡ row n (holds (star f) σ μ) i)
      → starred (row n (holds f σ μ) b) words b ≡ row n (holds (star f) σ μ) b
  unfolding holds
  star_holds f words k = star_row n (holds f σ μ) words b small lb k

  pub conjunction_holds : (f g : Formula) → bit_and (row n (holds f σ μ) b) (row n (holds g σ μ) b) ≡ row n (holds (conjunction f g) σ μ) b
  unfolding holds
  conjunction_holds f g = row_and n (holds f σ μ) (holds g σ μ) b

  pub disjunction_holds : (f g : Formula) → bit_or (row n (holds f σ μ) b) (row n (holds g σ μ) b) ≡ row n (holds (disjunction f g) σ μ) b
  unfolding holds
  disjunction_holds f g = row_or n (holds f σ μ) (holds g σ μ) b
