-- Document 01, "Formulas, on cycles b0 ≤ e0" (b and e here); document 004, sections 2 and 3.
use Rattle.std.specs.Prelude.{ℕ, zero, suc, ◌+◌, ◌-◌, Bool, true, false, not, cond, ◌&&◌, ◌||◌, List, leb, ltb, eqb, length, get_or}
use Rattle.semantics.specs.Cycles.{some_in, every_from, every_in, count_from, count_in, some_column}
use Rattle.semantics.specs.Proposition.{Proposition, Trace, Marks, signal_at, holds_at}

-- <, ≤, =, ≥, >
pub data Comparison : Type 0 where
  below at_most equal at_least above : Comparison

-- what a waveform is drawn with; document 01's numbers 2 and 3 are both `either`
pub data Symbol : Type 0 where
  low high either low_stretch high_stretch either_stretch steady : Symbol

pub data Formula : Type 0 where
  point stretch whole unit : Proposition → Formula
  chop conjunction disjunction : Formula → Formula → Formula
  star : Formula → Formula
  slen : Comparison → ℕ → Formula
  scount sdur : Comparison → Proposition → ℕ → Formula
  -- drawings, of kind 1 only: a symbol on a signal, a mark of a name, a gap between two names
  drawn : Symbol → ℕ → Formula
  at : ℕ → Formula
  gap : ℕ → ℕ → ℕ → ℕ → Formula
  -- of kind 2 only
  negation : Formula → Formula
  for_some : ℕ → Formula → Formula

unfoldable pub compared : Comparison → ℕ → ℕ → Bool
compared below x n = ltb x n
compared at_most x n = leb x n
compared equal x n = eqb x n
compared at_least x n = leb n x
compared above x n = ltb n x

-- b = e, or a chain of increasing cycles from b to e with `link` on each; no chain has more than `most` links
unfoldable pub chain : ℕ → (ℕ → ℕ → Bool) → ℕ → ℕ → Bool
chain zero link b e = eqb b e
chain (suc most) link b e = eqb b e || some_in (suc b) e (λ i. link b i && chain most link i e)

-- a signal, as a test of a cycle, drawn from b to e
unfoldable pub drawn_on : Symbol → (ℕ → Bool) → ℕ → ℕ → Bool
drawn_on low p b e = eqb e (b + 1) && not (p b)
drawn_on high p b e = eqb e (b + 1) && p b
drawn_on either p b e = eqb e (b + 1)
drawn_on low_stretch p b e = every_from b e (λ t. not (p t))
drawn_on high_stretch p b e = every_from b e p
drawn_on either_stretch p b e = true
drawn_on steady p b e = every_from b e (λ t. not (p t)) || every_from b e p

-- the marks, with a column of zeros and ones for name u
unfoldable pub mark : ℕ → List Bool → Marks → Marks
mark u column μ v t = cond (eqb v u) (get_or column t false) (μ v t)

unfoldable pub holds : Formula → Trace → Marks → ℕ → ℕ → Bool
holds (point p) σ μ b e = holds_at p σ μ b
holds (stretch p) σ μ b e = every_from b e (holds_at p σ μ)
holds (whole p) σ μ b e = every_in b e (holds_at p σ μ)
holds (unit p) σ μ b e = eqb e (b + 1) && holds_at p σ μ b
holds (chop f g) σ μ b e = some_in b e (λ i. holds f σ μ b i && holds g σ μ i e)
holds (conjunction f g) σ μ b e = holds f σ μ b e && holds g σ μ b e
holds (disjunction f g) σ μ b e = holds f σ μ b e || holds g σ μ b e
holds (star f) σ μ b e = chain (e - b) (holds f σ μ) b e
holds (slen c n) σ μ b e = compared c (e - b) n
holds (scount c p n) σ μ b e = compared c (count_in b e (holds_at p σ μ)) n
holds (sdur c p n) σ μ b e = compared c (count_from b e (holds_at p σ μ)) n
holds (drawn s k) σ μ b e = drawn_on s (signal_at σ k) b e
holds (at u) σ μ b e = eqb b e && μ u b
holds (gap u v least most) σ μ b e =
    some_in b e (λ x. μ u x && some_in x e (λ y. μ v y && (leb least (y - x) && leb (y - x) most)))
holds (negation f) σ μ b e = not (holds f σ μ b e)
holds (for_some u f) σ μ b e = some_column (length σ) (λ c. holds f σ (mark u c μ) b e)

-- an emitted formula is true of a trace: from its first cycle to its last, all name columns zero
unfoldable pub unmarked : Marks
unmarked u t = false

unfoldable pub true_of : Formula → Trace → Bool
true_of f σ = holds f σ unmarked 0 (length σ - 1)
