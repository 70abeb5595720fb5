-- The comparisons and symbols of the code as those of the meanings.
use Rattle.std.specs.Prelude.{ℕ, ◌+◌, ◌-◌, ◌≤◌, ◌<◌, Bool, ◌∷◌, [], ◌≡◌, leb, ltb, get_or}
use Rattle.semantics.specs.Cycles.{count_from}
use Rattle.semantics.specs.Proposition.{bit}
use Rattle.semantics.specs.Formula as formula
use Rattle.rows.specs.declared.count.Comparison.{Comparison}
use Rattle.rows.specs.declared.count.Comparison.TheVariants.{Below, AtMost, Equal, AtLeast, Above}
use Rattle.rows.specs.declared.shape.Symbol.{Symbol}
use Rattle.rows.specs.declared.shape.Symbol.TheVariants.{Low, High, Either, LowStretch, HighStretch, EitherStretch, Steady}

abbrev pub comparison_of : Comparison → formula.Comparison
comparison_of Below = formula.below
comparison_of AtMost = formula.at_most
comparison_of Equal = formula.equal
comparison_of AtLeast = formula.at_least
comparison_of Above = formula.above

-- document 01's number for a comparison
abbrev pub comparison_number : Comparison → ℕ
comparison_number Below = 0
comparison_number AtMost = 1
comparison_number Equal = 2
comparison_number AtLeast = 3
comparison_number Above = 4

-- the comparison with document 01's number q, and the first for a number of none; so of symbols
abbrev pub comparison_numbered : ℕ → formula.Comparison
comparison_numbered q = get_or (formula.below ∷ formula.at_most ∷ formula.equal ∷ formula.at_least ∷ formula.above ∷ []) q formula.below

abbrev pub symbol_of : Symbol → formula.Symbol
symbol_of Low = formula.low
symbol_of High = formula.high
symbol_of Either = formula.either
symbol_of LowStretch = formula.low_stretch
symbol_of HighStretch = formula.high_stretch
symbol_of EitherStretch = formula.either_stretch
symbol_of Steady = formula.steady

abbrev pub symbol_numbered : ℕ → formula.Symbol
symbol_numbered q =
    get_or (formula.low ∷ formula.high ∷ formula.either ∷ formula.either ∷ formula.low_stretch ∷ formula.high_stretch ∷ formula.either_stretch ∷ formula.steady ∷ []) q formula.low

-- the cycles of [b,e] in a column, e itself counted if `last` is 1, compared with a number
unfoldable pub counted_to : formula.Comparison → ℕ → ℕ → ℕ → ℕ → ℕ → Bool
counted_to c column number last b e = formula.compared c (count_from b (e + last) (bit column)) number

-- cycle r is `number` after b, as far as the 64 cycles of a row go
pub record After (b number r : ℕ) : Type 0 where
  pub less : (e : ℕ) → b ≤ e → e < 64 → ltb e r ≡ ltb (e - b) number
  pub most : (e : ℕ) → b ≤ e → e < 64 → leb e r ≡ leb (e - b) number

-- a set that has the cycle e from b on exactly if e − b passes
pub record Distant (c : formula.Comparison) (b number set : ℕ) : Type 0 where
  pub passes : (e : ℕ) → b ≤ e → e < 64 → bit set e ≡ formula.compared c (e - b) number

-- a set that has the cycle e from b on exactly if the count up to e passes
pub record Counted (c : formula.Comparison) (column number last b set : ℕ) : Type 0 where
  pub passes : (e : ℕ) → b ≤ e → e < 64 → bit set e ≡ counted_to c column number last b e
