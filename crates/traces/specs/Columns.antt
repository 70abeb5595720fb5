-- Columns: a line of a trace as one word, bit t for cycle t. A set has nineteen: the sixteen signals', then the three names'.
use Rattle.std.specs.Prelude.{ℕ, ◌+◌, ◌^◌, ◌<◌, List, ◌≡◌, length, get_or}
use Rattle.semantics.specs.Proposition.{Trace, Marks, bit}
use Rattle.rows.specs.Row.{word}
use Rattle.stored.specs.Bytes.{in_order}
use Rattle.stored.specs.Layout.{most_signals, most_names}
use Rattle.traces.specs.Trace.{cycle_at}
use Rattle.stored.specs.Tree.{earlier}

-- how many there are, and the first of a name
abbrev pub column_count : ℕ
column_count = most_signals + most_names

abbrev pub first_name : ℕ
first_name = most_signals

unfoldable pub column_at : List ℕ → ℕ → ℕ
column_at columns k = get_or columns k 0

-- the cycles of a stored trace at which signal k is set
unfoldable pub signal_column : List ℕ → ℕ → ℕ → ℕ
signal_column t n k = word n (λ i. bit (cycle_at t i) k)

-- the columns of a stored trace of s signals and n cycles, which marks no name
unfoldable pub columns_of : ℕ → ℕ → List ℕ → List ℕ
columns_of s n t = in_order column_count (earlier s 0 (signal_column t n))

-- columns of n cycles
pub record IsColumns (n : ℕ) (columns : List ℕ) : Type 0 where
  pub all : length columns ≡ column_count
  pub short : (k : ℕ) → column_at columns k < 2 ^ n

-- the trace and the marks that columns tell
unfoldable pub trace_of : ℕ → List ℕ → Trace
trace_of n columns = in_order n (λ t. word first_name (λ k. bit (column_at columns k) t))

unfoldable pub marks_of : List ℕ → Marks
marks_of columns u t = bit (column_at columns (first_name + u)) t
