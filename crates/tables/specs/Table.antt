-- Interval tables in lent words: row b of node i is word 64 * i + b, and a proposition's column is word 64 * i.
use Rattle.std.specs.Prelude.{ℕ, ◌+◌, ◌*◌, ◌<◌, List, ◌≡◌, get_or}
use Rattle.semantics.specs.Proposition.{Trace, Marks, holds_at}
use Rattle.semantics.specs.Formula.{holds}
use Rattle.semantics.specs.Placement.{Placement}
use Rattle.rows.specs.Row.{word, row}
use Rattle.stored.specs.declared.Node.{Node}
use Rattle.traces.specs.Columns.{trace_of, marks_of}
use Rattle.stored.specs.Node.{requirement_sorts, sort_of, proposition, formula}
use Rattle.stored.specs.Tree.{proposition_at, formula_at}

-- the names on the cycles of a list, in their order
unfoldable pub standing : List ℕ → Placement
standing cycles u = get_or cycles u 0

-- the three names stand on cycles below n
pub record Inside (n : ℕ) (cycles : List ℕ) : Type 0 where
  pub stands : (u : ℕ) → u < 3 → standing cycles u < n

unfoldable pub row_at : List ℕ → ℕ → ℕ → ℕ
row_at words i b = get_or words (64 * i + b) 0

-- The words of node i are right, over n cycles of a trace and marks: the rows of a formula up to the last cycle, or the column of a proposition.
pub record Table (x : ℕ → Node) (σ : Trace) (μ : Marks) (n : ℕ) (words : List ℕ) (i : ℕ) : Type 0 where
  pub rows : sort_of requirement_sorts (x i).op ≡ formula → (b : ℕ) → b < n → row_at words i b ≡ row n (holds (formula_at x i) σ μ) b
  pub column : sort_of requirement_sorts (x i).op ≡ proposition → row_at words i 0 ≡ word n (λ t. holds_at (proposition_at x i) σ μ t)

-- the words of all nodes are right, for what the columns tell
pub record Tables (x : ℕ → Node) (count n : ℕ) (columns words : List ℕ) : Type 0 where
  pub table : (i : ℕ) → i < count → Table x (trace_of n columns) (marks_of columns) n words i
