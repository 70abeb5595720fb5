-- What a fill of the tables is given, and what it leaves.
use Rattle.std.specs.Prelude.{ℕ, ◌+◌, ◌*◌, ◌≤◌, ◌<◌, Bool, true, cond, List, ◌≡◌, eqb, length, get_or, set}
use Rattle.std.specs.Int.Bits.{bit_and}
use Rattle.semantics.specs.Proposition.{Trace, Marks}
use Rattle.rows.specs.Row.{word}
use Rattle.stored.specs.declared.Node.{Node}
use Rattle.stored.specs.Bytes.{every_below}
use Rattle.traces.specs.Columns.{first_name, column_at, IsColumns, trace_of, marks_of}
use Rattle.stored.specs.Layout.{node_size, most_signals, most_names, most_nodes, most_cycles}
use Rattle.stored.specs.Node.{requirement_sorts, node_at, node_right, operands_right}
use Rattle.stored.specs.Reach.{joint, name_mask, reach_table, entry_of}
use Rattle.tables.specs.Table.{row_at, Table}

-- nodes that rules 6 and 7 take, columns of n cycles, and words for every node
pub record Given (nodes : List ℕ) (count n : ℕ) (columns words : List ℕ) : Type 0 where
  pub signals : ℕ
  pub names : ℕ
  pub few_signals : signals ≤ most_signals
  pub few_names : names ≤ most_names
  pub few_nodes : count ≤ most_nodes
  pub nodes_long : node_size * count ≤ length nodes
  pub fields : every_below count (node_right requirement_sorts signals names (node_at nodes)) ≡ true
  pub operands : every_below count (operands_right requirement_sorts (node_at nodes)) ≡ true
  pub some_cycles : 1 ≤ n
  pub few_cycles : n ≤ most_cycles
  pub columned : IsColumns n columns
  pub words_long : 64 * count ≤ length words

-- the same, with the nodes' reach masks
pub record Ready (nodes : List ℕ) (count n : ℕ) (reach columns words : List ℕ) : Type 0 where
  pub given : Given nodes count n columns words
  pub reached : reach ≡ reach_table (node_at nodes) count

-- the words of the nodes before i are right
pub record Before (x : ℕ → Node) (σ : Trace) (μ : Marks) (n : ℕ) (words : List ℕ) (i : ℕ) : Type 0 where
  pub earlier : (k : ℕ) → k < i → Table x σ μ n words k

-- the words of node i are right now, and those of the other nodes as they were
pub record Filled (x : ℕ → Node) (σ : Trace) (μ : Marks) (n : ℕ) (i : ℕ) (old new : List ℕ) : Type 0 where
  pub done : Table x σ μ n new i
  pub others : (k b : ℕ) → b < 64 → (k ≡ i → ⊥) → row_at new k b ≡ row_at old k b

-- Node i reaches none of the names in `moved`: bit u is name u. Every node counts as reaching bit 3, which stands for the first fill.
unfoldable pub apart : List ℕ → ℕ → ℕ → Bool
apart reach moved i = eqb (bit_and (joint (entry_of reach i) 8) moved) 0

-- the words of every node that reaches none of the moved names are right already
pub record Kept (x : ℕ → Node) (count n : ℕ) (reach : List ℕ) (moved : ℕ) (columns words : List ℕ) : Type 0 where
  pub kept : (i : ℕ) → i < count → apart reach moved i ≡ true → Table x (trace_of n columns) (marks_of columns) n words i

-- the column of a name on cycle t
unfoldable pub marked_at : ℕ → ℕ
marked_at t = word 64 (eqb t)

-- name u put on cycle t, and its mask if it stood elsewhere
unfoldable pub with_name : List ℕ → ℕ → ℕ → List ℕ
with_name columns u t = set columns (first_name + u) (marked_at t)

unfoldable pub changed : List ℕ → ℕ → ℕ → ℕ
changed columns u t = cond (eqb (column_at columns (first_name + u)) (marked_at t)) 0 (name_mask u)

-- the three names put on the cycles of a list, and the masks of those that stood elsewhere
unfoldable pub with_names : List ℕ → List ℕ → List ℕ
with_names columns cycles =
    with_name (with_name (with_name columns 0 (get_or cycles 0 0)) 1 (get_or cycles 1 0)) 2 (get_or cycles 2 0)

unfoldable pub changed_names : List ℕ → List ℕ → ℕ
changed_names columns cycles =
    let one = with_name columns 0 (get_or cycles 0 0) in
    let two = with_name one 1 (get_or cycles 1 0) in
    joint (changed columns 0 (get_or cycles 0 0)) (joint (changed one 1 (get_or cycles 1 0)) (changed two 2 (get_or cycles 2 0)))
