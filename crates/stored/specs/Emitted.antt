-- Document 01: a sheet of kind 2, an emitted formula: its form, and when it is true of a trace.
use Rattle.std.specs.Prelude.{ℕ, ◌-◌, Bool, ◌&&◌, List, leb, eqb, get_or}
use Rattle.semantics.specs.Proposition.{Trace}
use Rattle.semantics.specs.Formula.{Formula, true_of}
use Rattle.semantics.specs.Placement.{no_names}
use Rattle.semantics.specs.Reach.{within}
use Rattle.stored.specs.declared.Header.{Header}
use Rattle.stored.specs.Bytes.{every_below}
use Rattle.stored.specs.Layout.{emitted_kind, most_signals, most_names}
use Rattle.stored.specs.Node.{emitted_sorts, node_right, operands_right, is_formula_node}
use Rattle.stored.specs.Tree.{formula_at}
use Rattle.stored.specs.Sheet.{header_of, nodes_of, framed, versioned, sized}

unfoldable pub of_kind_two : List ℕ → Bool
of_kind_two s = eqb (get_or s 3 0) emitted_kind

-- kind 2 has one node or more and no clause
unfoldable pub emitted_counted : Header → Bool
emitted_counted h =
    (leb 1 h.signals && leb h.signals most_signals) && (leb h.names most_names && (leb 1 h.nodes && eqb h.clauses 0))

-- its root is its last node
unfoldable pub root_of : List ℕ → ℕ
root_of s = (header_of s).nodes - 1

unfoldable pub emitted_formula : List ℕ → Formula
emitted_formula s = formula_at (nodes_of s) (root_of s)

-- each node, as many as bytes 6–7 say, has an op of kind 2, unused fields zero, and signals, names and comparisons in range
unfoldable pub emitted_nodes : List ℕ → Bool
emitted_nodes s =
    every_below (header_of s).nodes (node_right emitted_sorts (header_of s).signals (header_of s).names (nodes_of s))

-- each operand is an earlier node of the sort needed
unfoldable pub emitted_operands : List ℕ → Bool
emitted_operands s = every_below (header_of s).nodes (operands_right emitted_sorts (nodes_of s))

-- the root is a formula in which each name stands under its quantifier
unfoldable pub emitted_root : List ℕ → Bool
emitted_root s =
    is_formula_node emitted_sorts (nodes_of s) (header_of s).nodes (root_of s) && within no_names (emitted_formula s)

-- the form of a kind 2 sheet
unfoldable pub is_emitted : List ℕ → Bool
is_emitted s =
    framed s
    && (versioned s
    && (of_kind_two s
    && (emitted_counted (header_of s) && (sized s && (emitted_nodes s && (emitted_operands s && emitted_root s))))))

-- true of a trace
unfoldable pub emitted_true : List ℕ → Trace → Bool
emitted_true s σ = true_of (emitted_formula s) σ
