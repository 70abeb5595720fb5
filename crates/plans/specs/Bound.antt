-- Document 01: how many nodes an emitted formula may have.
use Rattle.std.specs.Prelude.{ℕ, ◌+◌, ◌*◌, Bool, ◌&&◌, List, leb}
use Rattle.semantics.specs.Cycles.{count_below}
use Rattle.stored.specs.declared.Node.{Node}
use Rattle.stored.specs.Sheet.{header_of, nodes_of}

-- ops 27 to 29
unfoldable pub is_drawing : Node → Bool
is_drawing x = leb 27 x.op && leb x.op 29

unfoldable pub drawing_at : (ℕ → Node) → ℕ → Bool
drawing_at x i = is_drawing (x i)

-- the drawings among the nodes, reached or not
unfoldable pub drawings : List ℕ → ℕ
drawings s = count_below (header_of s).nodes (drawing_at (nodes_of s))

-- n + 11d + 3 + 2m + c(16 + 5m)
unfoldable pub node_bound : List ℕ → ℕ
node_bound s =
    (header_of s).nodes + 11 * drawings s + 3 + 2 * (header_of s).names
    + (header_of s).clauses * (16 + 5 * (header_of s).names)

-- the largest such bound: 64 nodes, all of them drawings, 3 names and 8 clauses
abbrev pub most_emitted : ℕ
most_emitted = 1025
