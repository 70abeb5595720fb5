-- A node put after others.
use Rattle.std.specs.Prelude.{ℕ, ◌<◌, ◌≡◌}
use Rattle.stored.specs.Layout.{most_nodes}
use Rattle.stored.specs.declared.Node.{Node}
use Rattle.stored.specs.Written.{NodeFits}
use Rattle.typed.specs.Draft.{Draft, draft, put}
use Rattle.propositions.specs.declared.nodes.Nodes.{Nodes}

-- what is drafted of them
abbrev pub so_far : Nodes → Draft
so_far nodes = draft nodes.bytes nodes.count

-- where a node may be put: a count with room for one more, and fields that fit
pub record Puttable (x : Node) (nodes : Nodes) : Type 0 where
  pub counted : nodes.count < 18446744073709551615
  pub fits : nodes.count < most_nodes → NodeFits x

pub record NodePut (x : Node) (before after : Nodes) : Type 0 where
  pub drafted : so_far after ≡ put x (so_far before)

-- where a node over two operands may be put: the first ends in node `left`, the second in the last one
pub record Joinable (op left : ℕ) (nodes : Nodes) : Type 0 where
  pub op_fits : op < 256
  pub counted : nodes.count < 18446744073709551615
  pub below : left < nodes.count
