-- `stored::sheet::node_part` meets its contract.
use Rattle.std.proofs.Common.{arith}
use Rattle.stored.proofs.Accepted.{answer_accepted, sizes}
use Rattle.stored.specs.Sheet.{node_part}
use Rattle.stored.proofs.sheet.node_part.Goals as goal

pub nodes_end-end-requires : goal.nodes_end-end-requires
nodes_end-end-requires c = omega (arith, sizes _ _ c.requires)

pub slice_bounds-result-end : goal.slice_bounds-result-end
slice_bounds-result-end c = omega (arith, sizes _ _ c.requires, c.nodes_end-end.ensures)

pub returns : goal.returns
unfolding node_part
returns c = rw ((answer_accepted _ _ c.requires).1, c.nodes_end-end.ensures)
