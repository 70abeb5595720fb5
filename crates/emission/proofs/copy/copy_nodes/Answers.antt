-- `emission::copy::copy_nodes` meets its contract.
use Rattle.std.proofs.Common.{length-set}
use Rattle.emission.proofs.Copies.{node_fits}
use Rattle.emission.proofs.Copied.{copied_next}
use Rattle.emission.proofs.copy.copy_nodes.Goals as goal

pub loop-i-preserved : goal.loop-i-preserved
loop-i-preserved c =
    let p = c.requires in
    let inv = c.loop-i.invariant in
    let next = copied_next c.loop-i.i p.0 p.1 p.2 c.loop-i-test.true inv.0 inv.1 inv.2 (rw c.node_at.ensures at c.copy_node.ensures) in
    (simp length-set inv.0, next.0, next.1)

pub copy_node-requires : goal.copy_node-requires
copy_node-requires c = rw c.node_at.ensures (node_fits _ _ (λ k. (c.type_inv.nodes k).fits))
