-- `emission::copy::copy_nodes` meets its contract. The loop's invariant: the first i nodes are copied, and the map has their copies.
use Rattle.std.proofs.Common.{◌≡◌, length}
use Rattle.stored.specs.Node.{node_at}
use Rattle.plans.specs.Emission.{Step}
use Rattle.emission.specs.Copying.{Mapped, copy_costs}
use Rattle.emission.proofs.copy.copy_nodes.Given as goal

abbrev pub invariant-loop-i : goal.invariant-loop-i
invariant-loop-i l =
    (length l.map ≡ 64) × (Step l.initial.out l.out (copy_costs (node_at l.nodes) l.i)) × (Mapped (node_at l.nodes) l.i l.out l.map)
