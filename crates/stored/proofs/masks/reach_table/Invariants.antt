-- `stored::masks::reach_table` meets its contract.
use Rattle.std.proofs.Common.{◌≡◌, ℕ, length, get_or}
use Rattle.stored.specs.Node.{node_at}
use Rattle.stored.specs.Tree.{earlier}
use Rattle.stored.specs.Reach.{reach_at}
use Rattle.stored.proofs.masks.reach_table.Given as goal

abbrev pub invariant-loop-i : goal.invariant-loop-i
invariant-loop-i l = (length l.table ≡ 64) × ((k : ℕ) → get_or l.table k 0 ≡ earlier l.i 0 (reach_at (node_at l.nodes)) k)
