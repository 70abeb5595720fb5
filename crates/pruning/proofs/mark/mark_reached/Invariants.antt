-- `pruning::mark::mark_reached` meets its contract. The loop's invariant: what is marked is reached, and nodes after i have marked their operands.
use Rattle.std.proofs.Common.{◌+◌}
use Rattle.stored.specs.Written.{node_in}
use Rattle.pruning.specs.Pruned.{MarkedFrom}
use Rattle.pruning.proofs.mark.mark_reached.Given as goal

abbrev pub invariant-loop-i : goal.invariant-loop-i
invariant-loop-i l = MarkedFrom (node_in l.draft) l.root (l.i + 1) l.marks
