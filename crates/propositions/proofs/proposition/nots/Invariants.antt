-- `propositions::proposition::nots` meets its contract.
use Rattle.std.proofs.Common.{◌-◌, length}
use Rattle.propositions.proofs.Propositions.{Passed}
use Rattle.propositions.proofs.proposition.nots.Given as goal

abbrev pub invariant-loop-after : goal.invariant-loop-after
invariant-loop-after l = Passed l.text l.at l.count l.place

abbrev pub decreases-loop-after : goal.decreases-loop-after
decreases-loop-after l = length l.text - l.place
