-- `text::part::names` meets its contract.
use Rattle.std.proofs.Common.{◌-◌, length}
use Rattle.text.proofs.Parts.{SoFar}
use Rattle.text.proofs.part.names.Given as goal

abbrev pub invariant-loop-name : goal.invariant-loop-name
invariant-loop-name l = SoFar l.text l.at l.mask l.here

abbrev pub decreases-loop-name : goal.decreases-loop-name
decreases-loop-name l = length l.text - l.here
