-- `text::sheet::lines` meets its contract.
use Rattle.std.proofs.Common.{◌-◌, length}
use Rattle.text.proofs.Lines.{LinesSoFar}
use Rattle.text.proofs.sheet.lines.Given as goal

abbrev pub invariant-loop-nodes : goal.invariant-loop-nodes
invariant-loop-nodes l = LinesSoFar l.text l.at l.initial.nodes l.initial.clauses l.here l.nodes l.clauses

abbrev pub decreases-loop-nodes : goal.decreases-loop-nodes
decreases-loop-nodes l = length l.text - l.here
