-- `propositions::proposition::negate` meets its contract.
use Rattle.propositions.proofs.Propositions.{Putting}
use Rattle.propositions.proofs.proposition.negate.Given as goal

abbrev pub invariant-loop : goal.invariant-loop
invariant-loop l = Putting l.initial.nodes l.nodes l.counter
