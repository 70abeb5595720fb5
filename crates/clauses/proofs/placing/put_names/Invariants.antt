-- `clauses::placing::put_names` meets its contract. The loop's invariant: the names from u on are placed.
use Rattle.semantics.specs.Proposition.{bit}
use Rattle.semantics.specs.Formula.{at}
use Rattle.plans.specs.Plan.{Wrote}
use Rattle.clauses.proofs.Names.{names_from}
use Rattle.clauses.proofs.placing.put_names.Given as goal

abbrev pub invariant-loop-u : goal.invariant-loop-u
invariant-loop-u l = Wrote l.initial.out l.out l.node (names_from l.own l.u (bit l.names) (at l.f))
