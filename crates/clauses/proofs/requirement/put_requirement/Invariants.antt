-- `clauses::requirement::put_requirement` meets its contract. The loop's invariant: the first k clauses are joined, by role.
use Rattle.clauses.specs.Clauses.{clauses_at}
use Rattle.clauses.proofs.Joining.{Joined}
use Rattle.clauses.proofs.requirement.put_requirement.Given as goal

abbrev pub invariant-loop-k : goal.invariant-loop-k
invariant-loop-k l = Joined (clauses_at l.nodes l.clauses l.c) l.initial.out l.k l.out l.sides
