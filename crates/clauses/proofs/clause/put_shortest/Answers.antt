-- `clauses::clause::put_shortest` meets its contract.
use Rattle.semantics.specs.Translation.{extended, shortest_of}
use Rattle.plans.specs.Plan.{there, longer, chopped, conjoined, denied}
use Rattle.clauses.proofs.clause.put_shortest.Goals as goal

pub returns : goal.returns
unfolding shortest_of extended
returns c =
    conjoined there (denied (chopped there longer c.put-longer.ensures) c.put-not_longer.ensures) c.put.ensures
