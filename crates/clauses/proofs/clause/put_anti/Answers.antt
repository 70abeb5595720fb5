-- `clauses::clause::put_anti` meets its contract.
use Rattle.semantics.specs.Translation.{anywhere, broken_of}
use Rattle.plans.specs.Plan.{everywhere, chopped}
use Rattle.clauses.proofs.clause.put_anti.Goals as goal

pub returns : goal.returns
unfolding broken_of anywhere
returns c =
    chopped everywhere (chopped c.put_placed-given.ensures everywhere c.put-started.ensures) c.put.ensures
