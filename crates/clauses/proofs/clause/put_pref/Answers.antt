-- `clauses::clause::put_pref` meets its contract.
use Rattle.semantics.specs.Translation.{anywhere, broken_of}
use Rattle.plans.specs.Plan.{everywhere, chopped, denied}
use Rattle.clauses.proofs.clause.put_pref.Goals as goal

pub returns : goal.returns
unfolding broken_of anywhere
returns c =
    chopped (denied c.put_placed-held.ensures c.put-missed.ensures) everywhere c.put.ensures
