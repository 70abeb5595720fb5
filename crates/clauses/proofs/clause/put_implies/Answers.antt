-- `clauses::clause::put_implies` meets its contract.
use Rattle.semantics.specs.Translation.{anywhere, broken_of}
use Rattle.plans.specs.Plan.{there, everywhere, chopped, conjoined, denied}
use Rattle.clauses.proofs.Names.{placed_over}
use Rattle.clauses.proofs.clause.put_implies.Goals as goal

pub returns : goal.returns
unfolding broken_of anywhere
returns c =
    let given = rw c.besides-rest.ensures at c.put_placed-given.ensures in
    let missed = denied given c.put-missed.ensures in
    let unanswered = conjoined there missed c.put-unanswered.ensures in
    let started = chopped (placed_over _ unanswered c.put_placed-placed.ensures) everywhere c.put-started.ensures in
    chopped everywhere started c.put.ensures
