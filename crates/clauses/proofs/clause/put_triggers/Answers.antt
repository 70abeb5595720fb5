-- `clauses::clause::put_triggers` meets its contract.
use Rattle.semantics.specs.Translation.{anywhere, broken_of}
use Rattle.plans.specs.Plan.{everywhere, chopped, conjoined}
use Rattle.clauses.proofs.Names.{placed_over}
use Rattle.clauses.proofs.clause.put_triggers.Goals as goal

pub returns : goal.returns
unfolding broken_of anywhere
returns c =
    let first = chopped c.put_once-once.ensures everywhere c.put-first.ensures in
    let later = chopped c.put_unanswered-unanswered.ensures everywhere c.put-rest.ensures in
    let both = conjoined first later c.put-joined.ensures in
    let placed = rw c.both-names.ensures at c.put_placed-placed.ensures in
    chopped everywhere (placed_over _ both placed) c.put.ensures
