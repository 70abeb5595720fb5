-- `clauses::clause::put_unanswered` meets its contract.
use Rattle.semantics.specs.Translation.{anywhere, unanswered_of}
use Rattle.plans.specs.Plan.{everywhere, chopped, conjoined, denied}
use Rattle.clauses.proofs.Names.{once_over}
use Rattle.clauses.proofs.clause.put_unanswered.Goals as goal

pub returns : goal.returns
unfolding unanswered_of anywhere
returns c =
    let added = rw c.besides-added.ensures at c.put_once-ended.ensures in
    let ended = once_over _ c.put_shortest-shortest.ensures added in
    let given = rw (c.besides-rest.ensures, c.both.ensures) at c.put_placed-given.ensures in
    let missed = denied (chopped given everywhere c.put-somewhere.ensures) c.put-missed.ensures in
    conjoined ended missed c.put.ensures
