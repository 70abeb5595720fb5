-- `propositions::proposition::negate` meets its contract.
use Rattle.propositions.proofs.Propositions.{putting_none, putting_more}
use Rattle.propositions.proofs.proposition.negate.Goals as goal

pub loop-init : goal.loop-init
loop-init c = putting_none

pub loop-preserved : goal.loop-preserved
loop-preserved c = putting_more c.loop.invariant c.over.ensures
