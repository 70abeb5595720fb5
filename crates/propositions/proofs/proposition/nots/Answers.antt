-- `propositions::proposition::nots` meets its contract.
use Rattle.propositions.proofs.Propositions.{passed_none, passed_more, passed_all}
use Rattle.propositions.proofs.proposition.nots.Goals as goal

pub loop-after-init : goal.loop-after-init
loop-after-init c = passed_none c.requires

pub loop-after-preserved : goal.loop-after-preserved
loop-after-preserved c = passed_more c.loop-after.invariant c.in-Some.ensures

pub returns : goal.returns
returns c = passed_all c.loop-after.invariant c.in_default.ensures
