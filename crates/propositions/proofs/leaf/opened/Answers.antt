-- `propositions::leaf::opened` meets its contract.
use Rattle.propositions.proofs.Leaves.{opened_read}
use Rattle.propositions.proofs.Steps.{shut_none}
use Rattle.propositions.proofs.leaf.opened.Goals as goal

pub returns-then-depth-eq0 : goal.returns-then-depth-eq0
returns-then-depth-eq0 c = rw c.if-depth-eq0.true (record { fails = λ s. shut_none s _ })

pub returns : goal.returns
returns c = opened_read _ _ c.args.depth c.sign.result c.if-depth-eq0.false c.sign.ensures
