-- `emission::drawing::put_low` meets its contract.
use Rattle.plans.specs.Plan.{signalled, negated_of}
use Rattle.emission.proofs.drawing.put_low.Goals as goal

pub returns : goal.returns
returns c =
    negated_of (signalled c.put-high.ensures) c.put.ensures
