-- `emission::drawing::put_steady` meets its contract.
use Rattle.semantics.specs.Translation.{undrawn_symbol}
use Rattle.plans.specs.Plan.{signalled, stretched, disjoined}
use Rattle.emission.proofs.drawing.put_steady.Goals as goal

pub returns : goal.returns
unfolding undrawn_symbol
returns c =
    let low = stretched c.put_low-low.ensures c.put-all_low.ensures in
    let high = stretched (signalled c.put-high.ensures) c.put-all_high.ensures in
    disjoined low high c.put.ensures
