-- `emission::drawing::put_gap` meets its contract.
use Rattle.semantics.specs.Translation.{anywhere, undrawn_gap}
use Rattle.plans.specs.Plan.{named, everywhere, no_more, pointed, chopped, conjoined}
use Rattle.emission.proofs.drawing.put_gap.Goals as goal

pub returns : goal.returns
unfolding undrawn_gap anywhere
returns c =
    let start = pointed named c.put-start.ensures in
    let range = conjoined c.put_least-not_less.ensures (no_more c.put-not_more.ensures) c.put-range.ensures in
    let end = pointed named c.put-end.ensures in
    chopped everywhere (chopped (conjoined start range c.put-gap.ensures) end c.put-inner.ensures) c.put.ensures
