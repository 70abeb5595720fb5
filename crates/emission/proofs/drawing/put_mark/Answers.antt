-- `emission::drawing::put_mark` meets its contract.
use Rattle.semantics.specs.Translation.{undrawn_mark}
use Rattle.plans.specs.Plan.{named, exactly, pointed, conjoined}
use Rattle.emission.proofs.drawing.put_mark.Goals as goal

pub returns : goal.returns
unfolding undrawn_mark
returns c =
    conjoined (exactly c.put-here.ensures) (pointed named c.put-marked.ensures) c.put.ensures
