-- `emission::drawing::put_least` meets its contract.
use Rattle.plans.specs.Plan.{everywhere}
use Rattle.plans.proofs.Plans.{at_least_lem}
use Rattle.emission.proofs.drawing.put_least.Goals as goal

pub returns-then-least-eq0 : goal.returns-then-least-eq0
returns-then-least-eq0 c = rw c.if-least-eq0.true everywhere

pub returns-else-least-eq0 : goal.returns-else-least-eq0
returns-else-least-eq0 c = at_least_lem _ c.if-least-eq0.false c.put.ensures
