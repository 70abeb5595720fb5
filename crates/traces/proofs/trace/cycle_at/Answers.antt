-- `traces::trace::cycle_at` meets its contract.
use Rattle.traces.specs.Trace.{cycle_at}
use Rattle.traces.proofs.trace.cycle_at.Goals as goal

pub returns : goal.returns
unfolding cycle_at
returns c = (c.word.ensures.0, c.word.ensures.1)
