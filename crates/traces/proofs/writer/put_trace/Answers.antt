-- `traces::writer::put_trace` meets its contract.
use Rattle.std.proofs.Common.{[], ◌∷◌, ◌∙◌}
use Rattle.stored.proofs.Written.{sets_then}
use Rattle.traces.specs.Written.{cycle_bytes, trace_bytes}
use Rattle.traces.proofs.writer.put_trace.Goals as goal

pub returns : goal.returns
unfolding trace_bytes
returns c =
    let a = c.args in
    let end = c.trace_end-rest.ensures in
    let high = c.high.ensures in
    let low = c.low.ensures in
    c.put_cycles.ensures
    ∙ rw (high, low, end)
    (sets_then a.out.now 0 (_ ∷ _ ∷ 1 ∷ a.s ∷ []) (cycle_bytes a.cycles.now))
