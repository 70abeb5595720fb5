-- `traces::writer::put_cycles` meets its contract.
use Rattle.std.proofs.Common.{refl, arith}
use Rattle.traces.specs.Written.{cycle_bytes}
use Rattle.traces.proofs.Written.{cycles_more}
use Rattle.traces.proofs.writer.put_cycles.Goals as goal

pub loop-i-init : goal.loop-i-init
unfolding cycle_bytes
loop-i-init c = refl

pub loop-i-preserved : goal.loop-i-preserved
loop-i-preserved c =
    let a = c.args in
    let cycle = c.from-cycle.ensures in
    rw (c.loop-i.invariant, c.trace_end-at.ensures, c.high.ensures, c.low.ensures, cycle)
    (cycles_more a.out.now a.cycles.now c.loop-i.i (omega arith))
