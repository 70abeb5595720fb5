-- `traces::writer::put_cycles` meets its contract.
use Rattle.std.proofs.Common.{◌≡◌, take}
use lib.Seq.{sets}
use Rattle.stored.specs.Layout.{cycles_start}
use Rattle.traces.specs.Written.{cycle_bytes}
use Rattle.traces.proofs.writer.put_cycles.Given as goal

abbrev pub invariant-loop-i : goal.invariant-loop-i
invariant-loop-i l = l.out ≡ sets l.initial.out cycles_start (cycle_bytes (take l.i l.cycles))
