-- `rows::gap::spread` meets its contract.
use Rattle.std.proofs.Common.{◌≡◌, ◌^◌, ◌<◌, bit_or}
use Rattle.rows.specs.Row.{joined, shifted}
use Rattle.rows.proofs.gap.spread.Given as goal

abbrev pub invariant-loop-i : goal.invariant-loop-i
invariant-loop-i l =
    (l.i-iterator.0 < 2 ^ 64) × (joined l.set (shifted l.distances) ≡ bit_or l.out (joined l.i-iterator.0 (shifted l.distances)))
