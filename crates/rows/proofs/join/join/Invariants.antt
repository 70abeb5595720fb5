-- `rows::join::join` meets its contract.
use Rattle.std.proofs.Common.{◌≡◌, ◌^◌, ◌<◌, get_or, bit_or}
use Rattle.rows.specs.Row.{joined}
use Rattle.rows.proofs.join.join.Given as goal

abbrev pub invariant-loop-i : goal.invariant-loop-i
invariant-loop-i l =
    (l.i-iterator.0 < 2 ^ 64) × (joined l.row (λ i. get_or l.second i 0) ≡ bit_or l.out (joined l.i-iterator.0 (λ i. get_or l.second i 0)))
