-- `traces::trace::is_below` meets its contract.
use Rattle.std.proofs.Common.{sym, arith, lt-ltb, ◌^◌, ◌≤◌}
use native.Mathlib.Nat.{pow-le-pow_right}
use Rattle.stored.proofs.Rules.{shift_one}
use Rattle.traces.proofs.trace.is_below.Goals as goal

pub returns-then-s-lt-MOST_SIGNALS : goal.returns-then-s-lt-MOST_SIGNALS
returns-then-s-lt-MOST_SIGNALS c = rw (shift_one c.args.s (omega arith))

pub returns-else-s-lt-MOST_SIGNALS : goal.returns-else-s-lt-MOST_SIGNALS
returns-else-s-lt-MOST_SIGNALS c =
    let big : 2 ^ 16 ≤ 2 ^ c.args.s = pow-le-pow_right {n = 2} (omega arith) c.if-s-lt-MOST_SIGNALS.false in
    sym (lt-ltb c.args.w (2 ^ c.args.s) (omega arith))
