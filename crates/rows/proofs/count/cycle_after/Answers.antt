-- `rows::count::cycle_after` meets its contract.
use Rattle.rows.proofs.Counts.{after_is, after_all}
use Rattle.rows.proofs.count.cycle_after.Goals as goal

pub returns-then-number-lt64 : goal.returns-then-number-lt64
returns-then-number-lt64 c = after_is _ _ c.if-number-lt64.true

pub returns-else-number-lt64 : goal.returns-else-number-lt64
returns-else-number-lt64 c = after_all _ _ c.if-number-lt64.false
