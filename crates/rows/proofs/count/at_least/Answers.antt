-- `rows::count::at_least` meets its contract.
use Rattle.std.proofs.Common.{arith}
use Rattle.rows.proofs.Counts.{all_least, above_least}
use Rattle.rows.proofs.count.at_least.Goals as goal

pub returns-then-number-eq0 : goal.returns-then-number-eq0
returns-then-number-eq0 c = let a = c.args in all_least a.column a.number a.last a.b c.if-number-eq0.true

pub returns-else-number-eq0 : goal.returns-else-number-eq0
returns-else-number-eq0 c =
    let a = c.args in
    above_least a.column a.number a.last a.b c.more_than.result (omega (arith, c.if-number-eq0.false)) c.more_than.ensures
