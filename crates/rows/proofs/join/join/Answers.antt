-- `rows::join::join` meets its contract.
use Rattle.std.proofs.Common.{arith, get_or}
use Rattle.rows.proofs.Joins.{join_next, join_end}
use Rattle.rows.proofs.join.join.Goals as goal

pub loop-i-preserved : goal.loop-i-preserved
loop-i-preserved c =
    let at = c.loop-i in
    join_next _ at.out c.in-Some.i at.i-iterator c.next.new.self (λ i. get_or c.args.second.now i 0)
    (omega arith) at.invariant.0 c.in-Some.ensures.steps (omega (arith, c.type_inv.second c.in-Some.i)) at.invariant.1

pub returns : goal.returns
returns c =
    let at = c.loop-i in
    join_end c.args.row at.out at.i-iterator.0 (λ i. get_or c.args.second.now i 0) c.in-None.ensures.steps at.invariant.1
