-- `rows::gap::spread` meets its contract.
use Rattle.std.proofs.Common.{arith, mod-lt, ◌*◌, ◌^◌, pow_pos}
use Rattle.rows.specs.Row.{shifted}
use Rattle.rows.proofs.Joins.{join_next, join_end}
use Rattle.rows.proofs.gap.spread.Goals as goal

pub loop-i-preserved : goal.loop-i-preserved
unfolding shifted
loop-i-preserved c =
    let at = c.loop-i in
    let i = c.in-Some.i in
    join_next _ at.out i at.i-iterator c.next.new.self (shifted c.args.distances)
    (omega arith) at.invariant.0 c.in-Some.ensures.steps (mod-lt (c.args.distances * 2 ^ i) (pow_pos 64)) at.invariant.1

pub returns : goal.returns
returns c =
    let at = c.loop-i in
    join_end c.args.set at.out at.i-iterator.0 (shifted c.args.distances) c.in-None.ensures.steps at.invariant.1
