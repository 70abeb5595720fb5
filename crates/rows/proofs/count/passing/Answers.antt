-- `rows::count::passing` meets its contract.
use Rattle.std.proofs.Common.{arith}
use Rattle.rows.proofs.Counts.{counted_below, counted_most, counted_equal}
use Rattle.rows.proofs.count.passing.Goals as goal

pub returns-in-Below : goal.returns-in-Below
returns-in-Below c =
    rw c.in-Below.is (counted_below _ _ _ _ c.at_least.result (omega arith) c.at_least.ensures)

pub returns-in-AtMost : goal.returns-in-AtMost
returns-in-AtMost c =
    rw c.in-AtMost.is (counted_most _ _ _ _ c.more_than.result (omega arith) c.more_than.ensures)

pub returns-in-Equal : goal.returns-in-Equal
returns-in-Equal c =
    rw c.in-Equal.is
    (counted_equal _ _ _ _ c.at_least-in-Equal.result c.more_than-in-Equal.result (omega arith) c.at_least-in-Equal.ensures c.more_than-in-Equal.ensures)

pub returns-in-AtLeast : goal.returns-in-AtLeast
returns-in-AtLeast c = rw c.in-AtLeast.is c.at_least-in-AtLeast.ensures

pub returns-in-Above : goal.returns-in-Above
returns-in-Above c = rw c.in-Above.is c.more_than-in-Above.ensures
