-- `tables::line::plain_row` meets its contract.
use Rattle.std.proofs.Common.{arith}
use Rattle.tables.proofs.Uses.{no_pair}
use Rattle.tables.proofs.line.plain_row.Goals as goal

pub count_row-requires : goal.count_row-requires
count_row-requires c =
    let q = c.requires in
    let last = no_pair c.args.x.op q.known_op.2 (omega (arith, c.if-x-lt-CHOP.false)) in
    let other = q.known_op.3 in
    omega (arith, last)

pub returns-then-x-lt-CHOP : goal.returns-then-x-lt-CHOP
returns-then-x-lt-CHOP c = c.shape_row.ensures

pub returns-else-x-lt-CHOP : goal.returns-else-x-lt-CHOP
returns-else-x-lt-CHOP c = c.count_row.ensures
