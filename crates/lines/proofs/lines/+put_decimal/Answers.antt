-- `lines::lines::put_decimal` meets its contract.
use Rattle.std.proofs.Common.{arith}
use Rattle.lines.proofs.Texts.{decimal_length, decimal_some, put_size, put_one, put_last}
use Rattle.lines.proofs.lines.+put_decimal.Goals as goal

pub bounds-out-at : goal.bounds-out-at
bounds-out-at t c = omega (arith, c.requires, decimal_some c.args.number)

pub returns-then-number-lt10 : goal.returns-then-number-lt10
returns-then-number-lt10 t c = put_one _ _ _ c.if-number-lt10.true

pub put_decimal-last-requires : goal.put_decimal-last-requires
put_decimal-last-requires t c =
    let more = c.if-number-lt10.false in
    (omega (arith, c.decreases, more), omega (arith, c.requires, decimal_length _ more))

pub bounds-out-last : goal.bounds-out-last
bounds-out-last t c =
    let put = c.put_decimal-last.ensures in
    omega (arith, put.end, put_size put, c.requires, decimal_length _ c.if-number-lt10.false)

pub overflow_add-result-2 : goal.overflow_add-result-2
overflow_add-result-2 t c =
    let put = c.put_decimal-last.ensures in
    omega (arith, put.end, c.requires, c.well_formed.0.0, decimal_length _ c.if-number-lt10.false)

pub returns : goal.returns
returns t c = put_last _ c.if-number-lt10.false c.put_decimal-last.ensures
