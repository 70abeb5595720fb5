-- `exports::fasunqir_table` meets its contract.
use Rattle.std.proofs.Common.{arith}
use Rattle.exports.proofs.Tabled.{short_law, long_law}
use Rattle.exports.proofs.fasunqir_table.Goals as goal

pub returns-then-rows-lt64 : goal.returns-then-rows-lt64
returns-then-rows-lt64 c =
    let args = c.args in
    let all =
    short_law
    args.sheet.now
    args.trace.now
    args.node
    args.p0
    args.p1
    args.p2
    args.words.now
    args.rows.now
    c.refused_short.result
    (omega arith)
    c.refused_short.ensures in
    record { value = all.0; words_after = all.1.0; rows_after = all.1.1 }

pub returns : goal.returns
returns c =
    let args = c.args in
    let table = c.table-answer in
    let put = c.put_answer in
    let all =
    long_law
    args.sheet.now
    args.trace.now
    args.node
    args.p0
    args.p1
    args.p2
    args.words.now
    args.rows.now
    _
    _
    table.result
    put.result
    (omega arith)
    table.ensures.value
    table.ensures.words_after
    put.ensures.value
    put.ensures.rows_after in
    record { value = all.0; words_after = all.1.0; rows_after = all.1.1 }
