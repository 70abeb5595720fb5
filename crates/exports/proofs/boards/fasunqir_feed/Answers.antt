-- `exports::boards::fasunqir_feed` meets its contract.
use Rattle.exports.proofs.Cells.{checked_small, feed_kept, feed_put}
use Rattle.exports.proofs.boards.fasunqir_feed.Goals as goal

pub packed_verdict-number-requires : goal.packed_verdict-number-requires
packed_verdict-number-requires c =
    let a = c.args in
    let fed = c.feed-fed.ensures in
    checked_small a.bytes.now a.cycles.now a.taken.now a.verdict.now a.cycle a.words.now _ _ fed.answer_value fed.words_after _ c.in-Ok.is

pub returns-in-Err : goal.returns-in-Err
returns-in-Err c =
    let a = c.args in
    let fed = c.feed-fed.ensures in
    let all =
    feed_kept a.bytes.now a.cycles.now a.taken.now a.verdict.now a.cycle a.words.now _ _ fed.answer_value fed.words_after _ c.in-Err.is in
    rw c.packed_refusal.ensures (record { value = all.0; result_value = all.1.0; board_after = all.1.1.0; verdict_after = all.1.1.1.0; words_after = all.1.1.1.1 })

pub returns-in-Ok : goal.returns-in-Ok
returns-in-Ok c =
    let a = c.args in
    let fed = c.feed-fed.ensures in
    let all =
    feed_put a.bytes.now a.cycles.now a.taken.now a.verdict.now a.cycle a.words.now _ _ fed.answer_value fed.words_after _ _ _ c.in-Ok.is c.packed_verdict-number.ensures fed.board_value in
    record { value = all.0; result_value = all.1.0; board_after = all.1.1.0; verdict_after = all.1.1.1.0; words_after = all.1.1.1.1 }
