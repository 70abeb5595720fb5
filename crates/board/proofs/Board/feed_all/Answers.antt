-- `board::Board::feed_all` meets its contract.
use Rattle.std.proofs.Common.{arith, rules}
use Rattle.board.specs.Feeds.{lent}
use Rattle.board.proofs.Feeds.{feeding_none, feeding_more, feeding_done}
use Rattle.board.proofs.Lasting.{unhealed}
use Rattle.board.proofs.Board.feed_all.Goals as goal

pub loop-cycle-init : goal.loop-cycle-init
loop-cycle-init c =
    let a = c.args in
    feeding_none a.self a.words.now a.cycles.now (record { sheet_long = search rules; cycles_long = search rules })

pub loop-cycle-preserved : goal.loop-cycle-preserved
loop-cycle-preserved c =
    let a = c.args in
    let at = c.loop-cycle in
    let fed = c.feed.ensures in
    feeding_more a.self a.words.now a.cycles.now at.cycle-index at.words at.board _ _ at.invariant (omega arith) fed.board_value fed.words_after

pub returns : goal.returns
returns c =
    let a = c.args in
    let at = c.loop-cycle in
    let done = feeding_done a.self a.words.now a.cycles.now at.cycle-index at.words at.board at.invariant (omega arith) in
    record { told = done.0; words_after = done.1; unhealed = unhealed a.self (lent a.words.now a.cycles.now) at.board done.0 }
