-- `board::Board::feed` meets its contract.
use Rattle.std.proofs.Common.{ℕ, sym, ◌∙◌, ap, rules}
use Rattle.checker.specs.Table.{words_after}
use Rattle.board.specs.Board.{Sized}
use Rattle.board.proofs.Admission.{when_admitted, when_refused}
use Rattle.board.proofs.Feeds.{fed_refused}
use Rattle.board.proofs.Lasting.{unhealed_as}
use Rattle.board.proofs.Board.feed.Goals as goal

pub take-requires : goal.take-requires
take-requires c =
    when_admitted _ _ _ _ (sym c.admit.ensures ∙ c.in-Ok.is)

pub returns-in-Ok : goal.returns-in-Ok
returns-in-Ok c =
    let a = c.args in
    let none = (when_admitted a.self a.cycle a.words.now _ (sym c.admit.ensures ∙ c.in-Ok.is)).0 in
    let took = c.take.ensures in
    let sized : Sized a.self = record { sheet_long = search rules; cycles_long = search rules } in record { board_value = took.board_value; answer_value = took.answer_value; words_after = took.words_after ∙ ap (λ (n : ℕ). words_after n a.words.now) (sym none); unhealed = unhealed_as a.self sized a.cycle a.words.now _ took.board_value }

pub returns-in-Err : goal.returns-in-Err
returns-in-Err c =
    let a = c.args in
    let refused = when_refused a.self a.cycle a.words.now _ (sym c.admit.ensures ∙ c.in-Err.is) in
    let fed = fed_refused a.self a.cycle a.words.now _ refused in
    let sized : Sized a.self = record { sheet_long = search rules; cycles_long = search rules } in
    record { board_value = fed.0; answer_value = fed.1.0; words_after = fed.1.1; unhealed = unhealed_as a.self sized a.cycle a.words.now _ fed.0 }
