-- `board::Board::open` meets its contract.
use Rattle.std.proofs.Common.{sym, ◌∙◌, ap, Ok}
use Rattle.std.proofs.lemmas.Result.{err_from_is_err_and}
use Rattle.stored.proofs.Accepted.{answer_accepted}
use Rattle.board.proofs.Opening.{sheet_short, open_refused, open_accepted}
use Rattle.board.proofs.Board.open.Goals as goal

pub returns-in_err-read_sheet : goal.returns-in_err-read_sheet
returns-in_err-read_sheet c =
    let p = err_from_is_err_and c.from_residual.result c.from_residual.ensures.1 in
    rw (p.1, p.2) (open_refused c.args.sheet.now _ (sym c.in_err-read_sheet.ensures))

pub new_board-requires : goal.new_board-requires
new_board-requires c = sheet_short _ (answer_accepted _ _ (sym c.in_ok-read_sheet.ensures)).0

pub returns : goal.returns
returns c = ap Ok c.new_board.ensures ∙ open_accepted c.args.sheet.now _ (sym c.in_ok-read_sheet.ensures)
