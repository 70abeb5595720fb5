-- `formulas::piece::draw` meets its contract.
use Rattle.formulas.proofs.Pieces.{draw_no_comma, draw_no_signal, draw_unclosed, draw_took}
use Rattle.formulas.proofs.piece.draw.Goals as goal

pub returns-in_err-comma : goal.returns-in_err-comma
returns-in_err-comma c =
    rw c.from_residual-in_err-comma.ensures (draw_no_comma c.in_ok-open.ensures c.in_ok-symbol.ensures c.in_err-comma.ensures)

pub returns-in_err-signal : goal.returns-in_err-signal
returns-in_err-signal c =
    rw c.from_residual-in_err-signal.ensures
    (draw_no_signal c.in_ok-open.ensures c.in_ok-symbol.ensures c.in_ok-comma.ensures c.in_err-signal.ensures)

pub returns-in_err-end : goal.returns-in_err-end
returns-in_err-end c =
    rw c.from_residual-in_err-end.ensures
    (draw_unclosed c.in_ok-open.ensures c.in_ok-symbol.ensures c.in_ok-comma.ensures c.in_ok-signal.ensures c.in_err-end.ensures)

pub returns : goal.returns
returns c =
    draw_took c.in_ok-open.ensures c.in_ok-symbol.ensures c.in_ok-comma.ensures c.in_ok-signal.ensures c.in_ok-end.ensures
    c.in_byte.ensures.0 c.put.ensures
