-- `formulas::piece::at_name` meets its contract.
use Rattle.formulas.proofs.Pieces.{at_unclosed, at_took}
use Rattle.formulas.proofs.piece.at_name.Goals as goal

pub returns-in_err-end : goal.returns-in_err-end
returns-in_err-end c =
    rw c.from_residual-in_err-end.ensures (at_unclosed c.in_ok-open.ensures c.in_ok-name.ensures c.in_err-end.ensures)

pub returns : goal.returns
returns c =
    at_took c.in_ok-open.ensures c.in_ok-name.ensures c.in_ok-end.ensures c.put.ensures
