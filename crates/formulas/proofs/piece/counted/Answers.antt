-- `formulas::piece::counted` meets its contract.
use Rattle.formulas.proofs.Pieces.{counted_unended, counted_took}
use Rattle.formulas.proofs.piece.counted.Goals as goal

pub returns-in_err-end : goal.returns-in_err-end
returns-in_err-end c =
    rw c.from_residual-in_err-end.ensures
    (counted_unended c.in_ok-inner.ensures c.in_ok-compared.compared c.in_ok-compared.ensures.leaf_read c.in_err-end.ensures)

pub returns : goal.returns
returns c =
    let compared = c.in_ok-compared.ensures in
    counted_took c.in_ok-inner.ensures c.in_ok-compared.compared compared.leaf_read compared.known_value c.in_ok-end.ensures c.over.ensures
