-- `formulas::piece::slen` meets its contract.
use Rattle.formulas.proofs.Pieces.{slen_unended, slen_took}
use Rattle.formulas.proofs.piece.slen.Goals as goal

pub returns-in_err-end : goal.returns-in_err-end
returns-in_err-end c =
    λ depth.
    rw c.from_residual-in_err-end.ensures
    (slen_unended depth c.requires.inside c.in_ok-compared.compared c.in_ok-compared.ensures.leaf_read c.in_err-end.ensures)

pub returns : goal.returns
returns c =
    let compared = c.in_ok-compared.ensures in
    λ depth.
    slen_took depth c.requires.inside c.in_ok-compared.compared compared.leaf_read compared.known_value c.in_ok-end.ensures c.put.ensures
