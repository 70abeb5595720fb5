-- `formulas::piece::gap` meets its contract.
use Rattle.formulas.proofs.Pieces.{gap_no_comma₁, gap_no_second, gap_no_comma₂, gap_no_least, gap_no_comma₃, gap_no_most, gap_unclosed, gap_took}
use Rattle.formulas.proofs.piece.gap.Goals as goal

pub returns-in_err-comma1 : goal.returns-in_err-comma1
returns-in_err-comma1 c =
    rw c.from_residual-in_err-comma1.ensures
    (gap_no_comma₁ c.in_ok-open.ensures c.in_ok-first.ensures c.in_err-comma1.ensures)

pub returns-in_err-second : goal.returns-in_err-second
returns-in_err-second c =
    rw c.from_residual-in_err-second.ensures
    (gap_no_second c.in_ok-open.ensures c.in_ok-first.ensures c.in_ok-comma1.ensures c.in_err-second.ensures)

pub returns-in_err-comma2 : goal.returns-in_err-comma2
returns-in_err-comma2 c =
    rw c.from_residual-in_err-comma2.ensures
    (gap_no_comma₂ c.in_ok-open.ensures c.in_ok-first.ensures c.in_ok-comma1.ensures c.in_ok-second.ensures c.in_err-comma2.ensures)

pub returns-in_err-least : goal.returns-in_err-least
returns-in_err-least c =
    rw c.from_residual-in_err-least.ensures
    (gap_no_least c.in_ok-open.ensures c.in_ok-first.ensures c.in_ok-comma1.ensures c.in_ok-second.ensures c.in_ok-comma2.ensures c.in_err-least.ensures)

pub returns-in_err-comma3 : goal.returns-in_err-comma3
returns-in_err-comma3 c =
    rw c.from_residual-in_err-comma3.ensures
    (gap_no_comma₃ c.in_ok-open.ensures c.in_ok-first.ensures c.in_ok-comma1.ensures c.in_ok-second.ensures c.in_ok-comma2.ensures c.in_ok-least.ensures c.in_err-comma3.ensures)

pub returns-in_err-most : goal.returns-in_err-most
returns-in_err-most c =
    rw c.from_residual-in_err-most.ensures
    (gap_no_most c.in_ok-open.ensures c.in_ok-first.ensures c.in_ok-comma1.ensures c.in_ok-second.ensures c.in_ok-comma2.ensures c.in_ok-least.ensures c.in_ok-comma3.ensures c.in_err-most.ensures)

pub returns-in_err-end : goal.returns-in_err-end
returns-in_err-end c =
    rw c.from_residual-in_err-end.ensures
    (gap_unclosed c.in_ok-open.ensures c.in_ok-first.ensures c.in_ok-comma1.ensures c.in_ok-second.ensures c.in_ok-comma2.ensures c.in_ok-least.ensures c.in_ok-comma3.ensures c.in_ok-most.ensures c.in_err-end.ensures)

pub returns : goal.returns
returns c =
    gap_took c.in_ok-open.ensures c.in_ok-first.ensures c.in_ok-comma1.ensures c.in_ok-second.ensures c.in_ok-comma2.ensures c.in_ok-least.ensures c.in_ok-comma3.ensures c.in_ok-most.ensures c.in_ok-end.ensures
    c.put.ensures
