-- `formulas::piece::bounded` meets its contract.
use Rattle.formulas.proofs.Pieces.{bounded_none, bounded_unclosed, bounded_took}
use Rattle.formulas.proofs.piece.bounded.Goals as goal

pub returns-in_err-inner : goal.returns-in_err-inner
returns-in_err-inner c = rw c.from_residual.ensures (bounded_none c.requires.known_sign.0 c.in_err-inner.ensures)

pub returns-in_err-end : goal.returns-in_err-end
returns-in_err-end c =
    rw c.from_residual-in_err-end.ensures (bounded_unclosed c.requires.known_sign.0 c.in_ok-inner.ensures c.in_err-end.ensures)

pub returns : goal.returns
returns c =
    let pre = c.requires in
    bounded_took pre.known_sign.0 c.in_ok-inner.ensures pre.other_word.0 pre.other_word.1 c.in_ok-end.ensures c.over.ensures
