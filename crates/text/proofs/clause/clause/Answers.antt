-- `text::clause::clause` meets its contract.
use Rattle.std.proofs.Common.{arith}
use Rattle.text.proofs.Clauses.{used-some, type_none, no_bracket, no_parts, unclosed, clause_took}
use Rattle.text.proofs.clause.clause.Goals as goal

pub returns-in_err-word : goal.returns-in_err-word
returns-in_err-word c = rw c.from_residual.ensures (type_none c.in_err-word.ensures)

pub returns-in_err-bracket : goal.returns-in_err-bracket
returns-in_err-bracket c =
    rw c.from_residual-in_err-bracket.ensures (no_bracket c.requires.0.inside c.in_ok-word.ensures c.in_err-bracket.ensures)

pub overflow_sub-more : goal.overflow_sub-more
overflow_sub-more c = omega (arith, c.parts_used-more.ensures, used-some _ c.in_ok-word.ensures.range)

pub returns-in_err-said : goal.returns-in_err-said
returns-in_err-said c =
    rw c.from_residual-in_err-said.ensures
    (no_parts c.requires.0.inside c.in_ok-word.ensures c.in_ok-bracket.ensures c.parts_used-more.ensures c.in_err-said.ensures)

pub returns-in_err-close : goal.returns-in_err-close
returns-in_err-close c =
    rw c.from_residual-in_err-close.ensures
    (unclosed c.requires.0.inside c.in_ok-word.ensures c.in_ok-bracket.ensures c.parts_used-more.ensures c.in_ok-said.ensures
    c.in_err-close.ensures)

pub returns : goal.returns
returns c =
    clause_took c.requires.0.inside c.in_ok-word.ensures c.in_ok-bracket.ensures c.parts_used-more.ensures c.in_ok-said.ensures
    c.in_ok-close.ensures c.put.ensures
