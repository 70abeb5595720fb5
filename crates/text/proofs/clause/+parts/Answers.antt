-- `text::clause::parts` meets its contract; there is one part fewer to read at each call of itself.
use Rattle.std.proofs.Common.{◌-◌, arith}
use Rattle.text.proofs.Clauses.{parts_none, one_took, no_comma, no_others, more_took}
use Rattle.text.proofs.clause.+parts.Goals as goal

pub returns-in_err-first : goal.returns-in_err-first
returns-in_err-first t c = rw c.from_residual.ensures (parts_none c.args.more c.in_err-first.ensures)

pub returns-then-more-eq0 : goal.returns-then-more-eq0
returns-then-more-eq0 t c =
    one_took c.if-more-eq0.true c.requires.1 c.requires.2 c.in_ok-first.ensures c.with_first.ensures

pub returns-in_err-comma : goal.returns-in_err-comma
returns-in_err-comma t c =
    rw c.from_residual-in_err-comma.ensures
    (no_comma {n = c.args.more - 1} (omega (arith, c.if-more-eq0.false)) c.in_ok-first.ensures c.in_err-comma.ensures)

pub returns-in_err-rest : goal.returns-in_err-rest
returns-in_err-rest t c =
    rw c.from_residual-in_err-rest.ensures
    (no_others (omega (arith, c.if-more-eq0.false)) c.in_ok-first.ensures c.in_ok-comma.ensures c.in_err-rest.ensures)

pub returns : goal.returns
returns t c =
    more_took (omega (arith, c.if-more-eq0.false)) c.in_ok-first.ensures c.in_ok-comma.ensures c.in_ok-rest.ensures
    c.with_first-2.ensures
