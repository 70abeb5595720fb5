-- `clauses::requirement::join_clause` meets its contract.
use Rattle.std.proofs.Common.{arith}
use Rattle.clauses.specs.Clauses.{passed, joined}
use Rattle.clauses.proofs.requirement.join_clause.Goals as goal

pub returns-then-role-ge-SIDES : goal.returns-then-role-ge-SIDES
returns-then-role-ge-SIDES c = passed c.if-role-ge-SIDES.true

pub returns : goal.returns
returns c =
    joined (omega (arith, c.if-role-ge-SIDES.false)) c.put_clause-broken.ensures c.put.ensures
