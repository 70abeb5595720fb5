-- `tables::line::and_or_row` meets its contract.
use Rattle.std.proofs.Common.{◌≡◌, ap₂, arith, bit_and, bit_or}
use Rattle.stored.specs.Tree.{formula_op}
use Rattle.tables.specs.Step.{row_of}
use Rattle.tables.proofs.Rows.{row_told}
use Rattle.tables.proofs.Uses.{joins_formula, pair_of, pair_right}
use Rattle.tables.proofs.line.and_or_row.Goals as goal

pub row_at-left-requires : goal.row_at-left-requires
row_at-left-requires c =
    let q = c.requires in
    omega (arith, q.usable.a_formula (joins_formula c.args.x.op (omega (arith, q.known_op.0)) (omega (arith, q.known_op.1))), q.known_op.2, q.known_op.3, q.known_op.4)

pub row_at-right-requires : goal.row_at-right-requires
row_at-right-requires c =
    let q = c.requires in
    let op = c.args.x.op in
    omega (arith, q.usable.b_formula (pair_right op (pair_of op (omega (arith, q.known_op.0)) (omega (arith, q.known_op.1)))), q.known_op.2, q.known_op.3, q.known_op.4)

pub returns-then-x-eq-AND : goal.returns-then-x-eq-AND
unfolding formula_op row_of
returns-then-x-eq-AND c =
    let a = c.args in
    row_told a.x 21 a.n 0 0 a.words.now a.own a.b _ c.if-x-eq-AND.true (ap₂ bit_and c.row_at-left.ensures c.row_at-right.ensures)

pub returns-else-x-eq-AND : goal.returns-else-x-eq-AND
unfolding formula_op row_of
returns-else-x-eq-AND c =
    let a = c.args in
    let q = c.requires in
    let at : a.x.op ≡ 22 = omega (arith, q.known_op.0, q.known_op.1, c.if-x-eq-AND.false) in
    row_told a.x 22 a.n 0 0 a.words.now a.own a.b _ at (ap₂ bit_or c.row_at-left.ensures c.row_at-right.ensures)
