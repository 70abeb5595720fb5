-- `tables::line::shape_row` meets its contract.
use Rattle.std.proofs.Common.{◌≡◌, arith}
use Rattle.stored.specs.Tree.{formula_op}
use Rattle.tables.specs.Step.{row_of}
use Rattle.tables.proofs.Rows.{row_told}
use Rattle.tables.proofs.line.shape_row.Goals as goal

pub returns-in-16 : goal.returns-in-16
unfolding formula_op row_of
returns-in-16 c =
    let a = c.args in
    let at : a.x.op ≡ 16 = c.in-16.is in
    row_told a.x 16 a.n a.first a.second a.words.now a.own a.b _ at c.point.ensures

pub returns-in-17 : goal.returns-in-17
unfolding formula_op row_of
returns-in-17 c =
    let a = c.args in
    let at : a.x.op ≡ 17 = c.in-17.is in
    row_told a.x 17 a.n a.first a.second a.words.now a.own a.b _ at c.stretch.ensures

pub returns-in-18 : goal.returns-in-18
unfolding formula_op row_of
returns-in-18 c =
    let a = c.args in
    let at : a.x.op ≡ 18 = c.in-18.is in
    row_told a.x 18 a.n a.first a.second a.words.now a.own a.b _ at c.whole.ensures

pub returns-in_default : goal.returns-in_default
unfolding formula_op row_of
returns-in_default c =
    let a = c.args in
    let at : a.x.op ≡ 19 = omega arith in
    row_told a.x 19 a.n a.first a.second a.words.now a.own a.b _ at c.unit.ensures
