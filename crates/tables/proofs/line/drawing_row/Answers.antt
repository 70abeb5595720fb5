-- `tables::line::drawing_row` meets its contract.
use Rattle.std.proofs.Common.{◌≡◌, ◌∙◌, ap, arith}
use Rattle.semantics.specs.Proposition.{bit}
use Rattle.semantics.specs.Formula as formula
use Rattle.semantics.specs.Formula.{drawn_on}
use Rattle.rows.specs.Row.{row}
use Rattle.stored.specs.Tree.{formula_op, symbol_of}
use Rattle.tables.specs.Step.{row_of}
use Rattle.tables.proofs.Rows.{row_told}
use Rattle.tables.proofs.line.drawing_row.Goals as goal

pub returns-in-27 : goal.returns-in-27
unfolding formula_op row_of symbol_of
returns-in-27 c =
    let a = c.args in
    row_told a.x 27 a.n a.first a.second a.words.now a.own a.b _ c.in-27.is
    (c.drawn.ensures ∙ ap (λ (s : formula.Symbol). row a.n (λ b e. drawn_on s (bit a.first) b e) a.b) c.from.ensures)

pub returns-in-28 : goal.returns-in-28
unfolding formula_op row_of
returns-in-28 c =
    let a = c.args in
    row_told a.x 28 a.n a.first a.second a.words.now a.own a.b _ c.in-28.is c.marked.ensures

pub returns-in_default : goal.returns-in_default
unfolding formula_op row_of
returns-in_default c =
    let a = c.args in
    let at : a.x.op ≡ 29 = omega arith in
    row_told a.x 29 a.n a.first a.second a.words.now a.own a.b _ at c.gap.ensures
