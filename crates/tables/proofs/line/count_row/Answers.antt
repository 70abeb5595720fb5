-- `tables::line::count_row` meets its contract.
use Rattle.std.proofs.Common.{◌≡◌, ◌∙◌, ap, arith, ◌-◌}
use Rattle.rows.specs.Row.{row}
use Rattle.stored.specs.Tree.{formula_op, comparison_of}
use Rattle.tables.specs.Step.{row_of}
use Rattle.tables.proofs.Rows.{row_told}
use Rattle.semantics.specs.Cycles.{count_from, count_in}
use Rattle.semantics.specs.Proposition.{bit}
use Rattle.semantics.specs.Formula as formula
use Rattle.semantics.specs.Formula.{compared}
use Rattle.tables.proofs.line.count_row.Goals as goal

pub returns-in-24 : goal.returns-in-24
unfolding formula_op row_of comparison_of
returns-in-24 c =
    let a = c.args in
    let at : a.x.op ≡ 24 = c.in-24.is in
    row_told a.x 24 a.n a.first a.second a.words.now a.own a.b _ at (c.slen.ensures ∙ ap (λ (z : formula.Comparison). row a.n (λ b e. compared z (e - b) a.x.b) a.b) c.from-compared.ensures)

pub returns-in-25 : goal.returns-in-25
unfolding formula_op row_of comparison_of
returns-in-25 c =
    let a = c.args in
    let at : a.x.op ≡ 25 = c.in-25.is in
    row_told a.x 25 a.n a.first a.second a.words.now a.own a.b _ at (c.scount.ensures ∙ ap (λ (z : formula.Comparison). row a.n (λ b e. compared z (count_in b e (bit a.first)) a.x.b) a.b) c.from-compared.ensures)

pub returns-in_default : goal.returns-in_default
unfolding formula_op row_of comparison_of
returns-in_default c =
    let a = c.args in
    let at : a.x.op ≡ 26 = omega arith in
    row_told a.x 26 a.n a.first a.second a.words.now a.own a.b _ at (c.sdur.ensures ∙ ap (λ (z : formula.Comparison). row a.n (λ b e. compared z (count_from b e (bit a.first)) a.x.b) a.b) c.from-compared.ensures)
