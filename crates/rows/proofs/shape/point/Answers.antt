-- `rows::shape::point` meets its contract.
use Rattle.std.proofs.Common.{sym, ◌∙◌}
use Rattle.rows.proofs.Shapes.{point_all, point_none}
use Rattle.rows.proofs.shape.point.Goals as goal

pub returns-then-has : goal.returns-then-has
returns-then-has c =
    let a = c.args in
    c.cycles_from.ensures ∙ point_all a.n a.column a.b (sym c.has.ensures ∙ c.if-has.true)

pub returns-else-has : goal.returns-else-has
returns-else-has c =
    let a = c.args in
    point_none a.n a.column a.b (sym c.has.ensures ∙ c.if-has.false)
