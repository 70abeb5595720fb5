-- `rows::shape::marked` meets its contract.
use Rattle.std.proofs.Common.{ap, ◌∙◌, arith, ℕ, bit_and}
use Rattle.rows.proofs.Shapes.{mark_is}
use Rattle.rows.proofs.shape.marked.Goals as goal

pub returns : goal.returns
returns c =
    let a = c.args in
    ap (λ (x : ℕ). bit_and a.column x) c.only.ensures
    ∙ mark_is a.n a.column a.b (omega arith) (omega arith) (omega arith)
