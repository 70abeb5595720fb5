-- `rows::shape::unit` meets its contract.
use Rattle.std.proofs.Common.{ap₂, ◌∙◌, ℕ, ◌*◌, ◌%◌, ◌^◌, bit_and}
use Rattle.rows.proofs.Shapes.{unit_is}
use Rattle.rows.proofs.shape.unit.Goals as goal

pub returns : goal.returns
returns c =
    let a = c.args in
    ap₂ (λ (x y : ℕ). bit_and x (bit_and a.column y * 2 ^ 1 % 2 ^ 64)) c.cycles_from.ensures c.only.ensures
    ∙ unit_is a.n a.column a.b c.requires.1
