-- `rows::shape::lacking` meets its contract.
use Rattle.std.proofs.Common.{ap, ◌∙◌, ℕ, ◌-◌, ◌^◌, arith, bit_and}
use Rattle.rows.proofs.Shapes.{lacking_is}
use Rattle.rows.proofs.shape.lacking.Goals as goal

pub returns : goal.returns
returns c =
    let a = c.args in
    ap (λ (x : ℕ). bit_and (2 ^ 64 - 1 - a.column) (2 ^ 64 - 1 - x)) c.below.ensures ∙ lacking_is a.column a.b (omega arith)
