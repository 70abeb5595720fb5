-- `rows::mask::cycles_from` meets its contract.
use Rattle.std.proofs.Common.{ap₂, ◌∙◌, ℕ, ◌-◌, ◌^◌, bit_and}
use Rattle.rows.proofs.Masks.{from_is}
use Rattle.rows.proofs.mask.cycles_from.Goals as goal

pub returns : goal.returns
returns c =
    let a = c.args in
    ap₂ (λ (x y : ℕ). bit_and x (2 ^ 64 - 1 - y)) c.below.ensures c.below-2.ensures ∙ from_is 64 a.n a.b c.requires
