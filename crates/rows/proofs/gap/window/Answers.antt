-- `rows::gap::window` meets its contract.
use Rattle.std.proofs.Common.{ap₂, ◌∙◌, ℕ, ◌-◌, ◌^◌, bit_and}
use Rattle.rows.proofs.Gaps.{window_is}
use Rattle.rows.proofs.gap.window.Goals as goal

pub returns : goal.returns
returns c =
    ap₂ (λ (x y : ℕ). bit_and x (2 ^ 64 - 1 - y)) c.up_to.ensures c.below.ensures
    ∙ window_is c.args.least c.args.most
