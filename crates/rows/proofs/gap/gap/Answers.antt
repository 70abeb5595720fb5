-- `rows::gap::gap` meets its contract.
use Rattle.std.proofs.Common.{ap, ap₂, ◌∙◌, ℕ, suc, ◌-◌, ◌^◌, not, bit_and}
use Rattle.semantics.specs.Cycles.{some_below}
use Rattle.semantics.specs.Proposition.{bit}
use Rattle.rows.specs.Row.{word, joined, shifted}
use Rattle.rows.proofs.Gaps.{gap_is}
use Rattle.rows.proofs.gap.gap.Goals as goal

pub returns : goal.returns
returns c =
    let a = c.args in
    ap₂ (λ (x y : ℕ). bit_and x (2 ^ 64 - 1 - y)) c.cycles_from.ensures
    (c.before_first.ensures
    ∙ ap (λ (x : ℕ). word 64 (λ e. not (some_below (suc e) (bit (bit_and a.second x)))))
    (c.spread.ensures
    ∙ ap₂ (λ (x y : ℕ). joined (bit_and a.first (2 ^ 64 - 1 - x)) (shifted y)) c.below.ensures c.window.ensures))
    ∙ gap_is a.first a.second a.least a.most a.b a.n c.requires.1
