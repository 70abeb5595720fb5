-- `intervals::search::none_between` meets its contract.
use Rattle.std.proofs.Common.{arith, ap₂, ◌∙◌, ℕ, ◌-◌, ◌^◌, bit_and, eqb}
use Rattle.intervals.proofs.Found.{none_is}
use Rattle.intervals.proofs.search.none_between.Goals as goal

pub returns : goal.returns
returns c =
    let a = c.args in
    ap₂ (λ (x y : ℕ). eqb (bit_and (bit_and a.set (2 ^ 64 - 1 - x)) y) 0) c.below.ensures c.up_to.ensures
    ∙ none_is a.set a.s a.k (omega arith) c.requires
