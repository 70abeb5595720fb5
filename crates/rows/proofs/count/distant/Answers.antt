-- `rows::count::distant` meets its contract.
use Rattle.std.proofs.Common.{ℕ, ◌-◌, ◌^◌, ap, ap₂, bit_and}
use Rattle.rows.proofs.Counts.{distant_below, distant_most, distant_equal, distant_least, distant_above}
use Rattle.rows.proofs.count.distant.Goals as goal

pub returns-in-Below : goal.returns-in-Below
returns-in-Below c =
    rw (c.in-Below.is, c.below.ensures) (distant_below _ _ _ c.cycle_after-at.ensures)

pub returns-in-AtMost : goal.returns-in-AtMost
returns-in-AtMost c =
    rw (c.in-AtMost.is, c.up_to.ensures) (distant_most _ _ _ c.cycle_after-at.ensures)

pub returns-in-Equal : goal.returns-in-Equal
returns-in-Equal c =
    rw (c.in-Equal.is, ap₂ (λ (x y : ℕ). bit_and x (2 ^ 64 - 1 - y)) c.up_to-in-Equal.ensures c.below-in-Equal.ensures) (distant_equal _ _ _ c.cycle_after-at.ensures)

pub returns-in-AtLeast : goal.returns-in-AtLeast
returns-in-AtLeast c =
    rw (c.in-AtLeast.is, ap (λ (x : ℕ). 2 ^ 64 - 1 - x) c.below-in-AtLeast.ensures) (distant_least _ _ _ c.cycle_after-at.ensures)

pub returns-in-Above : goal.returns-in-Above
returns-in-Above c =
    rw (c.in-Above.is, ap (λ (x : ℕ). 2 ^ 64 - 1 - x) c.up_to-in-Above.ensures) (distant_above _ _ _ c.cycle_after-at.ensures)
