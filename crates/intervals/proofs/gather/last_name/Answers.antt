-- `intervals::gather::last_name` meets its contract.
use Rattle.std.proofs.Common.{ℕ, max, ap₂, ◌∙◌}
use Rattle.intervals.specs.Gather.{last_name}
use Rattle.intervals.proofs.gather.last_name.Goals as goal

pub returns : goal.returns
unfolding last_name
returns c =
    c.max-2.ensures
    ∙ ap₂ (λ (x y : ℕ). max x y)
    (c.max.ensures ∙ ap₂ (λ (x y : ℕ). max x y) c.cycle_of-a.ensures c.cycle_of-b.ensures)
    c.cycle_of-c.ensures
