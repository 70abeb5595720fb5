-- `intervals::gather::first_name` meets its contract.
use Rattle.std.proofs.Common.{ℕ, min, arith, ap, ap₂, ◌∙◌}
use Rattle.semantics.specs.Proposition.{bit}
use Rattle.tables.specs.Table.{standing}
use Rattle.intervals.specs.Gather.{first_name}
use Rattle.intervals.proofs.Gathered.{first_most}
use Rattle.intervals.proofs.gather.first_name.Goals as goal

pub returns : goal.returns
unfolding first_name
returns c =
    let a = c.args in
    let r =
    c.min-3.ensures
    ∙ ap₂ (λ (x y : ℕ). min x y)
    (c.min.ensures ∙ ap₂ (λ (x y : ℕ). min x y) c.cycle_of-a.ensures c.cycle_of-b.ensures)
    (c.min-2.ensures ∙ ap (λ (x : ℕ). min x 63) c.cycle_of-c.ensures) in
    (r, omega (arith, r, first_most (bit a.names) (standing a.cycles)))
