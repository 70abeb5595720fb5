-- `checker::table::names_placed` meets its contract.
use Rattle.std.proofs.Common.{ap₂, Bool, ◌&&◌}
use Rattle.checker.specs.Table.{names_placed}
use Rattle.checker.proofs.table.names_placed.Goals as goal

pub returns : goal.returns
unfolding names_placed
returns c = ap₂ (λ (x y : Bool). x && y) c.name_placed-first.ensures (ap₂ (λ (x y : Bool). x && y) c.name_placed-second.ensures c.name_placed-third.ensures)
