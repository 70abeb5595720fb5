-- `checker::table::name_placed` meets its contract.
use Rattle.std.proofs.Common.{refl}
use Rattle.checker.specs.Table.{name_placed}
use Rattle.checker.proofs.table.name_placed.Goals as goal

pub returns : goal.returns
unfolding name_placed
returns c = refl
