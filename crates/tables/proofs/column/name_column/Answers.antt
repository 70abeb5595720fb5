-- `tables::column::name_column` meets its contract.
use Rattle.std.proofs.Common.{arith}
use Rattle.tables.proofs.column.name_column.Goals as goal

pub column_at-requires : goal.column_at-requires
column_at-requires c = omega arith

pub returns : goal.returns
returns c = c.column_at.ensures
