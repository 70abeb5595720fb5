-- `tables::column::column_at` meets its contract.
use Rattle.std.proofs.Common.{refl, arith}
use Rattle.traces.specs.Columns.{column_at}
use Rattle.tables.proofs.column.column_at.Goals as goal

pub bounds-columns-k : goal.bounds-columns-k
bounds-columns-k c = omega arith

pub returns : goal.returns
unfolding column_at
returns c = refl
