-- `tables::words::row_at` meets its contract.
use Rattle.std.proofs.Common.{refl}
use Rattle.tables.specs.Table.{row_at}
use Rattle.tables.proofs.words.row_at.Goals as goal

pub returns : goal.returns
unfolding row_at
returns c = refl
