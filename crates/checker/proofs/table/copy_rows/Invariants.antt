-- `checker::table::copy_rows` meets its contract.
use Rattle.std.proofs.Common.{◌≡◌, ℕ, length, get_or}
use Rattle.stored.specs.Tree.{earlier}
use Rattle.tables.specs.Table.{row_at}
use Rattle.checker.proofs.table.copy_rows.Given as goal

abbrev pub invariant-loop-b : goal.invariant-loop-b
invariant-loop-b l = (length l.rows ≡ 64) × ((k : ℕ) → get_or l.rows k 0 ≡ earlier l.b 0 (row_at l.words l.i) k)
