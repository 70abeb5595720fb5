-- `printed::page::row_lines` meets its contract.
use Rattle.std.proofs.Common.{ℕ, ◌<◌, ◌≡◌, length, get_or}
use Rattle.printed.specs.Page.{table_byte}
use Rattle.printed.proofs.page.row_lines.Given as goal

abbrev pub invariant-loop-k : goal.invariant-loop-k
invariant-loop-k l = (length l.bytes ≡ 1088) × ((j : ℕ) → j < l.k → get_or l.bytes j 0 ≡ table_byte l.rows j)
