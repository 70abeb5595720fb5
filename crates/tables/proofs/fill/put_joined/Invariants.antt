-- `tables::fill::put_joined` meets its contract.
use Rattle.std.proofs.Common.{ℕ, ◌≡◌, ◌≤◌, ◌<◌, get_or}
use Rattle.rows.specs.Row.{joined}
use Rattle.tables.specs.Table.{row_at}
use Rattle.tables.proofs.fill.put_joined.Given as goal

abbrev pub invariant-loop-b : goal.invariant-loop-b
invariant-loop-b l =
    ((c : ℕ) → l.b ≤ c → c < l.n → get_or l.own c 0 ≡ joined (row_at l.before l.x.a c) (row_at l.before l.x.b))
    × ((c : ℕ) → c < l.b → get_or l.own c 0 ≡ 0)
    × (l.kept ≡ joined l.had (row_at l.before l.x.b))
