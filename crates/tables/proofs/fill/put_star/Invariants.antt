-- `tables::fill::put_star` meets its contract.
use Rattle.std.proofs.Common.{ℕ, ◌≡◌, ◌≤◌, ◌<◌, get_or}
use Rattle.rows.specs.Row.{joined, starred}
use Rattle.tables.specs.Table.{row_at}
use Rattle.tables.proofs.fill.put_star.Given as goal

abbrev pub invariant-loop-b : goal.invariant-loop-b
invariant-loop-b l =
    ((c : ℕ) → l.b ≤ c → c < l.n → get_or l.own c 0 ≡ starred (row_at l.before l.x.a c) (λ k. get_or l.own k 0) c)
    × (l.kept ≡ joined l.had (λ k. get_or l.own k 0))
