-- A set's cycles one by one, from the least on.
use Rattle.std.specs.Prelude.{ℕ, ◌-◌, ◌<◌, ◌≡◌, Option, MatchOption}
use Rattle.std.specs.Int.{w64, trailing_zeros}
use Rattle.std.specs.Int.Bits.{bit_and}
use Rattle.rows.specs.declared.cycles.Cycles.{Cycles}

-- the least cycle, and the set without it; nothing of an empty set
abbrev pub GivesLeast : Cycles → Option ℕ → Cycles → Type 0
GivesLeast s r t =
    MatchOption r (s.0 ≡ 0) (λ i. (0 < s.0) × (i ≡ trailing_zeros w64 s.0) × (t.0 ≡ bit_and s.0 (s.0 - 1)))
