-- The three arrays of rows that the search reads, as tests on intervals.
use Rattle.std.specs.Prelude.{ℕ, ◌≤◌, ◌<◌, Bool, true, false, not, ◌&&◌, List, ◌≡◌, leb, eqb, get_or}
use Rattle.semantics.specs.Cycles.{some_in}
use Rattle.semantics.specs.Proposition.{bit}
use Rattle.semantics.specs.Clause as clause
use Rattle.stored.specs.Types.{type_stored}
use Rattle.stored.specs.declared.clauses.ClauseType.{ClauseType}

abbrev pub type_of : ClauseType → clause.ClauseType
type_of type = type_stored type

-- bit e of row b
unfoldable pub test_of : List ℕ → ℕ → ℕ → Bool
test_of rows b e = bit (get_or rows b 0) e

-- the ends j of intervals from i that may be unanswered, by row i of the premise and of the answers
unfoldable pub starting : clause.ClauseType → ℕ → (ℕ → Bool) → (ℕ → Bool) → ℕ → Bool
starting clause.pref i first answers j = eqb i 0 && not (answers j)
starting clause.init i first answers j = eqb i 0 && (first j && not (some_in 0 j answers))
starting clause.anti i first answers j = leb i j && first j
starting clause.implies i first answers j = leb i j && (first j && not (answers j))
starting clause.follows i first answers j = leb i j && first j
starting clause.triggers i first answers j = leb i j && first j

-- the cycles k at which the interval from i to j may then be unanswered: where Ξ of D3 ends, or j itself
unfoldable pub ending : clause.ClauseType → ℕ → ℕ → (ℕ → ℕ → Bool) → ℕ → Bool
ending clause.pref i j third k = eqb k j
ending clause.init i j third k = eqb k j
ending clause.anti i j third k = eqb k j
ending clause.implies i j third k = eqb k j
ending clause.follows i j third k = leb j k && third j k
ending clause.triggers i j third k = leb i k && third i k

-- no answer comes up to k; what the first four types answer is asked of j already
unfoldable pub unreplied : clause.ClauseType → ℕ → ℕ → (ℕ → ℕ → Bool) → ℕ → Bool
unreplied clause.pref i j answers k = true
unreplied clause.init i j answers k = true
unreplied clause.anti i j answers k = true
unreplied clause.implies i j answers k = true
unreplied clause.follows i j answers k = not (some_in j k (answers j))
unreplied clause.triggers i j answers k = not (some_in i k (answers i))

-- r is the least cycle from j on that belongs to the set; 64 or more where none does
pub record Next (set j r : ℕ) : Type 0 where
  pub low : j ≤ r
  pub ok : r < 64 → bit set r ≡ true
  pub between : (x : ℕ) → j ≤ x → x < r → bit set x ≡ false
