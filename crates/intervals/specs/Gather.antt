-- The three arrays of rows for one placement, gathered from the tables.
use Rattle.std.specs.Prelude.{ℕ, ◌≤◌, ◌<◌, min, max, Bool, true, cond, ◌&&◌, ◌||◌, List, ◌≡◌}
use Rattle.semantics.specs.Proposition.{bit}
use Rattle.semantics.specs.Placement.{Names, Placement}
use Rattle.semantics.specs.Inside.{inside}
use Rattle.rows.specs.Row.{shortest_of}
use Rattle.tables.specs.Table.{row_at}
use Rattle.intervals.specs.Rows.{test_of}

-- the first and the last cycle on which a name of the set stands; 63 and 0 if there is none
unfoldable pub first_name : Names → Placement → ℕ
first_name names ν = min (min (cond (names 0) (ν 0) 63) (cond (names 1) (ν 1) 63)) (min (cond (names 2) (ν 2) 63) 63)

unfoldable pub last_name : Names → Placement → ℕ
last_name names ν = max (max (cond (names 0) (ν 0) 0) (cond (names 1) (ν 1) 0)) (cond (names 2) (ν 2) 0)

-- row b, or its shortest interval alone
unfoldable pub cut_to : Bool → ℕ → ℕ
cut_to short row = cond short (shortest_of row) row

-- row b of a node, cut if asked, with the intervals kept that hold the cycles of the names in the mask
unfoldable pub gathered : List ℕ → ℕ → ℕ → Bool → Placement → ℕ → ℕ → Bool
gathered words root names short ν b e = inside (bit names) b e ν && bit (cut_to short (row_at words root b)) e

-- the rows of the first n cycles have gained the intervals of q
pub record Adds (n : ℕ) (before after : List ℕ) (q : ℕ → ℕ → Bool) : Type 0 where
  pub adds : (b e : ℕ) → b ≤ e → e < n → test_of after b e ≡ (test_of before b e || q b e)

-- every end of an interval of q is in the set
pub record Ends (n : ℕ) (q : ℕ → ℕ → Bool) (set : ℕ) : Type 0 where
  pub ends : (b e : ℕ) → b ≤ e → e < n → q b e ≡ true → bit set e ≡ true
