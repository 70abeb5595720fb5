-- What the loops over a sheet's clauses promise one another; a reader need not believe it.
use Rattle.std.specs.Prelude.{ℕ, ◌*◌, ◌/◌, ◌%◌, ◌^◌, ◌≤◌, ◌<◌, true, false, List, ◌≡◌, length, Option, MatchOption}
use Rattle.semantics.specs.Proposition.{Trace}
use Rattle.semantics.specs.Clause.{Role, Clause, breaks}
use Rattle.semantics.specs.Reach.{clause_fits}
use Rattle.semantics.specs.Verdict.{fails_as}
use Rattle.stored.specs.declared.StoredClause.{StoredClause}
use Rattle.stored.specs.Node.{node_at}
use Rattle.stored.specs.Layout.{clause_size, most_clauses}
use Rattle.stored.specs.Clause.{last_role, stored_at, clause_of}
use Rattle.intervals.specs.Places.{places, numbered, IsLeast}
use Rattle.places.specs.Task.{task_of}
use Rattle.places.specs.Laid.{Laid, Formulas}
use Rattle.checker.specs.declared.check.Place.{Place}
use Rattle.checker.specs.declared.failing.Failing.{Failing}
use Rattle.checker.specs.declared.failing.Parts.{Parts}

-- the words are right for the columns, over the nodes of these parts
abbrev pub LaidOver : Parts → Trace → List ℕ → List ℕ → Type 0
LaidOver parts = Laid parts.nodes.now parts.sizes.nodes parts.sizes.cycles parts.reach.now

-- a stored clause that the check takes
pub record Sound (nodes : List ℕ) (count : ℕ) (d : StoredClause) : Type 0 where
  pub type_least : 1 ≤ d.clause_type
  pub type_most : d.clause_type ≤ 6
  pub role_most : d.role ≤ last_role
  pub first_mask : d.mask1 < 2 ^ 64
  pub second_mask : d.mask2 < 2 ^ 64
  pub third_mask : d.mask3 < 2 ^ 64
  pub formulas : Formulas nodes count (task_of d)
  pub fits : clause_fits (clause_of (node_at nodes) d) ≡ true

-- c stored clauses that the check takes
pub record Sounds (nodes : List ℕ) (count : ℕ) (clauses : List ℕ) (c : ℕ) : Type 0 where
  pub few : c ≤ most_clauses
  pub long : clause_size * c ≤ length clauses
  pub sound : (k : ℕ) → k < c → Sound nodes count (stored_at clauses k)

-- clause k of stored nodes and clauses
unfoldable pub clause_at : List ℕ → List ℕ → ℕ → Clause
clause_at nodes clauses k = clause_of (node_at nodes) (stored_at clauses k)

-- the clause fails in its role, first at the place with this number
pub record FailsAt (r : Role) (c : Clause) (σ : Trace) (place : ℕ) : Type 0 where
  pub fails : fails_as r σ c ≡ true
  pub least : IsLeast places (numbered (length σ) (breaks c σ)) place
  pub found : place < places

-- the number of the clause's first broken place, if it has the role and fails
abbrev pub PlaceIs : Role → Clause → Trace → Option ℕ → Type 0
PlaceIs r c σ place = MatchOption place (fails_as r σ c ≡ false) (FailsAt r c σ)

-- the first of c clauses that fails in its role, with the number of its first broken place
pub record First (r : Role) (f : ℕ → Clause) (c : ℕ) (σ : Trace) (x : Failing) : Type 0 where
  pub below : x.clause < c
  pub before : (j : ℕ) → j < x.clause → fails_as r σ (f j) ≡ false
  pub here : FailsAt r (f x.clause) σ x.place

-- it, if any of them fails
abbrev pub FailingIs : Role → (ℕ → Clause) → ℕ → Trace → Option Failing → Type 0
FailingIs r f c σ found = MatchOption found ((k : ℕ) → k < c → fails_as r σ (f k) ≡ false) (First r f c σ)

-- the place with a number
unfoldable pub place_of : ℕ → ℕ → Place
place_of clause number = record { clause = clause; i = number / 4096; j = number / 64 % 64; k = number % 64 }
