-- The state of a walk over placements, and what it finds.
use Rattle.std.specs.Prelude.{ℕ, zero, suc, ◌-◌, ◌≤◌, ◌<◌, Bool, false, cond, List, ◌≡◌, length, set}
use Rattle.semantics.specs.Proposition.{Trace, bit}
use Rattle.semantics.specs.Placement.{Names, Placement, place_name}
use Rattle.traces.specs.Columns.{trace_of}
use Rattle.stored.specs.Node.{node_at, requirement_sorts, sort_of, formula}
use Rattle.stored.specs.Clause.{part_of}
use Rattle.tables.specs.Table.{standing, Inside, Tables}
use Rattle.tables.specs.Ready.{Ready}
use Rattle.places.specs.declared.task.Task.{Task}
use Rattle.places.specs.declared.walk.Aim.TheVariants.{Place, Answers}
use Rattle.places.specs.declared.walk.Job.{Job}
use Rattle.places.specs.declared.walk.Spot.{Spot}
use Rattle.intervals.specs.Gather.{Adds}
use Rattle.intervals.specs.Search.{on_inside}
use Rattle.intervals.specs.Places.{numbered, IsLeast}
use Rattle.places.specs.Task.{missed_task}

-- the words are right for the columns, which tell the trace σ
pub record Laid (nodes : List ℕ) (count n : ℕ) (reach : List ℕ) (σ : Trace) (columns words : List ℕ) : Type 0 where
  pub ready : Ready nodes count n reach columns words
  pub tables : Tables (node_at nodes) count n columns words
  pub told : trace_of n columns ≡ σ

-- the same, for a walk's nodes
abbrev pub LaidFor : Job → Trace → List ℕ → List ℕ → Type 0
LaidFor job = Laid job.nodes.now job.count job.n job.reach.now

-- node i is one of the formulas
pub record IsFormula (nodes : List ℕ) (count i : ℕ) : Type 0 where
  pub below : i < count
  pub sort : sort_of requirement_sorts (node_at nodes i).op ≡ formula

-- the nodes of a task are formulas
pub record Formulas (nodes : List ℕ) (count : ℕ) (t : Task) : Type 0 where
  pub premise : IsFormula nodes count t.premise
  pub third : IsFormula nodes count t.third
  pub reply : IsFormula nodes count t.reply

-- what a walk is given: right tables, formulas, every name on a cycle of the trace, and a place to look before
pub record Walkable (spot : Spot) (job : Job) (best : ℕ) (columns words : List ℕ) : Type 0 where
  pub laid : LaidFor job (trace_of job.n columns) columns words
  pub formulas : Formulas job.nodes.now job.count job.task
  pub three : spot.left ≤ 3
  pub long : length spot.cycles ≡ 3
  pub inside : Inside job.n spot.cycles
  pub few : best ≤ 262144

-- the next name put on cycle t
unfoldable pub with_next : Spot → ℕ → Spot
with_next spot t = record { left = spot.left - 1; cycles = set spot.cycles (3 - spot.left) t }

-- a test of placements, with the last names of a set, as many as are left, put on any cycles
unfoldable pub over_last : ℕ → Names → ℕ → Placement → (Placement → Bool) → Bool
over_last zero names n ν q = q ν
over_last (suc left) names n ν q = place_name (2 - left) names 0 (n - 1) ν (λ ν'. over_last left names n ν' q)

-- the answering part on [b,e] with those names inside that no part before lists
unfoldable pub reply_on : List ℕ → Trace → Task → ℕ → ℕ → Placement → Bool
reply_on nodes σ t b e ν = on_inside (part_of (node_at nodes) t.reply t.replies) σ ν b e

-- the place with number y is unanswered
unfoldable pub missed_on : List ℕ → Trace → ℕ → Task → ℕ → Placement → Bool
missed_on nodes σ n t y ν = numbered n (missed_task (node_at nodes) t σ (n - 1) ν) y

-- no completion of the spot has an unanswered place before the best
pub record Unneeded (spot : Spot) (job : Job) (best : ℕ) (σ : Trace) : Type 0 where
  pub looking : job.aim ≡ Place
  pub none : (y : ℕ) → y < best → over_last spot.left (bit job.names) job.n (standing spot.cycles) (missed_on job.nodes.now σ job.n job.task y) ≡ false

-- What a walk leaves, where `over` asks a test of every placement that it came to: the least unanswered place before the best, or rows
-- that have gained the answers.
pub record Walked (job : Job) (σ : Trace) (best r : ℕ) (rows rows' : List ℕ) (over : (Placement → Bool) → Bool) : Type 0 where
  pub places : job.aim ≡ Place → IsLeast best (λ y. over (missed_on job.nodes.now σ job.n job.task y)) r
  pub answers : job.aim ≡ Answers → Adds job.n rows rows' (λ b e. over (reply_on job.nodes.now σ job.task b e))
  pub most : r ≤ best

-- the cycles that a walk goes through for one name: all of the trace if it moves, else the one on which it stands
abbrev pub low_of : Bool → ℕ → ℕ
low_of moves p = cond moves 0 p

abbrev pub last_of : Bool → ℕ → ℕ → ℕ
last_of moves n p = cond moves (n - 1) p
