-- What the functions of a walk hand one another.
use Rattle.std.proofs.Common.{ℕ, suc, ◌+◌, ◌-◌, ◌*◌, ◌≤◌, ◌<◌, arith, Bool, true, false, ◌&&◌, List, inl, inr, ◌≡◌, refl, sym, ap, subst, ◌∙◌, eqb, length, get_or, set, length-set, replicate, get_or-set_same, get_or-set_other, eqb-true}
use borrow.Author.Tests.{eqb-false}
use Rattle.semantics.specs.Cycles.{some_from}
use Rattle.semantics.specs.Proposition.{Trace, bit}
use Rattle.semantics.specs.Placement.{Placement, marks}
use Rattle.semantics.proofs.Tests.{test, and_left, and_right}
use Rattle.traces.specs.Columns.{trace_of}
use Rattle.stored.specs.Node.{node_at}
use Rattle.tables.specs.Table.{standing, Table, Tables}
use Rattle.tables.specs.Ready.{with_names}
use Rattle.places.specs.declared.task.Task.{Task}
use Rattle.places.specs.declared.walk.Aim.{Aim}
use Rattle.places.specs.declared.walk.Aim.TheVariants.{Place, Answers}
use Rattle.places.specs.declared.walk.Job.{Job}
use Rattle.places.specs.declared.walk.Spot.{Spot}
use Rattle.intervals.specs.Gather.{gathered, Adds, Ends}
use Rattle.intervals.specs.Places.{numbered, IsLeast}
use Rattle.intervals.specs.Rows.{type_of, test_of}
use Rattle.intervals.specs.Search.{premised, missed}
use Rattle.places.specs.Laid.{Laid, IsFormula, Walkable, Unneeded, Walked, with_next, over_last, missed_on, reply_on, low_of, last_of}
use Rattle.places.proofs.Laying.{laid_again, laid_placed, none_premised, place_least, place_none}
use Rattle.places.proofs.Loops.{level, walked_ext}
use Rattle.intervals.proofs.Places.{least_stay}

-- tables laid for the cycles of a spot
pub record Placed (nodes : List ℕ) (count n : ℕ) (reach : List ℕ) (σ : Trace) (cycles columns words : List ℕ) : Type 0 where
  pub laid : Laid nodes count n reach σ columns words
  pub tables : (i : ℕ) → i < count → Table (node_at nodes) σ (marks (standing cycles)) n words i

module _ {spot : Spot} {job : Job} {best : ℕ} {columns words : List ℕ} (w : Walkable spot job best columns words) where
  abbrev nodes : List ℕ
  nodes = job.nodes.now

  abbrev reach : List ℕ
  reach = job.reach.now

  pub lay_placed : {columns' words' : List ℕ} → columns' ≡ with_names columns spot.cycles → Tables (node_at nodes) job.count job.n columns' words'
      → length words' ≡ length words → Placed nodes job.count job.n reach (trace_of job.n columns) spot.cycles columns' words'
  lay_placed e t same =
      record { laid = laid_again spot.cycles w.laid w.inside e t same; tables = laid_placed spot.cycles w.laid w.inside e t same }

  pub few_cycles : job.n ≤ 64
  few_cycles = w.laid.ready.given.few_cycles

  pub some_cycles : 0 < job.n
  some_cycles = w.laid.ready.given.some_cycles

  -- a node's rows stand in the words
  pub root_rows : {columns' words' : List ℕ} {root : ℕ} → Placed nodes job.count job.n reach (trace_of job.n columns) spot.cycles columns' words'
      → IsFormula nodes job.count root → 64 * root + 64 ≤ length words'
  root_rows p f = let long = p.laid.ready.given.words_long in let below = f.below in omega arith

  -- the same spot after the tables were laid for others
  pub walkable_again : {columns' words' : List ℕ} {σ : Trace} → Laid nodes job.count job.n reach σ columns' words' → Walkable spot job best columns' words'
  walkable_again l =
      record {
        laid = record { ready = l.ready; tables = l.tables; told = refl };
        formulas = w.formulas;
        three = w.three;
        long = w.long;
        inside = w.inside;
        few = w.few;
      }

  -- the next name on cycle t
  pub walkable_next : {columns' words' : List ℕ} {σ : Trace} (least t : ℕ) (next : Spot) → next ≡ with_next spot t → Laid nodes job.count job.n reach σ columns' words'
      → least ≤ best → 0 < spot.left → t < job.n → Walkable next job least columns' words'
  unfolding with_next standing
  walkable_next {columns'} {words'} least t next e l less some h =
      subst (λ (z : Spot). Walkable z job least columns' words') (sym e)
      (record {
        laid = record { ready = l.ready; tables = l.tables; told = refl };
        formulas = w.formulas;
        three = let three = w.three in omega arith;
        long = length-set spot.cycles (3 - spot.left) t ∙ w.long;
        inside = record { stands = stands };
        few = let few = w.few in omega arith;
      })
    where
      stands : (u : ℕ) → u < 3 → standing (set spot.cycles (3 - spot.left) t) u < job.n
      stands u v =
          elim (test (eqb u (3 - spot.left))) [
            | inl q ↦
                rw (eqb-true u (3 - spot.left) q)
                (subst (λ (z : ℕ). z < job.n) (sym (get_or-set_same spot.cycles (3 - spot.left) t 0 (omega (arith, w.long, w.three)))) h)
            | inr q ↦
                subst (λ (z : ℕ). z < job.n) (sym (get_or-set_other spot.cycles (3 - spot.left) u t 0 (eqb-false u (3 - spot.left) q))) (w.inside.stands u v)
          ]

  -- the names of the answer over the same placement
  abbrev pub within : Job
  within = record { task = job.task; nodes = job.nodes; reach = job.reach; count = job.count; n = job.n; aim = Answers; names = job.task.replies }

  abbrev pub afresh : Spot
  afresh = record { left = 3; cycles = spot.cycles }

  pub walkable_within : {columns' words' : List ℕ} → Placed nodes job.count job.n reach (trace_of job.n columns) spot.cycles columns' words'
      → Walkable afresh within best columns' words'
  walkable_within p =
      record {
        laid = record { ready = p.laid.ready; tables = p.laid.tables; told = refl };
        formulas = w.formulas;
        three = omega arith;
        long = w.long;
        inside = w.inside;
        few = w.few;
      }

  -- ---- one placement
  module _ {columns' words' : List ℕ} (p : Placed nodes job.count job.n reach (trace_of job.n columns) spot.cycles columns' words') where
    -- the premise has no interval
    pub find_none : (some : ℕ) → (eqb some 0 && premised (type_of job.task.clause_type)) ≡ true
        → Ends job.n (gathered words' job.task.premise job.task.premises false (standing spot.cycles)) some
        → IsLeast best (λ y. missed_on nodes (trace_of job.n columns) job.n job.task y (standing spot.cycles)) best
    find_none some e ends =
        none_premised (standing spot.cycles) few_cycles p.tables job.task w.formulas best some
        (and_right (eqb some 0) (premised (type_of job.task.clause_type)) e) (eqb-true some 0 (and_left (eqb some 0) (premised (type_of job.task.clause_type)) e)) ends

    module _ {first third : List ℕ}
        (a₁ : Adds job.n (replicate 64 0) first (gathered words' job.task.premise job.task.premises false (standing spot.cycles)))
        (a₃ : Adds job.n (replicate 64 0) third (gathered words' job.task.third job.task.thirds true (standing spot.cycles))) where
      abbrev Found : List ℕ → ℕ → Type 0
      Found rows r = IsLeast best (numbered job.n (missed (type_of job.task.clause_type) (test_of first) (test_of third) (test_of rows))) r

      abbrev Missed : ℕ → Type 0
      Missed r = IsLeast best (λ y. missed_on nodes (trace_of job.n columns) job.n job.task y (standing spot.cycles)) r

      -- nothing is open without any answer
      pub find_closed : {rows : List ℕ} {r : ℕ} → rows ≡ replicate 64 0 → r ≡ best → Found rows r → Missed best
      find_closed {rows} {r} z e l =
          place_none (standing spot.cycles) few_cycles p.tables job.task w.formulas best first third a₁ a₃ rows z (subst (λ (x : ℕ). Found rows x) e l)

      -- with the answers of a walk over their names
      pub find_open : {rows rows' : List ℕ} {r x : ℕ} → rows ≡ replicate 64 0
          → Walked within (trace_of job.n columns') best x rows rows' (over_last 3 (bit job.task.replies) job.n (standing spot.cycles))
          → Found rows' r → Missed r
      find_open {rows} {rows'} {r} z a l =
          place_least (standing spot.cycles) few_cycles p.tables job.task w.formulas best first third a₁ a₃ rows' r
          (subst (λ (τ : Trace). Adds job.n (replicate 64 0) rows' (λ b e. over_last 3 (bit job.task.replies) job.n (standing spot.cycles) (reply_on nodes τ job.task b e)))
          p.laid.told
          (subst (λ (k : List ℕ). Adds job.n k rows' (λ b e. over_last 3 (bit job.task.replies) job.n (standing spot.cycles) (reply_on nodes (trace_of job.n columns') job.task b e))) z
          (a.answers refl)))
          l

-- ---- the columns tell the same trace before and after
module _ {nodes reach columns words : List ℕ} {count n : ℕ} {σ : Trace} (l : Laid nodes count n reach σ columns words) where
  pub laid_own : Laid nodes count n reach (trace_of n columns) columns words
  laid_own = record { ready = l.ready; tables = l.tables; told = refl }

  pub relaid : {columns' words' : List ℕ} → Laid nodes count n reach (trace_of n columns) columns' words' → Laid nodes count n reach σ columns' words'
  relaid k = record { ready = k.ready; tables = k.tables; told = k.told ∙ l.told }

  pub readded : {rows rows' : List ℕ} (task : Task) (ν : Placement) → Adds n rows rows' (λ b e. reply_on nodes (trace_of n columns) task b e ν)
      → Adds n rows rows' (λ b e. reply_on nodes σ task b e ν)
  readded {rows} {rows'} task ν a = subst (λ (τ : Trace). Adds n rows rows' (λ b e. reply_on nodes τ task b e ν)) l.told a

  pub refound : {best r : ℕ} (task : Task) (ν : Placement) → IsLeast best (λ y. missed_on nodes (trace_of n columns) n task y ν) r
      → IsLeast best (λ y. missed_on nodes σ n task y ν) r
  refound {best} {r} task ν a = subst (λ (τ : Trace). IsLeast best (λ y. missed_on nodes τ n task y ν) r) l.told a

  pub rewalked : (job : Job) {best r : ℕ} {rows rows' : List ℕ} (over : (Placement → Bool) → Bool) → Walked job (trace_of n columns) best r rows rows' over
      → Walked job σ best r rows rows' over
  rewalked job {best} {r} {rows} {rows'} over a = subst (λ (τ : Trace). Walked job τ best r rows rows' over) l.told a

apart : Place ≡ Answers → ⊥
apart e = cc

-- ---- what a walk leaves at its ends
-- a test of every placement with the next name on cycle t
abbrev pub next_over : Job → Spot → ℕ → (Placement → Bool) → Bool
next_over job spot t q = over_last (spot.left - 1) (bit job.names) job.n (standing (set spot.cycles (3 - spot.left) t)) q

module _ (job : Job) (σ : Trace) (spot : Spot) where
  abbrev Over : (Placement → Bool) → Bool
  Over = over_last spot.left (bit job.names) job.n (standing spot.cycles)

  pub walked_unneeded : {best : ℕ} {rows : List ℕ} → Unneeded spot job best σ → Walked job σ best best rows rows Over
  walked_unneeded u =
      record { places = λ e. least_stay u.none; answers = λ e. absurd (apart (sym u.looking ∙ e)); most = omega arith }

  last : (q : Placement → Bool) → spot.left ≡ 0 → q (standing spot.cycles) ≡ Over q
  unfolding over_last
  last q e = rw e refl

  pub walked_answer : {best : ℕ} {rows rows' : List ℕ} → spot.left ≡ 0 → job.aim ≡ Answers
      → Adds job.n rows rows' (λ b e. reply_on job.nodes.now σ job.task b e (standing spot.cycles)) → Walked job σ best best rows rows' Over
  walked_answer e is a =
      walked_ext job σ {over = λ q. q (standing spot.cycles)} (λ q. last q e)
      (record { places = λ e. absurd (apart (sym e ∙ is)); answers = λ _. a; most = omega arith })

  pub walked_find : {best r : ℕ} {rows rows' : List ℕ} → spot.left ≡ 0 → job.aim ≡ Place
      → IsLeast best (λ y. missed_on job.nodes.now σ job.n job.task y (standing spot.cycles)) r → Walked job σ best r rows rows' Over
  walked_find e is l =
      walked_ext job σ {over = λ q. q (standing spot.cycles)} (λ q. last q e)
      (record { places = λ _. l; answers = λ e. absurd (apart (sym is ∙ e)); most = l.most })

  -- the walk of the next spot is one cycle of it
  pub walked_next : {best r : ℕ} {rows rows' : List ℕ} {next : Spot} (t : ℕ) → next ≡ with_next spot t
      → Walked job σ best r rows rows' (over_last next.left (bit job.names) job.n (standing next.cycles)) → Walked job σ best r rows rows' (next_over job spot t)
  unfolding with_next
  walked_next {best} {r} {rows} {rows'} t e w =
      subst (λ (z : Spot). Walked job σ best r rows rows' (over_last z.left (bit job.names) job.n (standing z.cycles))) e w

  pub walked_level : {best r low last t : ℕ} {rows rows' : List ℕ} → length spot.cycles ≡ 3 → 0 < spot.left → spot.left ≤ 3 → 0 < job.n
      → low ≡ low_of (bit job.names (3 - spot.left)) (get_or spot.cycles (3 - spot.left) 0)
      → last ≡ last_of (bit job.names (3 - spot.left)) job.n (get_or spot.cycles (3 - spot.left) 0) → t ≡ suc last
      → Walked job σ best r rows rows' (λ q. some_from low t (λ i. next_over job spot i q)) → Walked job σ best r rows rows' Over
  walked_level {low = low} {last} long some three h l k e w =
      walked_ext job σ (λ q. ap (λ (z : ℕ). some_from low z (λ i. next_over job spot i q)) e ∙ level spot.cycles spot.left job.names job.n low last q long some three h l k) w

-- ---- how many names are left falls
-- a walk for places lies above one for answers
abbrev pub above : Aim → ℕ
above Place = 9
above Answers = 0

pub places_above : (left m : ℕ) (aim : Aim) → aim ≡ Place → left + above aim ≡ m → 8 < m
places_above left m aim e f = let g : left + 9 ≡ m = ap (λ (a : Aim). left + above a) (sym e) ∙ f in omega arith

pub next_below : (spot next : Spot) (t x m : ℕ) → next ≡ with_next spot t → (spot.left ≡ 0 → ⊥) → spot.left + x ≡ m → next.left + x < m
unfolding with_next
next_below spot next t x m e some f = let g : next.left ≡ spot.left - 1 = ap (λ (z : Spot). z.left) e in omega arith
