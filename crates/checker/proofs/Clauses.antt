-- A clause of an accepted sheet: what a walk over its placements finds.
use Rattle.std.proofs.Common.{ℕ, zero, suc, ◌-◌, ◌≤◌, ◌<◌, arith, List, [], ◌∷◌, ◌≡◌, refl, sym, ap, ap₂, subst, ◌∙◌, length, Bor}
use Rattle.semantics.specs.Proposition.{Trace, bit}
use Rattle.semantics.specs.Placement.{some_placement}
use Rattle.semantics.specs.Clause.{Clause, breaks}
use Rattle.semantics.specs.Verdict.{finding_of, advice_of, verdict}
use Rattle.stored.specs.declared.StoredClause.{StoredClause}
use Rattle.traces.specs.Columns.{trace_of}
use Rattle.stored.specs.Node.{node_at}
use Rattle.stored.specs.Clause.{clause_of}
use Rattle.stored.specs.Reach.{reach_table}
use Rattle.traces.proofs.Columns.{told_length}
use Rattle.tables.specs.Table.{standing, Inside, Tables}
use Rattle.tables.specs.Ready.{Given, with_names}
use Rattle.tables.proofs.Columns.{names_columns, names_told}
use Rattle.tables.proofs.Fills.{given_other}
use Rattle.places.specs.declared.task.Task.{Task}
use Rattle.places.specs.declared.walk.Aim.TheVariants.{Place}
use Rattle.places.specs.declared.walk.Job.{Job}
use Rattle.places.specs.declared.walk.Spot.{Spot}
use Rattle.intervals.specs.Places.{places, numbered, IsLeast}
use Rattle.places.specs.Task.{task_of, missed_task}
use Rattle.places.specs.Laid.{Laid, Formulas, Walkable, missed_on, over_last}
use Rattle.places.proofs.Tasks.{task_least}
use Rattle.checker.specs.declared.check.Finding.{Finding}
use Rattle.checker.specs.Check.{told, told_whole}
use Rattle.checker.specs.Clauses.{Sound}

-- every name on cycle 0
pub all_first : {n : ℕ} → 1 ≤ n → Inside n (0 ∷ 0 ∷ 0 ∷ [])
unfolding standing
all_first {n} some = record { stands = stands }
  where
    stands : (u : ℕ) → u < 3 → standing (0 ∷ 0 ∷ 0 ∷ []) u < n
    stands zero h = some
    stands (suc zero) h = some
    stands (suc (suc zero)) h = some
    stands (suc (suc (suc u))) h = absurd (omega arith)

-- the first tables of a check
pub first_laid : {nodes reach columns columns' words words' : List ℕ} {count n : ℕ} → Given nodes count n columns words → reach ≡ reach_table (node_at nodes) count
    → columns' ≡ with_names columns (0 ∷ 0 ∷ 0 ∷ []) → Tables (node_at nodes) count n columns' words' → length words' ≡ length words
    → Laid nodes count n reach (trace_of n columns) columns' words'
first_laid {columns = columns} {words' = words'} {n = n} g r e t same =
    record {
      ready = rw e (record { given = given_other _ words' (names_columns (0 ∷ 0 ∷ 0 ∷ []) g.few_cycles (all_first g.some_cycles) g.columned) same g; reached = r });
      tables = t;
      told = rw e (names_told columns (0 ∷ 0 ∷ 0 ∷ []) g.columned.all n);
    }

-- a verdict of the finding and the advice over the trace that was told before
pub verdict_again : {nodes reach columns columns' words words' : List ℕ} {count n advice : ℕ} {σ : Trace} {finding : Finding}
    → Laid nodes count n reach σ columns words → Laid nodes count n reach (trace_of n columns) columns' words' → (cs : List Clause)
    → advice ≡ advice_of cs (trace_of n columns) → finding ≡ told (finding_of cs (trace_of n columns')) → record { finding = finding; advice = advice } ≡ told_whole (verdict cs σ)
unfolding told_whole verdict
verdict_again {columns = columns} {n = n} l l' cs a f =
    ap₂ (λ (x : Finding) (y : ℕ). record { finding = x; advice = y }) (f ∙ ap (λ (τ : Trace). told (finding_of cs τ)) l'.told) a
    ∙ ap (λ (τ : Trace). told_whole (verdict cs τ)) l.told

module _ {nodes reach columns words : List ℕ} {count n : ℕ} (l : Laid nodes count n reach (trace_of n columns) columns words) where
  pub short_trace : length (trace_of n columns) ≤ 64
  short_trace = let few = l.ready.given.few_cycles in let long = told_length n columns in omega arith

  module _ (d : StoredClause) (task : Task) (e : task ≡ task_of d) (s : Sound nodes count d) where
    pub clause_least : (r : ℕ) → IsLeast places (λ y. over_last 3 (bit task.quantified) n (standing (0 ∷ 0 ∷ 0 ∷ [])) (missed_on nodes (trace_of n columns) n task y)) r
        → IsLeast places (numbered (length (trace_of n columns)) (breaks (clause_of (node_at nodes) d) (trace_of n columns))) r
    unfolding over_last missed_on some_placement
    clause_least r least =
        let some = l.ready.given.some_cycles in
        let long = told_length n columns in
        task_least (node_at nodes) d (trace_of n columns) (n - 1) places r (record { first = s.first_mask; second = s.second_mask; third = s.third_mask })
        s.type_least s.type_most s.fits (omega arith)
        (subst
        (λ (m : ℕ). IsLeast places (λ y. some_placement (bit (task_of d).quantified) 0 (n - 1) (standing (0 ∷ 0 ∷ 0 ∷ [])) (λ ν. numbered m (missed_task (node_at nodes) (task_of d) (trace_of n columns) (n - 1) ν) y)) r)
        (sym long)
        (subst
        (λ (t : Task). IsLeast places (λ y. some_placement (bit t.quantified) 0 (n - 1) (standing (0 ∷ 0 ∷ 0 ∷ [])) (λ ν. numbered n (missed_task (node_at nodes) t (trace_of n columns) (n - 1) ν) y)) r)
        e least))

-- the walk for a clause starts with every name on cycle 0, and looks everywhere
module _ (bytes masks : Bor (List ℕ)) {columns words : List ℕ} {count n : ℕ} (l : Laid bytes.now count n masks.now (trace_of n columns) columns words) where
  abbrev start : Spot
  start = record { left = 3; cycles = 0 ∷ 0 ∷ 0 ∷ [] }

  abbrev looking : Task → Job
  looking task = record { task = task; nodes = bytes; reach = masks; count = count; n = n; aim = Place; names = task.quantified }

  pub clause_walkable : (d : StoredClause) (task : Task) → task ≡ task_of d → Sound bytes.now count d → Walkable start (looking task) places columns words
  clause_walkable d task e s =
      record {
        laid = l;
        formulas = subst (λ (t : Task). Formulas bytes.now count t) (sym e) s.formulas;
        three = omega arith;
        long = refl;
        inside = all_first l.ready.given.some_cycles;
        few = omega arith;
      }
