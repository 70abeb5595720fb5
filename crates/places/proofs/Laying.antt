-- Tables for other placements, and what the rows that are gathered from them mean.
use Rattle.std.proofs.Common.{ℕ, ◌-◌, ◌≤◌, ◌<◌, arith, Bool, true, false, ◌&&◌, ◌||◌, List, ◌≡◌, sym, ap, subst, ◌∙◌, length, get_or, replicate}
use lib.ListN.{get_or-replicate}
use Rattle.semantics.specs.Proposition.{Trace, bit}
use Rattle.semantics.specs.Formula.{holds}
use Rattle.semantics.specs.Placement.{Placement, marks, some_placement}
use Rattle.semantics.specs.Inside.{inside}
use Rattle.semantics.specs.Clause.{on, shortest}
use Rattle.semantics.proofs.Tests.{is_false, false_not}
use Rattle.rows.specs.Row.{row, shortest_of}
use Rattle.rows.proofs.Bits.{bit_nothing}
use Rattle.rows.proofs.Rows.{row_at_lem}
use Rattle.rows.proofs.Cuts.{shortest_row}
use Rattle.stored.specs.Node.{node_at}
use Rattle.stored.specs.Tree.{formula_at}
use Rattle.stored.specs.Clause.{part_of}
use Rattle.tables.specs.Table.{standing, Inside, row_at, Table, Tables}
use Rattle.tables.specs.Ready.{with_names}
use Rattle.tables.proofs.Columns.{names_columns, names_told}
use Rattle.tables.proofs.Fills.{ready_other}
use Rattle.tables.proofs.Moves.{table_placed}
use Rattle.places.specs.declared.task.Task.{Task}
use Rattle.intervals.specs.Search.{on_inside, short_inside, answered, premised, missed}
use Rattle.intervals.specs.Places.{numbered, IsLeast}
use Rattle.intervals.specs.Rows.{type_of, test_of}
use Rattle.intervals.specs.Gather.{cut_to, gathered, Adds, Ends}
use Rattle.places.specs.Task.{missed_task}
use Rattle.places.specs.Laid.{Laid, IsFormula, Formulas, reply_on, missed_on, over_last}
use Rattle.intervals.proofs.Found.{missed_fewer, missed_premise}
use Rattle.places.proofs.Loops.{missed_least}
use Rattle.intervals.proofs.Places.{least_stay, numbered_fewer, numbered_false}

-- ---- names laid on other cycles
module _ {nodes reach : List ℕ} {count n : ℕ} {σ : Trace} where
  pub laid_again : {columns columns' words words' : List ℕ} (cycles : List ℕ) → Laid nodes count n reach σ columns words → Inside n cycles
      → columns' ≡ with_names columns cycles → Tables (node_at nodes) count n columns' words' → length words' ≡ length words → Laid nodes count n reach σ columns' words'
  laid_again {columns} {columns'} {words} {words'} cycles l i e t same =
      let c = l.ready.given.columned in
      record {
        ready = rw e (ready_other (with_names columns cycles) words' (names_columns cycles l.ready.given.few_cycles i c) same l.ready);
        tables = t;
        told = rw e (names_told columns cycles c.all n ∙ l.told);
      }

  -- the tables are then those of the placement
  pub laid_placed : {columns columns' words words' : List ℕ} (cycles : List ℕ) → Laid nodes count n reach σ columns words → Inside n cycles
      → columns' ≡ with_names columns cycles → Tables (node_at nodes) count n columns' words' → length words' ≡ length words
      → (i : ℕ) → i < count → Table (node_at nodes) σ (marks (standing cycles)) n words' i
  laid_placed {columns} {columns'} {words} {words'} cycles l i e t same k h =
      let c = l.ready.given.columned in
      let r = ready_other (with_names columns cycles) words' (names_columns cycles l.ready.given.few_cycles i c) same l.ready in
      subst (λ (τ : Trace). Table (node_at nodes) τ (marks (standing cycles)) n words' k) l.told
      (table_placed columns cycles r c.all (subst (λ (m : List ℕ). Tables (node_at nodes) count n m words') e t) k h)

-- ---- the intervals of a part with its names inside, and the shortest of them
module _ {nodes words : List ℕ} {count n : ℕ} {σ : Trace} (ν : Placement) (few : n ≤ 64)
    (placed : (i : ℕ) → i < count → Table (node_at nodes) σ (marks ν) n words i) where
  module _ {root : ℕ} (names : ℕ) (f : IsFormula nodes count root) where
    row_of : (b : ℕ) → b < n → row_at words root b ≡ row n (holds (formula_at (node_at nodes) root) σ (marks ν)) b
    row_of b h = (placed root f.below).rows f.sort b h

    pub gathered_on : (b e : ℕ) → b ≤ e → e < n → gathered words root names false ν b e ≡ on_inside (part_of (node_at nodes) root names) σ ν b e
    unfolding gathered cut_to on_inside on part_of
    gathered_on b e o h =
        ap (λ (r : Bool). inside (bit names) b e ν && r)
        (ap (λ (x : ℕ). bit x e) (row_of b (omega arith)) ∙ row_at_lem n (holds (formula_at (node_at nodes) root) σ (marks ν)) b e o h)

    pub gathered_short : (b e : ℕ) → b ≤ e → e < n → gathered words root names true ν b e ≡ short_inside (part_of (node_at nodes) root names) σ ν b e
    unfolding gathered cut_to short_inside shortest on part_of
    gathered_short b e o h =
        ap (λ (r : Bool). inside (bit names) b e ν && r)
        (ap (λ (x : ℕ). bit (shortest_of x) e) (row_of b (omega arith))
        ∙ ap (λ (x : ℕ). bit x e) (shortest_row n (holds (formula_at (node_at nodes) root) σ (marks ν)) b few)
        ∙ row_at_lem n _ b e o h)

  -- the answers of one placement
  pub replies_added : (task : Task) (rows rows' : List ℕ) → Formulas nodes count task → Adds n rows rows' (gathered words task.reply task.replies false ν)
      → Adds n rows rows' (λ b e. reply_on nodes σ task b e ν)
  unfolding reply_on
  replies_added task rows rows' f a =
      record { adds = λ b e l h. a.adds b e l h ∙ ap (λ (r : Bool). test_of rows b e || r) (gathered_on task.replies f.reply b e l h) }

  -- ---- what the search finds in the arrays that were gathered for one placement
  module _ (task : Task) (f : Formulas nodes count task) (best : ℕ) where
    premises : ℕ → ℕ → Bool
    premises = on_inside (part_of (node_at nodes) task.premise task.premises) σ ν

    thirds : ℕ → ℕ → Bool
    thirds = short_inside (part_of (node_at nodes) task.third task.thirds) σ ν

    replies : ℕ → ℕ → Bool
    replies = answered (part_of (node_at nodes) task.reply task.replies) σ (n - 1) ν

    abbrev Missed : ℕ → Type 0
    Missed r = IsLeast best (λ y. missed_on nodes σ n task y ν) r

    -- the premise has no interval
    pub none_premised : (some : ℕ) → premised (type_of task.clause_type) ≡ true → some ≡ 0
        → Ends n (gathered words task.premise task.premises false ν) some → Missed best
    unfolding missed_on missed_task
    none_premised some p z ends =
        least_stay (λ y l. numbered_false n _ y (λ hi hj hk.
        missed_premise (type_of task.clause_type) _ _ _ n _ _ _ p hj (λ b e o h.
        sym (gathered_on task.premises f.premise b e o h)
        ∙ is_false (gathered words task.premise task.premises false ν b e) (λ q.
        false_not (bit some e) (ap (λ (x : ℕ). bit x e) z ∙ bit_nothing e) (ends.ends b e o h q)))))

    -- rows that started empty
    fresh : (rows : List ℕ) (q : ℕ → ℕ → Bool) → Adds n (replicate 64 0) rows q → (b e : ℕ) → b ≤ e → e < n → test_of rows b e ≡ q b e
    unfolding test_of
    fresh rows q a b e o h =
        a.adds b e o h
        ∙ ap (λ (x : ℕ). bit x e || q b e) (get_or-replicate 64 b 0 0 (omega arith))
        ∙ ap (λ (x : Bool). x || q b e) (bit_nothing e)

    module _ (first third : List ℕ) (a₁ : Adds n (replicate 64 0) first (gathered words task.premise task.premises false ν))
        (a₃ : Adds n (replicate 64 0) third (gathered words task.third task.thirds true ν)) where
      first_is_lem : (b e : ℕ) → b ≤ e → e < n → test_of first b e ≡ premises b e
      unfolding premises
      first_is_lem b e o h = fresh first _ a₁ b e o h ∙ gathered_on task.premises f.premise b e o h

      third_is : (b e : ℕ) → b ≤ e → e < n → test_of third b e ≡ thirds b e
      unfolding thirds
      third_is b e o h = fresh third _ a₃ b e o h ∙ gathered_short task.thirds f.third b e o h

      pub place_least : (answers : List ℕ) (r : ℕ) → Adds n (replicate 64 0) answers (λ b e. over_last 3 (bit task.replies) n ν (reply_on nodes σ task b e))
          → IsLeast best (numbered n (missed (type_of task.clause_type) (test_of first) (test_of third) (test_of answers))) r → Missed r
      unfolding missed_on missed_task answered reply_on over_last some_placement part_of premises thirds replies
      place_least answers r a₂ least =
          missed_least n (test_of first) premises (test_of third) thirds (test_of answers) replies first_is_lem third_is
          (λ b e o h. fresh answers _ a₂ b e o h) (type_of task.clause_type) best r least

      -- nothing is open without any answer
      pub place_none : (rows : List ℕ) → rows ≡ replicate 64 0
          → IsLeast best (numbered n (missed (type_of task.clause_type) (test_of first) (test_of third) (test_of rows))) best → Missed best
      unfolding missed_on missed_task test_of premises thirds replies
      place_none rows z least =
          least_stay (λ y l.
          numbered_fewer n (missed (type_of task.clause_type) premises thirds (λ b e. false)) (missed (type_of task.clause_type) premises thirds replies)
          (λ i j k. missed_fewer (type_of task.clause_type) premises thirds replies i j k) y
          ((missed_least n (test_of first) premises (test_of third) thirds (test_of rows) (λ b e. false) first_is_lem third_is
          (λ b e o h. ap (λ (w : List ℕ). bit (get_or w b 0) e) z ∙ ap (λ (x : ℕ). bit x e) (get_or-replicate 64 b 0 0 (omega arith)) ∙ bit_nothing e)
          (type_of task.clause_type) best best least).before y l))
