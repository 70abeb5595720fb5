-- A node that reaches none of the moved names keeps its table.
use Rattle.std.proofs.Common.{ℕ, ◌+◌, ◌≤◌, ◌<◌, Bool, true, false, not, cond, ◌&&◌, ◌||◌, true≢false, List, ◌≡◌, refl, sym, ◌∙◌, ap, subst, arith, eqb-true, ltb-true, bit_and, bit_or, ltb, eqb, length, get_or, replicate}
use lib.ListN.{get_or-replicate}
use Rattle.semantics.specs.Proposition.{Trace, Marks, bit}
use Rattle.semantics.specs.Formula.{holds}
use Rattle.semantics.specs.Placement.{Names, marks}
use Rattle.semantics.proofs.Locality.{Alike, local, at_local}
use Rattle.rows.proofs.Rows.{row_ext, word_ext}
use Rattle.stored.specs.declared.Node.{Node}
use Rattle.stored.specs.Bytes.{every_below}
use Rattle.traces.specs.Columns.{first_name, column_at, trace_of, marks_of}
use Rattle.stored.specs.Node.{node_at}
use Rattle.stored.specs.Reach.{joint, name_mask, reach_at, covers, entry_of}
use Rattle.stored.specs.Tree.{proposition_at, formula_at}
use Rattle.traces.proofs.Columns.{told_length}
use Rattle.stored.proofs.Reach.{NodesKept, reach_law, reach_small, table_at, each_bool, each_at}
use Rattle.stored.proofs.Rules.{asked, every_at}
use Rattle.tables.specs.Table.{standing, Inside, Table, Tables}
use Rattle.tables.specs.Ready.{Given, Ready, Kept, apart, marked_at, with_name, changed, with_names, changed_names}
use Rattle.tables.proofs.Columns.{name_elsewhere, name_long, names_at, names_told, names_columns, names_marked}
use Rattle.tables.proofs.Fills.{given_other}
use Rattle.tables.proofs.Nodes.{nodes_kept}

-- a table goes by the marks of the names that its node reaches
pub table_alike : (s m count : ℕ) (x : ℕ → Node) (n : ℕ) (σ : Trace) (μ μ' : Marks) (words : List ℕ) (i : ℕ) (names : Names) → length σ ≡ n → NodesKept s m count x → i < count
    → covers (reach_at x i) names ≡ true → ((u : ℕ) → names u ≡ true → (t : ℕ) → t < n → μ u t ≡ μ' u t)
    → Table x σ μ n words i → Table x σ μ' n words i
table_alike s m count x n σ μ μ' words i names long kept h c same t =
    let reached = reach_law s m count x kept names i h in
    record {
      rows = λ sort b l.
          t.rows sort b l
          ∙ row_ext n (holds (formula_at x i) σ μ) (holds (formula_at x i) σ μ') b
          (λ e y z. local (formula_at x i) (reached.of_formula sort ∙ c) y (agree e z b));
      column = λ sort.
          t.column sort
          ∙ word_ext n _ _ (λ e l. at_local (proposition_at x i) (reached.of_proposition sort ∙ c) (agree e l e) e (omega arith) (omega arith));
    }
  where
    agree : (e : ℕ) → e < n → (b : ℕ) → Alike names b e σ μ σ μ'
    agree e h b =
        record {
          inside = omega arith;
          inside' = omega arith;
          signals = λ k t l m. refl;
          marks = λ u w t l m. same u w t (omega arith);
        }

-- ---- names that moved
-- over masks below 8 and three tests: a mask apart from the changed names is covered by the others
moved_by : Bool → Bool → Bool → ℕ
moved_by a b c = joint (cond a 0 1) (joint (cond b 0 2) (cond c 0 4))

covered : ℕ → Bool → Bool → Bool → Bool
covered r a b c = (not (bit r 0) || a) && ((not (bit r 1) || b) && (not (bit r 2) || c))

apart_test : ℕ → Bool → Bool → Bool → Bool
apart_test r a b c = not (eqb (bit_and (joint r 8) (moved_by a b c)) 0) || covered r a b c

apart_test_lem : every_below 8 (λ r. each_bool (λ a. each_bool (λ b. each_bool (λ c. apart_test r a b c)))) ≡ true
unfolding every_below each_bool apart_test moved_by covered joint bit
apart_test_lem = refl

apart_covers : (r : ℕ) (a b c : Bool) → r < 8 → eqb (bit_and (joint r 8) (moved_by a b c)) 0 ≡ true → covered r a b c ≡ true
unfolding apart_test
apart_covers r a b c h e =
    asked (eqb (bit_and (joint r 8) (moved_by a b c)) 0) _
    (each_at (λ c. apart_test r a b c)
    (each_at (λ b. each_bool (λ c. apart_test r a b c))
    (each_at (λ a. each_bool (λ b. each_bool (λ c. apart_test r a b c)))
    (every_at 8 (λ r. each_bool (λ a. each_bool (λ b. each_bool (λ c. apart_test r a b c)))) apart_test_lem r h) a) b) c)
    e

-- the names whose columns are the same
unfoldable stays : List ℕ → List ℕ → Names
stays columns columns' u = eqb (column_at columns (first_name + u)) (column_at columns' (first_name + u))

module _ {nodes : List ℕ} {count n : ℕ} {reach columns words : List ℕ} (r : Ready nodes count n reach columns words) where
  mask : (i : ℕ) → i < count → entry_of reach i ≡ reach_at (node_at nodes) i
  mask i h = ap (λ (l : List ℕ). entry_of l i) r.reached ∙ table_at (node_at nodes) count i r.given.few_nodes h

  alike : (σ : Trace) (μ μ' : Marks) (i : ℕ) (names : Names) → length σ ≡ n → i < count
      → covers (reach_at (node_at nodes) i) names ≡ true → ((u : ℕ) → names u ≡ true → (t : ℕ) → t < n → μ u t ≡ μ' u t)
      → Table (node_at nodes) σ μ n words i → Table (node_at nodes) σ μ' n words i
  alike σ μ μ' i names long h = table_alike r.given.signals r.given.names count (node_at nodes) n σ μ μ' words i names long (nodes_kept r.given) h

  -- right words stay right but for the nodes that reach a name put elsewhere
  module _ (cycles : List ℕ) where
    long : length columns ≡ 19
    long = r.given.columned.all

    same : ℕ → Bool
    same u = eqb (column_at columns (first_name + u)) (marked_at (get_or cycles u 0))

    moved_is : changed_names columns cycles ≡ moved_by (same 0) (same 1) (same 2)
    unfolding moved_by changed_names changed same name_mask
    moved_is =
        let one = with_name columns 0 (get_or cycles 0 0) in
        let one-long = name_long columns 0 (get_or cycles 0 0) (omega arith) long in
        rw (
          name_elsewhere one 1 (get_or cycles 1 0) (omega arith) one-long 18 (λ e. omega arith),
          name_elsewhere columns 0 (get_or cycles 0 0) (omega arith) long 18 (λ e. omega arith),
          name_elsewhere columns 0 (get_or cycles 0 0) (omega arith) long 17 (λ e. omega arith),
        )

    covers_stays : (z : ℕ) → covered z (same 0) (same 1) (same 2) ≡ true → covers z (stays columns (with_names columns cycles)) ≡ true
    unfolding covered covers stays same standing
    covers_stays z c =
        rw (names_at columns cycles long 0 (omega arith), names_at columns cycles long 1 (omega arith), names_at columns cycles long 2 (omega arith)) c

    kept_moved : Tables (node_at nodes) count n columns words → Kept (node_at nodes) count n reach (changed_names columns cycles) (with_names columns cycles) words
    unfolding apart stays marks_of
    kept_moved t =
        record {
          kept = λ i h a.
              let z = reach_at (node_at nodes) i in
              subst (λ (σ : Trace). Table (node_at nodes) σ (marks_of (with_names columns cycles)) n words i) (sym (names_told columns cycles long n))
              (alike (trace_of n columns) (marks_of columns) (marks_of (with_names columns cycles)) i (stays columns (with_names columns cycles)) (told_length n columns) h
              (covers_stays z
              (apart_covers z (same 0) (same 1) (same 2) (reach_small (node_at nodes) i)
              (subst (λ (w : ℕ). eqb (bit_and (joint z 8) w) 0 ≡ true) moved_is (subst (λ (w : ℕ). eqb (bit_and (joint w 8) (changed_names columns cycles)) 0 ≡ true) (mask i h) a))))
              (λ u w t l. stayed u w t) (t.table i h));
        }
      where
        stayed : (u : ℕ) → stays columns (with_names columns cycles) u ≡ true → (t : ℕ) → marks_of columns u t ≡ marks_of (with_names columns cycles) u t
        stayed u w t = ap (λ (c : ℕ). bit c t) (eqb-true _ _ w)

    -- what `fill` is given once the names are put there
    pub moved_ready : (columns' : List ℕ) (moved : ℕ) → Inside n cycles → columns' ≡ with_names columns cycles
        → moved ≡ changed_names columns cycles → Tables (node_at nodes) count n columns words
        → Given nodes count n columns' words × Kept (node_at nodes) count n reach moved columns' words
    moved_ready columns' moved inside e f t =
        rw (e, f) (given_other (with_names columns cycles) words (names_columns cycles r.given.few_cycles inside r.given.columned) refl r.given, kept_moved t)

-- on the first fill no node has its table yet
pub kept_none : {x : ℕ → Node} {count n : ℕ} {columns words : List ℕ} → count ≤ 64 → Kept x count n (replicate 64 0) 8 columns words
unfolding apart entry_of joint
kept_none few =
    record {
      kept = λ i h a.
          let none : eqb (bit_and (bit_or (get_or (replicate 64 0) i 0) 8) 8) 0 ≡ false =
          ap (λ (z : ℕ). eqb (bit_and (bit_or z 8) 8) 0) (get_or-replicate 64 i 0 0 (omega arith)) in
          absurd (true≢false (sym a ∙ none));
    }

-- tables with the three names on cycles are those of that placement
pub table_placed : {nodes : List ℕ} {count n : ℕ} {reach words : List ℕ} (columns cycles : List ℕ) → Ready nodes count n reach (with_names columns cycles) words
    → length columns ≡ 19 → Tables (node_at nodes) count n (with_names columns cycles) words
    → (i : ℕ) → i < count → Table (node_at nodes) (trace_of n columns) (marks (standing cycles)) n words i
unfolding covers
table_placed {nodes} {count} {n} {reach} {words} columns cycles r long t i h =
    alike r (trace_of n columns) (marks_of (with_names columns cycles)) (marks (standing cycles)) i (λ u. ltb u 3) (told_length n columns) h
    (every_name (bit (reach_at (node_at nodes) i) 0) (bit (reach_at (node_at nodes) i) 1) (bit (reach_at (node_at nodes) i) 2))
    (λ u w t l. let few = r.given.few_cycles in names_marked columns cycles long u t (ltb-true u 3 w) (omega arith))
    (subst (λ (σ : Trace). Table (node_at nodes) σ (marks_of (with_names columns cycles)) n words i) (names_told columns cycles long n) (t.table i h))
  where
    every_name : (a b c : Bool) → ((not a || true) && ((not b || true) && (not c || true))) ≡ true
    every_name true true true = refl
    every_name true true false = refl
    every_name true false true = refl
    every_name true false false = refl
    every_name false true true = refl
    every_name false true false = refl
    every_name false false true = refl
    every_name false false false = refl
