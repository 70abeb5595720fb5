-- What an accepted sheet and trace give a fill.
use Rattle.std.proofs.Common.{ℕ, zero, suc, ◌+◌, ◌*◌, ◌≤◌, ◌<◌, List, ◌∷◌, inl, inr, ◌≡◌, refl, sym, ap, ap₂, subst, ◌∙◌, arith, ltb-true, ltb-false, ltb, length, Ok}
use Rattle.stored.specs.Layout.{least_words}
use Rattle.stored.specs.declared.Header.{Header}
use Rattle.stored.specs.Bytes.{in_order}
use Rattle.traces.specs.Columns.{columns_of, trace_of}
use Rattle.stored.specs.Node.{formula, requirement_sorts, sort_of, node_at, node_right, operands_right}
use Rattle.stored.specs.Sheet.{header_of, node_part, nodes_of, sheet_answer}
use Rattle.traces.specs.Trace.{cycle_count, cycles_of, trace_answer}
use Rattle.stored.proofs.Rules.{every_all}
use Rattle.stored.proofs.Accepted.{Opened, open_answer_lem, answer_accepted, length_nodes}
use Rattle.traces.proofs.Accepted.{TraceOpened, trace_opened, cycles_accepted}
use Rattle.traces.proofs.Columns.{told_length, are_columns, columns_tell}
use Rattle.stored.specs.Reach.{reach_table}
use Rattle.stored.specs.Tree.{earlier, formula_at}
use Rattle.stored.proofs.Made.{earlier_at, earlier_not}
use Rattle.semantics.specs.Formula.{holds}
use Rattle.semantics.specs.Placement.{marks}
use Rattle.semantics.proofs.Tests.{test}
use Rattle.rows.specs.Row.{row}
use Rattle.rows.proofs.Rows.{row_past}
use Rattle.tables.specs.Table.{standing, Inside, row_at, Table, Tables}
use Rattle.tables.specs.Ready.{Given, Ready, with_names}
use Rattle.tables.proofs.Columns.{names_columns}
use Rattle.tables.proofs.Fills.{given_other}
use Rattle.tables.proofs.Moves.{table_placed}
use Rattle.checker.specs.Table.{table_of}

module _ (s t : List ℕ) (o : Opened s) (r : TraceOpened (header_of s).signals t) where
  pub given_opened : (words : List ℕ) → least_words ≤ length words
      → Given (node_part s) (header_of s).nodes (cycle_count t) (columns_of (header_of s).signals (cycle_count t) t) words
  unfolding nodes_of node_right
  given_opened words l =
      let few = o.in_range.few_nodes in
      let long = length_nodes s o in
      record {
        signals = (header_of s).signals;
        names = (header_of s).names;
        few_signals = o.in_range.few_signals;
        few_names = o.in_range.few_names;
        few_nodes = o.in_range.few_nodes;
        nodes_long = omega arith;
        fields = every_all (header_of s).nodes (node_right requirement_sorts (header_of s).signals (header_of s).names (node_at (node_part s))) o.nodes_kept.fields;
        operands = every_all (header_of s).nodes (operands_right requirement_sorts (node_at (node_part s))) o.nodes_kept.operands_kept;
        some_cycles = r.some_cycles;
        few_cycles = r.few_cycles;
        columned = are_columns (header_of s).signals (cycle_count t) t o.in_range.few_signals;
        words_long = omega arith;
      }

  -- what its columns tell is the trace
  pub told_opened : trace_of (cycle_count t) (columns_of (header_of s).signals (cycle_count t) t) ≡ cycles_of t
  told_opened = columns_tell (header_of s).signals (cycle_count t) t o.in_range.few_signals refl r

-- the same of an accepted header and of how many cycles were counted
module _ (s t : List ℕ) (h : Header) (n : ℕ) (accepted : sheet_answer s ≡ Ok h) (cycled : trace_answer h.signals t ≡ Ok n) where
  same : header_of s ≡ h
  same = (answer_accepted s h accepted).1

  pub cycled_as : trace_answer (header_of s).signals t ≡ Ok n
  cycled_as = ap (λ (g : Header). trace_answer g.signals t) same ∙ cycled

  many : cycle_count t ≡ n
  many = (cycles_accepted (header_of s).signals t n cycled_as).1

  trace_is : TraceOpened (header_of s).signals t
  trace_is = trace_opened (header_of s).signals t (cycles_accepted (header_of s).signals t n cycled_as).0

  pub trace_fits : 2 * n + 4 ≤ length t
  trace_fits = let long = trace_is.trace_long in let e = many in omega arith

  pub few_signals : h.signals ≤ 16
  few_signals = subst (λ (g : Header). g.signals ≤ 16) same (open_answer_lem s h accepted).in_range.few_signals

  pub few_cycles : n ≤ 64
  few_cycles = subst (λ (k : ℕ). k ≤ 64) many trace_is.few_cycles

  module _ (columns : List ℕ) (read : columns ≡ columns_of h.signals n t) where
    pub given_accepted : (nodes words : List ℕ) → least_words ≤ length words → nodes ≡ node_part s → Given nodes h.nodes n columns words
    given_accepted nodes words l e =
        subst (λ (w : List ℕ). Given w h.nodes n columns words) (sym e)
        (subst (λ (w : List ℕ). Given (node_part s) h.nodes n w words) (sym read)
        (subst (λ (k : ℕ). Given (node_part s) h.nodes k (columns_of h.signals k t) words) many
        (subst (λ (g : Header). Given (node_part s) g.nodes (cycle_count t) (columns_of g.signals (cycle_count t) t) words) same
        (given_opened s t (open_answer_lem s h accepted) trace_is words l))))

    pub told_accepted : trace_of n columns ≡ cycles_of t
    told_accepted =
        subst (λ (w : List ℕ). trace_of n w ≡ cycles_of t) (sym read)
        (subst (λ (k : ℕ). trace_of k (columns_of h.signals k t) ≡ cycles_of t) many
        (subst (λ (g : Header). trace_of (cycle_count t) (columns_of g.signals (cycle_count t) t) ≡ cycles_of t) same
        (told_opened s t (open_answer_lem s h accepted) trace_is)))

-- lists in order whose entries are equal
pub in_order_same : (n : ℕ) (f g : ℕ → ℕ) → ((i : ℕ) → i < n → f i ≡ g i) → in_order n f ≡ in_order n g
unfolding in_order
in_order_same zero f g h = refl
in_order_same (suc n) f g h = ap₂ ◌∷◌ (h 0 (omega arith)) (in_order_same n (λ i. f (suc i)) (λ i. g (suc i)) (λ i l. h (suc i) (omega arith)))

-- the rows that are copied, zero past the last cycle, are the node's table
pub table_is : {nodes columns columns' words words' : List ℕ} {count n : ℕ} → Given nodes count n columns words → (cycles : List ℕ) → Inside n cycles
    → columns' ≡ with_names columns cycles → Tables (node_at nodes) count n columns' words' → length words' ≡ length words
    → (node : ℕ) → node < count → sort_of requirement_sorts (node_at nodes node).op ≡ formula
    → in_order 64 (earlier n 0 (row_at words' node)) ≡ table_of (node_at nodes) (trace_of n columns) node (standing cycles)
unfolding table_of
table_is {nodes} {columns} {columns'} {words} {words'} {count} {n} g cycles i e t same node h sort =
    in_order_same 64 (earlier n 0 (row_at words' node)) (row (length (trace_of n columns)) (holds (formula_at (node_at nodes) node) (trace_of n columns) (marks (standing cycles))))
    (λ k l. rw (told_length n columns) (elim (test (ltb k n)) [
      | inl q ↦ earlier_at n 0 (row_at words' node) k (ltb-true k n q) ∙ placed.rows sort k (ltb-true k n q)
      | inr q ↦ earlier_not n 0 (row_at words' node) k (ltb-false k n q) ∙ row_past n (holds (formula_at (node_at nodes) node) (trace_of n columns) (marks (standing cycles))) k (ltb-false k n q)
    ]))
  where
    ready : Ready nodes count n (reach_table (node_at nodes) count) (with_names columns cycles) words'
    ready = record { given = given_other (with_names columns cycles) words' (names_columns cycles g.few_cycles i g.columned) same g; reached = refl }

    placed : Table (node_at nodes) (trace_of n columns) (marks (standing cycles)) n words' node
    placed = table_placed columns cycles ready g.columned.all (subst (λ (m : List ℕ). Tables (node_at nodes) count n m words') e t) node h
