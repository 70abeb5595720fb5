-- Laws of fills: the words of one node, of the nodes passed so far, and of the nodes that a moved name does not reach.
use Rattle.std.proofs.Common.{ℕ, zero, suc, ◌+◌, ◌-◌, ◌*◌, ◌^◌, ◌≤◌, ◌<◌, true, List, ◌++◌, inl, inr, ◌≡◌, refl, sym, ◌∙◌, ap, ap₂, subst, arith, leb-true, eqb-true, bit_and, bit_or, leb, ltb, eqb, length, get_or, set, take, drop, get_or-take, get_or-set_same, get_or-set_other}
use borrow.Author.Tests.{eqb-false}
use Rattle.semantics.specs.Proposition.{Proposition, Trace, Marks, bit, holds_at}
use Rattle.semantics.specs.Formula.{Formula, star, holds}
use Rattle.semantics.proofs.Tests.{test, and_right}
use Rattle.rows.specs.Row.{word, row, joined, starred}
use Rattle.rows.proofs.Joins.{starred_is}
use Rattle.rows.proofs.Formulas.{star_holds}
use Rattle.rows.proofs.Masks.{cut_bit}
use Rattle.stored.specs.declared.Node.{Node}
use Rattle.traces.specs.Columns.{IsColumns, trace_of, marks_of}
use Rattle.stored.specs.Node.{proposition, formula, requirement_sorts, sort_of, node_at}
use Rattle.stored.specs.Reach.{reach_at, reach_table}
use Rattle.stored.proofs.Rules.{length_in_order}
use Rattle.stored.specs.Tree.{earlier, proposition_op, formula_op, formula_of, proposition_at, formula_at}
use Rattle.stored.proofs.Tree.{operands, proposition_law, formula_law}
use Rattle.tables.specs.Table.{row_at, Table, Tables}
use Rattle.tables.specs.Ready.{Given, Ready, Before, Filled, Kept, apart}
use Rattle.tables.specs.Step.{column_of, first_column, second_column, row_of}
use Rattle.tables.specs.Step as step
use Rattle.tables.proofs.Rows.{joined_chosen}
use Rattle.tables.proofs.Columns.{tells}
use Rattle.tables.proofs.Uses.{joins_formula}
use Rattle.tables.proofs.Nodes.{operands_at, usable}
use Rattle.tables.proofs.Parts.{part_rows, part_beside}
use Rattle.tables.proofs.Meaning.{Column, Columns, column_is, Rows, Lines, line_is}

-- the rows from b on, and one more before them: as it stands, and as it is stored
pub one_there : {n : ℕ} (own : List ℕ) (b : ℕ) (want : ℕ → ℕ) → 0 < b → get_or own (b - 1) 0 ≡ want (b - 1)
    → ((c : ℕ) → b ≤ c → c < n → get_or own c 0 ≡ want c) → (c : ℕ) → b - 1 ≤ c → c < n → get_or own c 0 ≡ want c
one_there own b want p e later c l h =
    elim (test (eqb c (b - 1))) [
      | inl s ↦ subst (λ (d : ℕ). get_or own d 0 ≡ want d) (sym (eqb-true c (b - 1) s)) e
      | inr s ↦ (let other = eqb-false c (b - 1) s in later c (omega arith) h)
    ]

pub one_stored : {n : ℕ} (own : List ℕ) (b v : ℕ) (want : ℕ → ℕ) → 0 < b → b ≤ length own → v ≡ want (b - 1)
    → ((c : ℕ) → b ≤ c → c < n → get_or own c 0 ≡ want c) → (c : ℕ) → b - 1 ≤ c → c < n → get_or (set own (b - 1) v) c 0 ≡ want c
one_stored own b v want p long e later =
    one_there (set own (b - 1) v) b want p (get_or-set_same own (b - 1) v 0 (omega arith) ∙ e)
    (λ c l h. get_or-set_other own (b - 1) c v 0 (omega arith) ∙ later c l h)

-- a stored row leaves the others
pub row_other : (words : List ℕ) (i b v k c : ℕ) → b < 64 → c < 64 → (k ≡ i → c ≡ b → ⊥) → row_at (set words (64 * i + b) v) k c ≡ row_at words k c
unfolding row_at
row_other words i b v k c l m ne =
    get_or-set_other words (64 * i + b) (64 * k + c) v 0
    (λ e. let same : k ≡ i = omega arith in ne same (omega arith))

-- what is joined from a node's own rows after b stays, where row b is stored
pub joined_own : (words : List ℕ) (i b v links later : ℕ) → b < 64 → later ≡ bit_and links (2 ^ 64 - 1 - word 64 (λ e. ltb e (b + 1)))
    → joined later (row_at words i) ≡ joined later (row_at (set words (64 * i + b) v) i)
joined_own words i b v links later l e =
    joined_chosen later (row_at words i) (row_at (set words (64 * i + b) v) i)
    (λ c m s.
    let there = sym (cut_bit 64 links (b + 1) c m) ∙ ap (λ (x : ℕ). bit x c) (sym e) ∙ s in
    let past = leb-true (b + 1) c (and_right (bit links c) (leb (b + 1) c) there) in
    sym (row_other words i b v i c l m (λ _ y. absurd (omega arith))))

-- the same of the rows by themselves, where a row up to c is stored
pub joined_after : (own : List ℕ) (b v links c : ℕ) → b ≤ c
    → let later = bit_and links (2 ^ 64 - 1 - word 64 (λ e. ltb e (c + 1))) in
    joined later (λ k. get_or own k 0) ≡ joined later (λ k. get_or (set own b v) k 0)
joined_after own b v links c l =
    joined_chosen (bit_and links (2 ^ 64 - 1 - word 64 (λ e. ltb e (c + 1)))) (λ k. get_or own k 0) (λ k. get_or (set own b v) k 0)
    (λ k m s.
    let past = leb-true (c + 1) k (and_right (bit links k) (leb (c + 1) k) (sym (cut_bit 64 links (c + 1) k m) ∙ s)) in
    sym (get_or-set_other own b k v 0 (omega arith)))

pub starred_after : (own : List ℕ) (b v links c : ℕ) → b ≤ c → starred links (λ k. get_or own k 0) c ≡ starred links (λ k. get_or (set own b v) k 0) c
starred_after own b v links c l =
    sym (starred_is links (λ k. get_or own k 0) c)
    ∙ ap (bit_or (word 64 (eqb c))) (joined_after own b v links c l)
    ∙ starred_is links (λ k. get_or (set own b v) k 0) c

-- the nodes before i are right, and so are those that reach no moved name
pub record Sofar (x : ℕ → Node) (count : ℕ) (σ : Trace) (μ : Marks) (n : ℕ) (reach : List ℕ) (moved i : ℕ) (words : List ℕ) : Type 0 where
  pub right : (k : ℕ) → k < i → Table x σ μ n words k
  pub rest : (k : ℕ) → k < count → apart reach moved k ≡ true → Table x σ μ n words k

module _ {x : ℕ → Node} {σ : Trace} {μ : Marks} {n : ℕ} (few : n ≤ 64) where
  -- a node whose words stay keeps its table
  pub table_kept : (old new : List ℕ) (k : ℕ) → ((c : ℕ) → c < 64 → row_at new k c ≡ row_at old k c) → Table x σ μ n old k → Table x σ μ n new k
  table_kept old new k same t =
      record {
        rows = λ s b h. same b (omega arith) ∙ t.rows s b h;
        column = λ s. same 0 (omega arith) ∙ t.column s;
      }

  -- where node i was filled
  put_at_lem : (i : ℕ) (old new : List ℕ) (k : ℕ) → Filled x σ μ n i old new → ((k ≡ i → ⊥) → Table x σ μ n old k) → Table x σ μ n new k
  put_at_lem i old new k f t =
      elim (test (eqb k i)) [
        | inl s ↦ subst (λ (j : ℕ). Table x σ μ n new j) (sym (eqb-true k i s)) f.done
        | inr s ↦ (let ne = eqb-false k i s in table_kept old new k (λ c l. f.others k c l ne) (t ne))
      ]

  -- the words of the nodes before i, as a part of all words
  pub before_part : (i : ℕ) (words before : List ℕ) → before ≡ take (64 * i) words → Before x σ μ n words i → Before x σ μ n before i
  unfolding row_at
  before_part i words before e t =
      record {
        earlier = λ k l.
            table_kept words before k
            (λ c m. ap (λ (w : List ℕ). get_or w (64 * k + c) 0) e ∙ get_or-take (64 * i) words (64 * k + c) 0 (omega arith)) (t.earlier k l);
      }

  -- the words of node i written, in the part that is its own
  pub filled_part : (i : ℕ) (words before own rest : List ℕ) → 64 * i + 64 ≤ length words → length own ≡ 64 → before ≡ take (64 * i) words → rest ≡ drop (64 * i) words
      → (sort_of requirement_sorts (x i).op ≡ formula → (b : ℕ) → b < n → get_or own b 0 ≡ row n (holds (formula_at x i) σ μ) b)
      → (sort_of requirement_sorts (x i).op ≡ proposition → get_or own 0 0 ≡ word n (λ t. holds_at (proposition_at x i) σ μ t))
      → Filled x σ μ n i words (before ++ (own ++ drop 64 rest))
  filled_part i words before own rest inside long front back rows column =
      subst (λ (new : List ℕ). Filled x σ μ n i words new) (sym (ap₂ (λ (a b : List ℕ). a ++ (own ++ drop 64 b)) front back))
      (record {
        done = record {
          rows = λ s b l. part_rows (64 * i) 64 words own inside long i b refl (omega arith) ∙ rows s b l;
          column = λ s. part_rows (64 * i) 64 words own inside long i 0 refl (omega arith) ∙ column s;
        };
        others = λ k b l ne. part_beside (64 * i) 64 words own inside long i k b refl (omega arith) l ne;
      })

-- what is made of node i is right
module _ {nodes : List ℕ} {count n : ℕ} {columns words : List ℕ} (g : Given nodes count n columns words) (i : ℕ) (h : i < count) where
  abbrev σ : Trace
  σ = trace_of n columns

  abbrev μ : Marks
  μ = marks_of columns

  pub column_law : (old : List ℕ) → Before (node_at nodes) σ μ n old i → sort_of requirement_sorts (node_at nodes i).op ≡ proposition
      → column_of (proposition_op (node_at nodes i).op) (node_at nodes i) n columns old ≡ word n (λ t. holds_at (proposition_at (node_at nodes) i) σ μ t)
  unfolding Columns Column
  column_law old before s =
      let o = operands requirement_sorts (node_at nodes) i (operands_at g i h) in
      column_is (node_at nodes i) n columns σ μ old (tells n columns g.columned) g.few_cycles (proposition_at (node_at nodes)) (node_at nodes i).op s
      (usable g i h).a_signal_holds
      (λ e. (before.earlier (node_at nodes i).a (o.a_proposition e).less).column (o.a_proposition e).sorted)
      (λ e. (before.earlier (node_at nodes i).b (o.b_proposition e).less).column (o.b_proposition e).sorted)
      ∙ ap (λ (q : Proposition). word n (λ t. holds_at q σ μ t)) (sym (proposition_law requirement_sorts (node_at nodes) i (operands_at g i h)))

  pub row_law : (before : List ℕ) (first second b : ℕ) → b < n → Before (node_at nodes) σ μ n before i → sort_of requirement_sorts (node_at nodes i).op ≡ formula
      → first ≡ first_column (node_at nodes i).op (node_at nodes i) columns before
      → second ≡ second_column (node_at nodes i).op (node_at nodes i) columns → ((node_at nodes i).op ≡ 23 → ⊥)
      → row_of (formula_op (node_at nodes i).op) (node_at nodes i) n first second before i b ≡ row n (holds (formula_at (node_at nodes) i) σ μ) b
  unfolding Lines Column Rows
  row_law before first second b inside was s u v other =
      let o = operands requirement_sorts (node_at nodes) i (operands_at g i h) in
      line_is (node_at nodes i) n columns σ μ before (tells n columns g.columned) g.few_cycles (proposition_at (node_at nodes)) (formula_at (node_at nodes)) before
      first second i b inside (node_at nodes i).op s (usable g i h).a_signal_holds u v
      (λ d. (was.earlier (node_at nodes i).a (o.a_proposition d).less).column (o.a_proposition d).sorted)
      (λ d. (was.earlier (node_at nodes i).a (o.a_formula d).less).rows (o.a_formula d).sorted)
      (λ d. (was.earlier (node_at nodes i).b (o.b_formula d).less).rows (o.b_formula d).sorted)
      other
      ∙ ap (λ (f : Formula). row n (holds f σ μ) b)
      (sym (formula_law requirement_sorts (node_at nodes) i (operands_at g i h)))

  -- a star's rows, the last first
  pub star_law : (before own : List ℕ) → Before (node_at nodes) σ μ n before i → (node_at nodes i).op ≡ 23
      → ((b : ℕ) → b < n → get_or own b 0 ≡ starred (row_at before (node_at nodes i).a b) (λ k. get_or own k 0) b)
      → (b : ℕ) → b < n → get_or own b 0 ≡ row n (holds (formula_at (node_at nodes) i) σ μ) b
  unfolding formula_op formula_of
  star_law before own was op rows b inside = go n b (omega arith) inside
    where
      f : Formula
      f = formula_at (node_at nodes) (node_at nodes i).a

      law : formula_at (node_at nodes) i ≡ star f
      law = rw op at (formula_law requirement_sorts (node_at nodes) i (operands_at g i h))

      go : (k b : ℕ) → n ≤ b + k → b < n → get_or own b 0 ≡ row n (holds (formula_at (node_at nodes) i) σ μ) b
      go zero b l inside = absurd (omega arith)
      go (suc k) b l inside =
          let o = (operands requirement_sorts (node_at nodes) i (operands_at g i h)).a_formula (joins_formula (node_at nodes i).op (omega arith) (omega arith)) in
          rows b inside
          ∙ ap (λ (z : ℕ). starred z (λ k. get_or own k 0) b) ((was.earlier (node_at nodes i).a o.less).rows o.sorted b inside)
          ∙ star_holds n g.few_cycles σ μ b inside f (λ k. get_or own k 0) (λ c p q. go k c (omega arith) q ∙ ap (λ (f : Formula). row n (holds f σ μ) c) law)
          ∙ ap (λ (f : Formula). row n (holds f σ μ) b) (sym law)

  -- the rows of a formula node, which was read as y
  pub rows_right : (y : Node) (before own : List ℕ) → y ≡ node_at nodes i → sort_of requirement_sorts (node_at nodes i).op ≡ formula
      → Before (node_at nodes) σ μ n before i → step.Rows y i n columns before own
      → (b : ℕ) → b < n → get_or own b 0 ≡ row n (holds (formula_at (node_at nodes) i) σ μ) b
  rows_right y before own e s was made b inside =
      let op = ap (λ (x : Node). x.op) e in
      elim (test (eqb y.op 23)) [
        | inl t ↦ (
            let at = eqb-true y.op 23 t in
            star_law before own was (sym op ∙ at)
            (λ c l. made.star at c l ∙ ap (λ (x : Node). starred (row_at before x.a c) (λ k. get_or own k 0) c) e) b inside)
        | inr t ↦ (
            let other = eqb-false y.op 23 t in
            made.rows other b inside
            ∙ ap (λ (x : Node). row_of (formula_op x.op) x n (first_column x.op x columns before) (second_column x.op x columns) before i b) e
            ∙ row_law before _ _ b inside was s refl refl (λ o. other (op ∙ o)))
      ]

-- other columns, and other words of the same length
pub given_other : {nodes : List ℕ} {count n : ℕ} {columns old : List ℕ} (columns' new : List ℕ) → IsColumns n columns' → length new ≡ length old
    → Given nodes count n columns old → Given nodes count n columns' new
given_other columns' new c e g =
    record {
      signals = g.signals;
      names = g.names;
      few_signals = g.few_signals;
      few_names = g.few_names;
      few_nodes = g.few_nodes;
      nodes_long = g.nodes_long;
      fields = g.fields;
      operands = g.operands;
      some_cycles = g.some_cycles;
      few_cycles = g.few_cycles;
      columned = c;
      words_long = let l = g.words_long in omega arith;
    }

pub ready_other : {nodes : List ℕ} {count n : ℕ} {reach columns old : List ℕ} (columns' new : List ℕ) → IsColumns n columns' → length new ≡ length old
    → Ready nodes count n reach columns old → Ready nodes count n reach columns' new
ready_other columns' new c e r = record { given = given_other columns' new c e r.given; reached = r.reached }

-- the pass over the nodes
pub sofar_none : {x : ℕ → Node} {count n : ℕ} {reach : List ℕ} {moved : ℕ} {columns : List ℕ} (words : List ℕ) → Kept x count n reach moved columns words
    → Sofar x count (trace_of n columns) (marks_of columns) n reach moved 0 words
sofar_none words t = record { right = λ k l. absurd (omega arith); rest = t.kept }

pub sofar_all : {x : ℕ → Node} {count n : ℕ} {reach : List ℕ} {moved : ℕ} {columns : List ℕ} (i : ℕ) (words : List ℕ) → count ≤ i
    → Sofar x count (trace_of n columns) (marks_of columns) n reach moved i words → Tables x count n columns words
sofar_all i words l t = record { table = λ k m. t.right k (omega arith) }

module _ {x : ℕ → Node} {count : ℕ} {σ : Trace} {μ : Marks} {n : ℕ} {reach : List ℕ} {moved : ℕ} (few : n ≤ 64) where
  pub sofar_before : (i : ℕ) (words : List ℕ) → Sofar x count σ μ n reach moved i words → Before x σ μ n words i
  sofar_before i words t = record { earlier = t.right }

  pub sofar_put : (i : ℕ) (old new : List ℕ) → Filled x σ μ n i old new → Sofar x count σ μ n reach moved i old → Sofar x count σ μ n reach moved (i + 1) new
  sofar_put i old new f t =
      record {
        right = λ k l. put_at_lem few i old new k f (λ ne. t.right k (omega arith));
        rest = λ k l u. put_at_lem few i old new k f (λ ne. t.rest k l u);
      }

  pub sofar_skip : (i : ℕ) (words : List ℕ) → i < count → apart reach moved i ≡ true → Sofar x count σ μ n reach moved i words → Sofar x count σ μ n reach moved (i + 1) words
  sofar_skip i words l a t =
      record {
        right = λ k m.
            elim (test (eqb k i)) [
              | inl s ↦ subst (λ (j : ℕ). Table x σ μ n words j) (sym (eqb-true k i s)) (t.rest i l a)
              | inr s ↦ (let ne = eqb-false k i s in t.right k (omega arith))
            ];
        rest = t.rest;
      }

  -- a turn, where `got` has the words after it
  pub sofar_turn : (i : ℕ) (start old new got : List ℕ) → got ≡ new → length new ≡ length old → length old ≡ length start
      → Filled x σ μ n i old new → Sofar x count σ μ n reach moved i old → (length got ≡ length start) × Sofar x count σ μ n reach moved (i + 1) got
  sofar_turn i start old new got e l m f t =
      subst (λ (w : List ℕ). (length w ≡ length start) × Sofar x count σ μ n reach moved (i + 1) w) (sym e) (l ∙ m, sofar_put i old new f t)

  pub sofar_pass : (i : ℕ) (start old got : List ℕ) → got ≡ old → length old ≡ length start → i < count → apart reach moved i ≡ true
      → Sofar x count σ μ n reach moved i old → (length got ≡ length start) × Sofar x count σ μ n reach moved (i + 1) got
  sofar_pass i start old got e m l a t =
      subst (λ (w : List ℕ). (length w ≡ length start) × Sofar x count σ μ n reach moved (i + 1) w) (sym e) (m, sofar_skip i old l a t)

pub reach_long : {nodes : List ℕ} {count n : ℕ} {reach columns words : List ℕ} → Ready nodes count n reach columns words → length reach ≡ 64
unfolding reach_table
reach_long {nodes} {count} r = ap length r.reached ∙ length_in_order 64 (earlier count 0 (reach_at (node_at nodes)))
