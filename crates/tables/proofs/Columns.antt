-- Laws of columns: what a node's column is, and the columns of names that stand on cycles.
use Rattle.std.proofs.Common.{ℕ, zero, suc, ◌+◌, ◌-◌, ◌^◌, ◌≤◌, ◌<◌, Bool, true, ◌&&◌, List, ◌⊎◌, inl, inr, ◌≡◌, refl, sym, ◌∙◌, ap, ap₂, subst, arith, eqb-true, ltb-true, ltb-false, lt-ltb, bit_or, ltb, eqb, length, get_or, length-set, get_or-set_same, get_or-set_other}
use Rattle.semantics.specs.Proposition.{Trace, Marks, bit, signal_at}
use Rattle.semantics.specs.Placement.{marks}
use Rattle.semantics.proofs.Tests.{test, and_false_right}
use Rattle.rows.specs.Row.{word}
use Rattle.rows.proofs.Rows.{word_small, word_bit, is_word_lem, is_word_in}
use Rattle.stored.specs.declared.Node.{Node}
use Rattle.traces.specs.Columns.{first_name, column_at, IsColumns, trace_of, marks_of}
use Rattle.stored.specs.Reach.{joint}
use Rattle.stored.specs.Tree.{proposition_op}
use Rattle.traces.proofs.Columns.{told_signal, told_same}
use Rattle.tables.specs.Table.{standing, Inside}
use Rattle.tables.specs.Step.{column_of}
use Rattle.tables.specs.Ready.{marked_at, with_name, changed, with_names, changed_names}

-- the column of a node whose op is told
pub column_told : (x : Node) (k n : ℕ) (columns words : List ℕ) (v : ℕ) → x.op ≡ k
    → v ≡ column_of (proposition_op k) x n columns words → v ≡ column_of (proposition_op x.op) x n columns words
column_told x k n columns words v e f = f ∙ ap (λ (j : ℕ). column_of (proposition_op j) x n columns words) (sym e)

-- columns of n cycles are those of what they tell
pub record Tells (n : ℕ) (columns : List ℕ) (σ : Trace) (μ : Marks) : Type 0 where
  pub signal : (k : ℕ) → k < 16 → column_at columns k ≡ word n (λ t. signal_at σ k t)
  pub name : (u : ℕ) → column_at columns (first_name + u) ≡ word n (λ t. μ u t)

pub tells : (n : ℕ) (columns : List ℕ) → IsColumns n columns → Tells n columns (trace_of n columns) (marks_of columns)
unfolding marks_of
tells n columns c =
    record {
      signal = λ k h. is_word_lem n (column_at columns k) (λ t. signal_at (trace_of n columns) k t) (c.short k) (λ t l. sym (told_signal n columns k t h l));
      name = λ u. is_word_lem n (column_at columns (first_name + u)) (λ t. bit (column_at columns (first_name + u)) t) (c.short (first_name + u)) (λ t l. refl);
    }

-- a name on cycle t has a column of n cycles
only_in : (n p : ℕ) → n ≤ 64 → p < n → word 64 (eqb p) ≡ word n (eqb p)
only_in n p l h =
    is_word_in 64 n (word 64 (eqb p)) (eqb p) l (word_small 64 (eqb p)) (λ k m. word_bit 64 (eqb p) k m ∙ here k)
  where
    here : (k : ℕ) → eqb p k ≡ (ltb k n && eqb p k)
    here k =
        elim (test (eqb p k)) [
          | inl e ↦ (
              let same = eqb-true p k e in
              let inside : ltb k n ≡ true = lt-ltb k n (omega arith) in
              ap (λ (c : Bool). c && eqb p k) (sym inside))
          | inr e ↦ e ∙ sym (and_false_right (ltb k n) (eqb p k) e)
        ]

marked_small : (n t : ℕ) → n ≤ 64 → t < n → marked_at t < 2 ^ n
unfolding marked_at
marked_small n t l h = rw (only_in n t l h) (word_small n (eqb t))

-- ---- one name put on a cycle
module _ (columns : List ℕ) (u t : ℕ) (h : u < 3) (long : length columns ≡ 19) where
  pub name_there : column_at (with_name columns u t) (first_name + u) ≡ marked_at t
  unfolding column_at with_name
  name_there = get_or-set_same columns (first_name + u) (marked_at t) 0 (omega arith)

  pub name_elsewhere : (k : ℕ) → (k ≡ first_name + u → ⊥) → column_at (with_name columns u t) k ≡ column_at columns k
  unfolding column_at with_name
  name_elsewhere k ne = get_or-set_other columns (first_name + u) k (marked_at t) 0 ne

  pub name_long : length (with_name columns u t) ≡ 19
  unfolding with_name
  name_long = length-set columns (first_name + u) (marked_at t) ∙ long

-- ---- the three names on the cycles of a list
module _ (columns cycles : List ℕ) (long : length columns ≡ 19) where
  abbrev one : List ℕ
  one = with_name columns 0 (get_or cycles 0 0)

  abbrev two : List ℕ
  two = with_name one 1 (get_or cycles 1 0)

  long_one : length one ≡ 19
  long_one = name_long columns 0 (get_or cycles 0 0) (omega arith) long

  long_two : length two ≡ 19
  long_two = name_long one 1 (get_or cycles 1 0) (omega arith) long_one

  pub names_long : length (with_names columns cycles) ≡ 19
  unfolding with_names
  names_long = name_long two 2 (get_or cycles 2 0) (omega arith) long_two

  -- the columns of the signals stay
  pub names_signal : (k : ℕ) → (k < 16) ⊎ (18 < k) → column_at (with_names columns cycles) k ≡ column_at columns k
  unfolding with_names
  names_signal k h =
      name_elsewhere two 2 (get_or cycles 2 0) (omega arith) long_two k (λ e. off {u = 2} h e (omega arith))
      ∙ name_elsewhere one 1 (get_or cycles 1 0) (omega arith) long_one k (λ e. off {u = 1} h e (omega arith))
      ∙ name_elsewhere columns 0 (get_or cycles 0 0) (omega arith) long k (λ e. off {u = 0} h e (omega arith))
    where
      off : {k u : ℕ} → (k < 16) ⊎ (18 < k) → k ≡ 16 + u → u < 3 → ⊥
      off (inl a) e l = omega arith
      off (inr a) e l = omega arith

  pub names_at : (u : ℕ) → u < 3 → column_at (with_names columns cycles) (first_name + u) ≡ marked_at (standing cycles u)
  unfolding with_names standing
  names_at zero h =
      name_elsewhere two 2 (get_or cycles 2 0) (omega arith) long_two 16 (λ e. omega arith)
      ∙ name_elsewhere one 1 (get_or cycles 1 0) (omega arith) long_one 16 (λ e. omega arith)
      ∙ name_there columns 0 (get_or cycles 0 0) (omega arith) long
  names_at (suc zero) h =
      name_elsewhere two 2 (get_or cycles 2 0) (omega arith) long_two 17 (λ e. omega arith)
      ∙ name_there one 1 (get_or cycles 1 0) (omega arith) long_one
  names_at (suc (suc zero)) h = name_there two 2 (get_or cycles 2 0) (omega arith) long_two
  names_at (suc (suc (suc u))) h = absurd (omega arith)

  -- they tell the same trace
  pub names_told : (n : ℕ) → trace_of n (with_names columns cycles) ≡ trace_of n columns
  names_told n = told_same n (with_names columns cycles) columns (λ k h. names_signal k (inl h))

-- the names put one after another
pub names_put : (columns one two three cycles : List ℕ) (a b c : ℕ) → a ≡ changed columns 0 (get_or cycles 0 0) → one ≡ with_name columns 0 (get_or cycles 0 0)
    → b ≡ changed one 1 (get_or cycles 1 0) → two ≡ with_name one 1 (get_or cycles 1 0) → c ≡ changed two 2 (get_or cycles 2 0) → three ≡ with_name two 2 (get_or cycles 2 0)
    → (bit_or a (bit_or b c) ≡ changed_names columns cycles) × (three ≡ with_names columns cycles)
unfolding changed_names with_names joint
names_put columns one two three cycles a b c ea e₁ eb e₂ ec e₃ =
    let f₂ = e₂ ∙ ap (λ (l : List ℕ). with_name l 1 (get_or cycles 1 0)) e₁ in (
      ap₂ bit_or ea (ap₂ bit_or (eb ∙ ap (λ (l : List ℕ). changed l 1 (get_or cycles 1 0)) e₁) (ec ∙ ap (λ (l : List ℕ). changed l 2 (get_or cycles 2 0)) f₂)),
      e₃ ∙ ap (λ (l : List ℕ). with_name l 2 (get_or cycles 2 0)) f₂,
    )

pub inside_all : {n : ℕ} {cycles : List ℕ} → n ≤ 64 → Inside n cycles → Inside 64 cycles
inside_all few i = record { stands = λ u h. let l = i.stands u h in omega arith }

-- they are columns of as many cycles
pub names_columns : {n : ℕ} {columns : List ℕ} (cycles : List ℕ) → n ≤ 64 → Inside n cycles → IsColumns n columns
    → IsColumns n (with_names columns cycles)
names_columns {n} {columns} cycles few inside c = record { all = names_long columns cycles c.all; short = short }
  where
    short : (k : ℕ) → column_at (with_names columns cycles) k < 2 ^ n
    short k =
        elim (test (ltb k 16)) [
          | inl e ↦ rw (names_signal columns cycles c.all k (inl (ltb-true k 16 e))) (c.short k)
          | inr e ↦ elim (test (ltb 18 k)) [
            | inl f ↦ rw (names_signal columns cycles c.all k (inr (ltb-true 18 k f))) (c.short k)
            | inr f ↦
                let low = ltb-false k 16 e in
                let high = ltb-false 18 k f in
                let same : first_name + (k - 16) ≡ k = omega arith in
                subst (λ (j : ℕ). column_at (with_names columns cycles) j < 2 ^ n) same
                (rw (names_at columns cycles c.all (k - 16) (omega arith)) (marked_small n (standing cycles (k - 16)) few (inside.stands (k - 16) (omega arith))))
          ]
        ]

-- and mark the names where they stand
pub names_marked : (columns cycles : List ℕ) → length columns ≡ 19 → (u t : ℕ) → u < 3 → t < 64 → marks_of (with_names columns cycles) u t ≡ marks (standing cycles) u t
unfolding marks_of marks marked_at
names_marked columns cycles long u t h l =
    ap (λ (w : ℕ). bit w t) (names_at columns cycles long u h) ∙ word_bit 64 (eqb (standing cycles u)) t l
