-- Laws of columns: those of a stored trace tell its cycles.
use Rattle.std.proofs.Common.{ℕ, ◌+◌, ◌≤◌, ◌<◌, true, false, List, inl, inr, ◌≡◌, refl, sym, ◌∙◌, ap, arith, ltb-true, ltb-false, bit_or, ltb, eqb, length, pow_pos, ext_get_or}
use lib.ListN.{get_or-eq_default}
use Rattle.semantics.specs.Proposition.{bit, signal_at}
use Rattle.semantics.proofs.Tests.{test}
use Rattle.rows.specs.Row.{word}
use Rattle.rows.proofs.Bits.{bit_above, bit_nothing}
use Rattle.rows.proofs.Rows.{word_small, word_bit, is_word_lem, wider, word_set, word_unset}
use Rattle.stored.specs.Bytes.{in_order}
use Rattle.traces.specs.Trace.{cycle_count, cycle_at, cycles_of}
use Rattle.traces.specs.Columns.{column_count, first_name, column_at, signal_column, columns_of, IsColumns, trace_of, marks_of}
use Rattle.stored.specs.Tree.{earlier}
use Rattle.stored.proofs.Rules.{length_in_order, get_or_in_order}
use Rattle.stored.proofs.Made.{earlier_at, earlier_not}
use Rattle.traces.proofs.Accepted.{TraceOpened, cycles_count, cycles_at}

-- the column of a signal, a cycle at a time
pub signal_none : (trace : List ℕ) (k : ℕ) → 0 ≡ signal_column trace 0 k
unfolding signal_column word
signal_none trace k = refl

pub signal_set : (trace : List ℕ) (t k : ℕ) → t < 64 → bit (cycle_at trace t) k ≡ true → bit_or (signal_column trace t k) (word 64 (eqb t)) ≡ signal_column trace (t + 1) k
unfolding signal_column
signal_set trace t k l e = word_set 64 t (λ t. bit (cycle_at trace t) k) l e

pub signal_unset : (trace : List ℕ) (t k : ℕ) → bit (cycle_at trace t) k ≡ false → signal_column trace t k ≡ signal_column trace (t + 1) k
unfolding signal_column
signal_unset trace t k e = word_unset t (λ t. bit (cycle_at trace t) k) e

-- what columns tell of one signal at one cycle
pub told_signal : (n : ℕ) (columns : List ℕ) (k t : ℕ) → k < 16 → t < n → signal_at (trace_of n columns) k t ≡ bit (column_at columns k) t
unfolding signal_at trace_of
told_signal n columns k t h l =
    ap (λ (w : ℕ). bit w k) (get_or_in_order n (λ t. word first_name (λ k. bit (column_at columns k) t)) t 0 l)
    ∙ word_bit first_name (λ k. bit (column_at columns k) t) k h

pub told_length : (n : ℕ) (columns : List ℕ) → length (trace_of n columns) ≡ n
unfolding trace_of
told_length n columns = length_in_order n (λ t. word first_name (λ k. bit (column_at columns k) t))

-- columns with the same signals tell the same trace
pub told_same : (n : ℕ) (columns columns' : List ℕ) → ((k : ℕ) → k < 16 → column_at columns k ≡ column_at columns' k) → trace_of n columns ≡ trace_of n columns'
unfolding trace_of
told_same n columns columns' same =
    ext_get_or 0 (trace_of n columns) (trace_of n columns') (told_length n columns ∙ sym (told_length n columns'))
    (λ t h. let less : t < n = omega (arith, told_length n columns) in
    get_or_in_order n (λ t. word first_name (λ k. bit (column_at columns k) t)) t 0 less
    ∙ Rattle.rows.proofs.Rows.word_ext first_name (λ k. bit (column_at columns k) t) (λ k. bit (column_at columns' k) t) (λ k l. ap (λ (w : ℕ). bit w t) (same k l))
    ∙ sym (get_or_in_order n (λ t. word first_name (λ k. bit (column_at columns' k) t)) t 0 less))

-- ---- the columns of a stored trace
module _ (s n : ℕ) (t : List ℕ) where
  -- a column from s up is empty
  column_past : (k : ℕ) → s ≤ k → column_at (columns_of s n t) k ≡ 0
  unfolding column_at columns_of
  column_past k h =
      elim (test (ltb k column_count)) [
        | inl l ↦ get_or_in_order column_count (earlier s 0 (signal_column t n)) k 0 (ltb-true k column_count l) ∙ earlier_not s 0 (signal_column t n) k h
        | inr l ↦ get_or-eq_default (in_order column_count (earlier s 0 (signal_column t n))) 0
            (omega (arith, ltb-false k column_count l, length_in_order column_count (earlier s 0 (signal_column t n))))
      ]

  column_signal : (k : ℕ) → s ≤ 16 → k < s → column_at (columns_of s n t) k ≡ signal_column t n k
  unfolding column_at columns_of
  column_signal k few h = get_or_in_order column_count (earlier s 0 (signal_column t n)) k 0 (omega arith) ∙ earlier_at s 0 (signal_column t n) k h

  pub are_columns : s ≤ 16 → IsColumns n (columns_of s n t)
  unfolding columns_of signal_column
  are_columns few =
      record {
        all = length_in_order column_count (earlier s 0 (signal_column t n));
        short = λ k. elim (test (ltb k s)) [
          | inl l ↦ rw (column_signal k few (ltb-true k s l)) (word_small n (λ i. bit (cycle_at t i) k))
          | inr l ↦ rw (column_past k (ltb-false k s l)) (pow_pos n)
        ];
      }

  -- they tell the trace's cycles
  pub columns_tell : s ≤ 16 → cycle_count t ≡ n → TraceOpened s t → trace_of n (columns_of s n t) ≡ cycles_of t
  unfolding trace_of signal_column
  columns_tell few many o =
      ext_get_or 0 (trace_of n (columns_of s n t)) (cycles_of t) (told_length n (columns_of s n t) ∙ sym many ∙ sym (cycles_count t))
      (λ i h. let less : i < n = omega (arith, told_length n (columns_of s n t)) in
      get_or_in_order n (λ i. word first_name (λ k. bit (column_at (columns_of s n t) k) i)) i 0 less
      ∙ sym (is_word_lem first_name (cycle_at t i) (λ k. bit (column_at (columns_of s n t) k) i)
      (wider s first_name (cycle_at t i) few (o.cycle_small i (omega arith))) (λ k _. told i k less))
      ∙ sym (cycles_at t i (omega arith)))
    where
      told : (i k : ℕ) → i < n → bit (cycle_at t i) k ≡ bit (column_at (columns_of s n t) k) i
      told i k less =
          elim (test (ltb k s)) [
            | inl l ↦ rw (column_signal k few (ltb-true k s l)) (sym (word_bit n (λ i. bit (cycle_at t i) k) i less))
            | inr l ↦ rw (column_past k (ltb-false k s l))
                (bit_above s (cycle_at t i) k (o.cycle_small i (omega arith)) (ltb-false k s l) ∙ sym (bit_nothing i))
          ]

  -- and mark no name
  pub columns_unmarked : s ≤ 16 → (u i : ℕ) → marks_of (columns_of s n t) u i ≡ false
  unfolding marks_of
  columns_unmarked few u i = ap (λ (w : ℕ). bit w i) (column_past (first_name + u) (omega arith)) ∙ bit_nothing i
