-- The check's answer from what was read: refused by the lowest number, or the verdict.
use Rattle.std.proofs.Common.{ℕ, zero, suc, ◌^◌, ◌≤◌, ◌<◌, arith, true, List, ◌≡◌, refl, sym, ap, ◌∙◌, length, Ok}
use Rattle.stored.specs.Layout.{least_words}
use Rattle.semantics.specs.Proposition.{Trace}
use Rattle.semantics.specs.Clause.{Clause}
use Rattle.semantics.specs.Verdict.{verdict}
use Rattle.semantics.specs.Reach.{clause_fits, all_fit}
use Rattle.semantics.proofs.Tests.{and_left, and_right}
use Rattle.stored.specs.declared.Header.{Header}
use Rattle.stored.specs.declared.StoredClause.{StoredClause}
use Rattle.stored.specs.Bytes.{in_order}
use Rattle.traces.specs.Columns.{columns_of, trace_of}
use Rattle.stored.specs.Node.{formula, node_at, requirement_sorts}
use Rattle.stored.specs.Clause.{stored_at, clause_of, parts_used}
use Rattle.stored.specs.Sheet.{header_of, node_part, clause_part, nodes_of, stored_of, clause_in, clauses_of, sheet_answer}
use Rattle.traces.specs.Trace.{cycles_of, trace_answer}
use Rattle.stored.proofs.Refusals.{answered_value}
use Rattle.stored.proofs.Tree.{Earlier}
use Rattle.stored.proofs.Accepted.{Opened, ClauseKept, clauses_kept, accepted_fits, type_cases, mask_small, open_answer_lem, answer_accepted, length_clauses}
use Rattle.checker.specs.declared.check.Verdict.{Verdict}
use Rattle.checker.specs.Table.{words_refusal}
use Rattle.places.specs.Task.{task_of}
use Rattle.places.specs.Laid.{IsFormula, Formulas}
use Rattle.checker.specs.Check.{told_whole, check_refusal, check_answer}
use Rattle.checker.specs.Clauses.{Sound, Sounds, clause_at}
use Rattle.checker.proofs.Opened.{told_accepted}
use Rattle.checker.proofs.Refusals.{words_many, after_trace}

-- ---- the verdict
module _ (s t words : List ℕ) (h : Header) (accepted : sheet_answer s ≡ Ok h) (n : ℕ) (cycled : trace_answer h.signals t ≡ Ok n) where
  pub check_verdict : (nodes clauses columns : List ℕ) (v : Verdict) → least_words ≤ length words → nodes ≡ node_part s → clauses ≡ clause_part s
      → columns ≡ columns_of h.signals n t → v ≡ told_whole (verdict (in_order h.clauses (clause_at nodes clauses)) (trace_of n columns))
      → (Ok v ≡ check_answer s t words) × (check_refusal s t words ≡ 0)
  unfolding check_answer check_refusal clauses_of clause_in nodes_of stored_of clause_at
  check_verdict nodes clauses columns v l en ec er ev =
      let none : check_refusal s t words ≡ 0 = after_trace s t (words_refusal words) h accepted n cycled ∙ words_many words l in
      let same = (answer_accepted s h accepted).1 in (
        ap Ok
            (ev
            ∙ ap (λ (σ : Trace). told_whole (verdict (in_order h.clauses (λ k. clause_of (node_at nodes) (stored_at clauses k))) σ)) (told_accepted s t h n accepted cycled columns er)
            ∙ ap (λ (x : List ℕ). told_whole (verdict (in_order h.clauses (λ k. clause_of (node_at x) (stored_at clauses k))) (cycles_of t))) en
            ∙ ap (λ (x : List ℕ). told_whole (verdict (in_order h.clauses (λ k. clause_of (node_at (node_part s)) (stored_at x k))) (cycles_of t))) ec
            ∙ ap (λ (g : Header). told_whole (verdict (in_order g.clauses (λ k. clause_of (node_at (node_part s)) (stored_at (clause_part s) k))) (cycles_of t))) (sym same))
            ∙ answered_value (check_refusal s t words) _ none,
        none,
      )

-- ---- the clauses of an accepted sheet
formula_at_lem : (s : List ℕ) {root : ℕ} → Earlier requirement_sorts (nodes_of s) (header_of s).nodes root formula → IsFormula (node_part s) (header_of s).nodes root
unfolding nodes_of
formula_at_lem s e = record { below = e.less; sort = e.sorted }

task_formulas : (s : List ℕ) (d : StoredClause) → ClauseKept (nodes_of s) (header_of s).nodes (header_of s).names d → Formulas (node_part s) (header_of s).nodes (task_of d)
unfolding task_of parts_used
task_formulas s d k =
    type_cases (λ n. d.clause_type ≡ n → Formulas (node_part s) (header_of s).nodes (task_of d))
    (λ e. record { premise = rw e (formula_at_lem s (k.part1.root_found (rw e))); third = rw e (formula_at_lem s (k.part1.root_found (rw e))); reply = rw e (formula_at_lem s (k.part1.root_found (rw e))) })
    (λ e. record { premise = rw e (formula_at_lem s (k.part2.root_found (rw e))); third = rw e (formula_at_lem s (k.part1.root_found (rw e))); reply = rw e (formula_at_lem s (k.part1.root_found (rw e))) })
    (λ e. record { premise = rw e (formula_at_lem s (k.part1.root_found (rw e))); third = rw e (formula_at_lem s (k.part1.root_found (rw e))); reply = rw e (formula_at_lem s (k.part1.root_found (rw e))) })
    (λ e. record { premise = rw e (formula_at_lem s (k.part1.root_found (rw e))); third = rw e (formula_at_lem s (k.part1.root_found (rw e))); reply = rw e (formula_at_lem s (k.part2.root_found (rw e))) })
    (λ e. record { premise = rw e (formula_at_lem s (k.part1.root_found (rw e))); third = rw e (formula_at_lem s (k.part3.root_found (rw e))); reply = rw e (formula_at_lem s (k.part2.root_found (rw e))) })
    (λ e. record { premise = rw e (formula_at_lem s (k.part1.root_found (rw e))); third = rw e (formula_at_lem s (k.part3.root_found (rw e))); reply = rw e (formula_at_lem s (k.part2.root_found (rw e))) })
    d.clause_type k.type_least k.type_most refl

fits_at : (n : ℕ) (f : ℕ → Clause) → all_fit (in_order n f) ≡ true → (k : ℕ) → k < n → clause_fits (f k) ≡ true
unfolding all_fit in_order
fits_at zero f h k l = absurd (omega arith)
fits_at (suc n) f h zero l = and_left (clause_fits (f 0)) (all_fit (in_order n (λ i. f (suc i)))) h
fits_at (suc n) f h (suc k) l = fits_at n (λ i. f (suc i)) (and_right (clause_fits (f 0)) (all_fit (in_order n (λ i. f (suc i)))) h) k (omega arith)

mask_fits : (m mask : ℕ) → m ≤ 3 → mask < 2 ^ m → mask < 2 ^ 64
mask_fits m mask h l = let s = mask_small m mask h l in omega arith

sound_of : (s : List ℕ) → Opened s → (k : ℕ) → k < (header_of s).clauses → Sound (node_part s) (header_of s).nodes (stored_of s k)
unfolding clauses_of clause_in nodes_of
sound_of s o k l =
    let kept = clauses_kept s o k l in
    let few = o.in_range.few_names in
    record {
      type_least = kept.type_least;
      type_most = kept.type_most;
      role_most = kept.role_most;
      first_mask = mask_fits (header_of s).names (stored_of s k).mask1 few kept.part1.small;
      second_mask = mask_fits (header_of s).names (stored_of s k).mask2 few kept.part2.small;
      third_mask = mask_fits (header_of s).names (stored_of s k).mask3 few kept.part3.small;
      formulas = task_formulas s (stored_of s k) kept;
      fits = fits_at (header_of s).clauses (λ k. clause_of (nodes_of s) (stored_of s k)) (accepted_fits s o) k l;
    }

-- the clause part is long enough, and its clauses are sound
pub clauses_sound : (s : List ℕ) (h : Header) (nodes clauses : List ℕ) → sheet_answer s ≡ Ok h → nodes ≡ node_part s → clauses ≡ clause_part s
    → Sounds nodes h.nodes clauses h.clauses
unfolding stored_of
clauses_sound s h nodes clauses accepted en ec =
    let o = open_answer_lem s h accepted in
    let same = (answer_accepted s h accepted).1 in
    record {
      few = rw (← same) o.in_range.few_clauses;
      long = rw (ec, ← same) (let long = length_clauses s o in omega arith);
      sound = λ k l. rw (en, ec, ← same) (sound_of s o k (rw same l));
    }
