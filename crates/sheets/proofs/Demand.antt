-- Demand 3: what the contracts of translate and check ensure of their results gives the joint claim.
use Rattle.std.proofs.Common.{ℕ, ◌<◌, arith, not, List, ◌≡◌, refl, sym, ap, ◌∙◌, length, take, Result, Ok}
use Rattle.semantics.specs.Proposition.{Trace}
use Rattle.semantics.specs.Clause.{Clause}
use Rattle.semantics.specs.Verdict as semantics
use Rattle.semantics.specs.Verdict.{requirement, finding_of, verdict}
use Rattle.semantics.proofs.Tests.{not_not}
use Rattle.semantics.proofs.Verdict.{broken_exactly}
use Rattle.stored.specs.Sheet.{header_of, sheet_refusal, clauses_of, requirement_of}
use Rattle.traces.specs.Trace.{cycles_of, trace_refusal}
use Rattle.stored.specs.Emitted.{emitted_true}
use Rattle.stored.specs.Tree.{pick}
use Rattle.traces.proofs.Accepted.{trace_opened, cycles_count}
use Rattle.stored.specs.declared.refusal.Refusal.{Refusal}
use Rattle.stored.specs.Refusal.{answered}
use Rattle.checker.specs.declared.check.Verdict.{Verdict}
use Rattle.checker.specs.Table.{or_else, words_refusal}
use Rattle.checker.proofs.Bounds.{or_zero}
use Rattle.checker.specs.Check.{told, told_whole, check_refusal, check_answer}
use Rattle.stored.specs.Output.{written_length}
use Rattle.translator.specs.Refusal.{translate_refusal}
use Rattle.translator.specs.Translated.{Translated}
use Rattle.sheets.specs.Claim.{is_broken, says_broken, says_other, written, Joint}

told_broken : (f : semantics.Finding) → is_broken (told f) ≡ semantics.is_broken f
unfolding is_broken told semantics.is_broken
told_broken (semantics.Excused n) = refl
told_broken (semantics.Broken p) = refl
told_broken semantics.Holds = refl

-- the check says Broken exactly when the requirement is false, whatever the advice
says_broken_lem : (cs : List Clause) (σ : Trace) → is_broken (told_whole (verdict cs σ)).finding ≡ not (requirement cs σ)
unfolding told_whole verdict
says_broken_lem cs σ = told_broken (finding_of cs σ) ∙ broken_exactly cs σ

-- an accepted trace has a cycle
some_cycle : (s t words : List ℕ) → check_refusal s t words ≡ 0 → 0 < length (cycles_of t)
unfolding check_refusal
some_cycle s t words h =
    let rest = (or_zero (sheet_refusal s) (or_else (trace_refusal (header_of s).signals t) (words_refusal words)) h).1 in
    let o = trace_opened (header_of s).signals t (or_zero (trace_refusal (header_of s).signals t) (words_refusal words) rest).0 in
    omega (arith, o.some_cycles, cycles_count t)

verdict_told : (s t words : List ℕ) (v : Result Verdict Refusal) → v ≡ check_answer s t words → check_refusal s t words ≡ 0 → v ≡ Ok (told_whole (verdict (clauses_of s) (cycles_of t)))
unfolding check_answer answered pick
verdict_told s t words v e z = e ∙ rw z

required : (s : List ℕ) (σ : Trace) → requirement_of s σ ≡ requirement (clauses_of s) σ
unfolding requirement_of
required s σ = refl

-- the joint claim, for every sheet, every trace, the bytes written and the check's verdict
pub demand : (s x y : List ℕ) (r : Result ℕ Refusal) (t words : List ℕ) (v : Result Verdict Refusal) → Translated s x y r → v ≡ check_answer s t words
    → Joint s y r (length x) t words v
unfolding written says_broken says_other
demand s x y r t words v w e =
    record {
      form = λ a. (w.formula a).form;
      signals = λ a. (w.formula a).signals;
      names = λ a. (w.formula a).names;
      bound = λ a. (w.formula a).bound;
      agreement = λ a. (w.formula a).agreement;
      broken = λ a c. ap says_broken (verdict_told s t words v e c) ∙ says_broken_lem (clauses_of s) (cycles_of t) ∙ ap not (sym (agrees a c));
      other = λ a c.
          ap says_other (verdict_told s t words v e c) ∙ ap not (says_broken_lem (clauses_of s) (cycles_of t))
          ∙ not_not (requirement (clauses_of s) (cycles_of t)) ∙ sym (agrees a c);
    }
  where
    agrees : translate_refusal s (length x) ≡ 0 → check_refusal s t words ≡ 0
        → emitted_true (take (written_length r) y) (cycles_of t) ≡ requirement (clauses_of s) (cycles_of t)
    agrees a c = (w.formula a).agreement (cycles_of t) (some_cycle s t words c) ∙ required s (cycles_of t)
