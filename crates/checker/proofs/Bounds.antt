-- How small the numbers of a verdict are, and that a refusal's number is one of the numbers that there are.
use Rattle.std.proofs.Common.{ℕ, suc, ◌+◌, ◌≤◌, ◌<◌, Bool, true, false, cond, List, [], ◌∷◌, inl, inr, ◌≡◌, refl, ap, ◌∙◌, arith, eqb-true, eqb, leb, length, length-append, pow_mono, lt_of_lt_of_le, Ok, Err, IfOk}
use borrow.Author.Tests.{eqb-false}
use Rattle.stored.specs.Layout.{least_words}
use Rattle.semantics.specs.Proposition.{Trace}
use Rattle.semantics.specs.Clause.{Role, assumption_role, commitment, Clause}
use Rattle.semantics.specs.Verdict as semantics
use Rattle.semantics.specs.Verdict.{finding_of, verdict}
use Rattle.semantics.proofs.Verdict.{FirstFailing, excused_first, broken_first}
use Rattle.semantics.proofs.Advice.{advice_small}
use Rattle.stored.specs.Bytes.{lowest}
use Rattle.stored.specs.Sheet.{header_of, nodes_of, clauses_of, clause_in, sheet_refusal, sheet_rules}
use Rattle.traces.specs.Trace.{cycles_of, cycle_count, trace_refusal, trace_rules}
use Rattle.stored.specs.Tree.{pick}
use Rattle.stored.proofs.Rules.{length_in_order, lowest_law}
use Rattle.stored.proofs.Accepted.{opened}
use Rattle.traces.proofs.Accepted.{trace_opened, cycles_count}
use Rattle.stored.specs.Refusal.{last_number, refusal_numbered, answered}
use Rattle.checker.specs.Table.{or_else, words_refusal, node_rules, node_refusal, table_refusal}
use Rattle.checker.specs.Check.{told, told_whole, check_refusal, check_answer}
use Rattle.checker.specs.Small.{SmallFinding, SmallVerdict}

-- refusals are numbers up to the last
pub lowest_small : (k : ℕ) (rules : List Bool) → 0 < k → k + length rules ≤ suc last_number → lowest k rules ≤ last_number
lowest_small k rules p h =
    elim (lowest_law k rules p).range [
      | inl e ↦ omega arith
      | inr u ↦ (let most = u.1 in omega arith)
    ]

pub or_small : (a b : ℕ) → a ≤ last_number → b ≤ last_number → or_else a b ≤ last_number
unfolding or_else
or_small a b p q = go (eqb a 0)
  where
    go : (t : Bool) → cond t b a ≤ last_number
    go true = q
    go false = p

pub table_small : (s t : List ℕ) (node p0 p1 p2 : ℕ) (words : List ℕ) → table_refusal s t node p0 p1 p2 words ≤ last_number
unfolding table_refusal words_refusal node_refusal node_rules sheet_refusal sheet_rules trace_refusal trace_rules
table_small s t node p0 p1 p2 words =
    or_small _ _ (lowest_small 1 (sheet_rules s) (omega arith) (omega arith))
    (or_small _ _ (lowest_small 10 (trace_rules (header_of s).signals t) (omega arith) (omega arith))
    (or_small _ _ (lowest_small 15 (leb least_words (length words) ∷ []) (omega arith) (omega arith))
    (lowest_small 16 (node_rules (nodes_of s) (header_of s).nodes (cycle_count t) (header_of s).names node p0 p1 p2) (omega arith) (omega arith))))

-- ---- a verdict's numbers
module _ (cs : List Clause) (σ : Trace) (few : length cs ≤ 8) (short : length σ ≤ 64) where
  -- the first failing clause is one of eight
  numbered : (r : Role) (number : ℕ) (c : Clause) → FirstFailing r 0 cs σ number c → number < 8
  numbered r number c w =
      let parts = ap length w.split ∙ length-append w.earlier (c ∷ w.later) in
      omega (arith, w.counted)

  finding_small : (f : semantics.Finding) → finding_of cs σ ≡ f → SmallFinding (told f)
  unfolding told
  finding_small (semantics.Excused clause) e = let w = excused_first cs σ clause e in numbered assumption_role clause w.0 w.1
  finding_small (semantics.Broken p) e =
      let w = broken_first cs σ p e in
      let at = w.place in
      (numbered commitment p.clause w.commitment_of w.failing, omega (arith, at.i_cycle), omega (arith, at.j_cycle), omega (arith, at.k_cycle))
  finding_small semantics.Holds e = omega arith

  verdict_small : SmallVerdict (told_whole (verdict cs σ))
  unfolding told_whole verdict
  verdict_small = (finding_small (finding_of cs σ) refl, lt_of_lt_of_le (advice_small cs σ) (pow_mono few))

-- ---- an answer's
pub or_zero : (a b : ℕ) → or_else a b ≡ 0 → (a ≡ 0) × (b ≡ 0)
unfolding or_else
or_zero a b e = go (eqb a 0) refl e
  where
    go : (t : Bool) → eqb a 0 ≡ t → cond t b a ≡ 0 → (a ≡ 0) × (b ≡ 0)
    go true s e = (eqb-true a 0 s, e)
    go false s e = absurd (eqb-false a 0 s e)

pub check_small : (s t words : List ℕ) → check_refusal s t words ≤ last_number
unfolding check_refusal words_refusal sheet_refusal sheet_rules trace_refusal trace_rules
check_small s t words =
    or_small _ _ (lowest_small 1 (sheet_rules s) (omega arith) (omega arith))
    (or_small _ _ (lowest_small 10 (trace_rules (header_of s).signals t) (omega arith) (omega arith))
    (lowest_small 15 (leb least_words (length words) ∷ []) (omega arith) (omega arith)))

accepted_small : (s t words : List ℕ) → check_refusal s t words ≡ 0 → SmallVerdict (told_whole (verdict (clauses_of s) (cycles_of t)))
unfolding check_refusal clauses_of
accepted_small s t words e =
    let sheet = or_zero (sheet_refusal s) (or_else (trace_refusal (header_of s).signals t) (words_refusal words)) e in
    let trace = or_zero (trace_refusal (header_of s).signals t) (words_refusal words) sheet.1 in
    let many = length_in_order (header_of s).clauses (clause_in s) in
    let few = (opened s sheet.0).in_range.few_clauses in
    let cycles = cycles_count t in
    let most = (trace_opened (header_of s).signals t trace.0).few_cycles in
    verdict_small (clauses_of s) (cycles_of t) (omega arith) (omega arith)

pub verdict_fits : (s t words : List ℕ) → IfOk (check_answer s t words) SmallVerdict
unfolding check_answer answered pick
verdict_fits s t words = go (eqb (check_refusal s t words) 0) (λ e. accepted_small s t words (eqb-true (check_refusal s t words) 0 e))
  where
    go : (b : Bool) → (b ≡ true → SmallVerdict (told_whole (verdict (clauses_of s) (cycles_of t))))
        → IfOk (pick b (Ok (told_whole (verdict (clauses_of s) (cycles_of t)))) (Err (refusal_numbered (check_refusal s t words)))) SmallVerdict
    go true p = p refl
    go false p = tt
