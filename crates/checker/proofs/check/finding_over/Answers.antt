-- `checker::check::finding_over` meets its contract.
use Rattle.std.proofs.Common.{ℕ, ◌<◌, ◌≡◌, false, ap, subst, ◌∙◌}
use Rattle.semantics.specs.Clause.{commitment}
use Rattle.semantics.specs.Proposition.{Trace}
use Rattle.semantics.specs.Verdict.{fails_as}
use Rattle.stored.specs.Clause.{role_of}
use Rattle.traces.specs.Columns.{trace_of}
use Rattle.checker.specs.declared.check.Finding.TheVariants.{Broken}
use Rattle.checker.specs.Clauses.{First, clause_at}
use Rattle.checker.proofs.Clauses.{short_trace}
use Rattle.checker.proofs.Verdicts.{finding_excused, finding_broken, finding_holds}
use Rattle.checker.proofs.check.finding_over.Goals as goal

pub returns-in-Some : goal.returns-in-Some
unfolding role_of
returns-in-Some c =
    let a = c.args in
    finding_excused (clause_at a.parts.nodes.now a.parts.clauses.now) a.parts.sizes.clauses (trace_of a.parts.sizes.cycles a.columns.now) _ c.in-Some.ensures.failing_is

pub returns-in-Some-commitment : goal.returns-in-Some-commitment
unfolding role_of
returns-in-Some-commitment c =
    let a = c.args in
    let f = clause_at a.parts.nodes.now a.parts.clauses.now in
    ap Broken c.place_of.ensures
    ∙ finding_broken f a.parts.sizes.clauses (trace_of a.parts.sizes.cycles a.columns.now) c.in-Some-commitment.failing (short_trace c.requires.laid) c.in-None.ensures.failing_is
    (subst (λ (σ : Trace). First commitment f a.parts.sizes.clauses σ c.in-Some-commitment.failing) c.first_failing-assumption.ensures.still_laid.told c.in-Some-commitment.ensures.failing_is)

pub returns-in-None-commitment : goal.returns-in-None-commitment
unfolding role_of
returns-in-None-commitment c =
    let a = c.args in
    let f = clause_at a.parts.nodes.now a.parts.clauses.now in
    finding_holds f a.parts.sizes.clauses (trace_of a.parts.sizes.cycles a.columns.now) c.in-None.ensures.failing_is
    (subst (λ (σ : Trace). (k : ℕ) → k < a.parts.sizes.clauses → fails_as commitment σ (f k) ≡ false) c.first_failing-assumption.ensures.still_laid.told c.in-None-commitment.ensures.failing_is)
