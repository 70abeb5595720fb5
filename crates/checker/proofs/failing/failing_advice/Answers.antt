-- `checker::failing::failing_advice` meets its contract. The loop's invariant: the byte has the bits of the clauses so far.
use Rattle.std.proofs.Common.{ℕ, ◌≡◌, refl, sym, ap, subst, ◌∙◌, arith}
use Rattle.semantics.specs.Proposition.{Trace}
use Rattle.semantics.specs.Clause as clause
use Rattle.rows.specs.Row.{word}
use Rattle.rows.proofs.Rows.{word_unset}
use Rattle.stored.specs.Clause.{role_of}
use Rattle.traces.specs.Columns.{trace_of}
use Rattle.places.proofs.Walks.{relaid}
use Rattle.checker.specs.Clauses.{clause_at, PlaceIs}
use Rattle.checker.proofs.Verdicts.{advised, advice_word, advice_set, fails_if_some}
use Rattle.checker.proofs.failing.failing_advice.Goals as goal
use Rattle.checker.proofs.failing.failing_advice.Goals.{then-is_some, else-is_some}

pub loop-number-init : goal.loop-number-init
unfolding word
loop-number-init c = (c.requires.laid, refl, refl, c.requires.sounds.1, omega arith, refl)

pub loop-number-preserved : goal.loop-number-preserved
unfolding role_of
loop-number-preserved c =
    let l = c.loop-number in
    let a = c.args in
    let r = c.role_place-found in
    let less = c.loop-number-test.true in
    let p = advised (clause_at a.parts.nodes.now a.parts.clauses.now) (trace_of a.parts.sizes.cycles a.columns.now) in
    let fails = fails_if_some clause.advice (clause_at a.parts.nodes.now a.parts.clauses.now l.number) _ r.result (subst (λ (σ : Trace). PlaceIs clause.advice (clause_at a.parts.nodes.now a.parts.clauses.now l.number) σ r.result) l.invariant.0.told r.ensures.place_is) ∙ sym c.is_some.ensures in (
      relaid l.invariant.0 r.ensures.still_laid,
      r.auto.columns ∙ l.invariant.1,
      r.auto.words ∙ l.invariant.2,
      r.ensures.rows_long,
      omega (arith, less),
      elim c.if-is_some.branch [
        | then-is_some w ↦ w.advice-is ∙ advice_set l.number l.advice p (omega (arith, c.requires.sounds.0.few, less)) l.invariant.5 (fails ∙ w.if-is_some.true)
        | else-is_some w ↦ w.advice-is ∙ l.invariant.5 ∙ word_unset l.number p (fails ∙ w.if-is_some.false)
      ],
    )

pub returns-clause-value : goal.returns-clause-value
returns-clause-value c =
    let l = c.loop-number in
    let a = c.args in
    let end : l.number ≡ a.parts.sizes.clauses = omega (arith, c.loop-number-test.false, l.invariant.4) in
    let f : ℕ → clause.Clause = clause_at a.parts.nodes.now a.parts.clauses.now in
    let σ = trace_of a.parts.sizes.cycles a.columns.now in
    l.invariant.5 ∙ ap (λ (n : ℕ). word n (advised f σ)) end ∙ advice_word a.parts.sizes.clauses f σ
