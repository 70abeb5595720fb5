-- `checker::check::check` meets its contract.
use Rattle.std.proofs.Common.{sym, ◌∙◌, ap, Err}
use Rattle.std.proofs.lemmas.Result.{err_from_is_err_and}
use Rattle.checker.specs.Check.{check_answer, check_refusal}
use Rattle.checker.proofs.Opened.{trace_fits, few_signals, few_cycles, given_accepted}
use Rattle.checker.proofs.Refusals.{sheet_refuses, trace_refuses, rest_refuses, few_words, words_cleared}
use Rattle.checker.proofs.Checked.{check_verdict, clauses_sound}
use Rattle.checker.proofs.check.check.Goals as goal

pub returns-in_err-h : goal.returns-in_err-h
unfolding check_answer check_refusal
returns-in_err-h c =
    let a = c.args in
    let z = sheet_refuses a.sheet.now a.trace.now _ _ a.words.now _ (sym c.in_err-h.ensures) in
    let p = err_from_is_err_and c.from_residual.result c.from_residual.ensures.1 in
    record { value = p.1 ∙ ap Err p.2 ∙ z.given; words_after = z.left }

pub returns-in_err-n : goal.returns-in_err-n
unfolding check_answer check_refusal
returns-in_err-n c =
    let a = c.args in
    let z = trace_refuses a.sheet.now a.trace.now _ _ a.words.now _ (sym c.in_ok-h.ensures) _ (sym c.in_err-n.ensures) in
    let p = err_from_is_err_and c.from_residual-in_err-n.result c.from_residual-in_err-n.ensures.1 in
    record { value = p.1 ∙ ap Err p.2 ∙ z.given; words_after = z.left }

pub returns-then-words-lt-LEAST_WORDS : goal.returns-then-words-lt-LEAST_WORDS
unfolding check_answer check_refusal
returns-then-words-lt-LEAST_WORDS c =
    let a = c.args in
    let z = rest_refuses a.sheet.now a.trace.now _ _ a.words.now _ (sym c.in_ok-h.ensures) _ (sym c.in_ok-n.ensures) _ (few_words a.words.now c.if-words-lt-LEAST_WORDS.true) in
    record { value = z.given; words_after = z.left }

pub node_part-nodes-requires : goal.node_part-nodes-requires
node_part-nodes-requires c = sym c.in_ok-h.ensures

pub clause_part-clauses-requires : goal.clause_part-clauses-requires
clause_part-clauses-requires c = sym c.in_ok-h.ensures

pub columns-columns-requires : goal.columns-columns-requires
columns-columns-requires c =
    let a = c.args in
    let accepted = sym c.in_ok-h.ensures in
    let cycled = sym c.in_ok-n.ensures in
    (few_signals a.sheet.now a.trace.now _ _ accepted cycled, few_cycles a.sheet.now a.trace.now _ _ accepted cycled, trace_fits a.sheet.now a.trace.now _ _ accepted cycled)

pub verdict_of-requires : goal.verdict_of-requires
verdict_of-requires c =
    let a = c.args in
    let accepted = sym c.in_ok-h.ensures in
    let node = c.node_part-nodes.ensures in
    record {
      given = given_accepted a.sheet.now a.trace.now _ _ accepted (sym c.in_ok-n.ensures) _ c.columns-columns.ensures _ a.words.now c.if-words-lt-LEAST_WORDS.false node;
      sounds = clauses_sound a.sheet.now _ _ _ accepted node c.clause_part-clauses.ensures;
    }

pub returns : goal.returns
returns c =
    let a = c.args in
    let r = c.verdict_of.ensures in
    let z = check_verdict a.sheet.now a.trace.now a.words.now _ (sym c.in_ok-h.ensures) _ (sym c.in_ok-n.ensures) _ _ _ _ c.if-words-lt-LEAST_WORDS.false c.node_part-nodes.ensures c.clause_part-clauses.ensures c.columns-columns.ensures r.value in
    record { value = z.0; words_after = r.words_after ∙ words_cleared _ a.words.now z.1 }
