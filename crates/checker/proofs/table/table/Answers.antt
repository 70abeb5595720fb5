-- `checker::table::table` meets its contract.
use Rattle.std.proofs.Common.{sym, ◌∙◌, ap, Err}
use Rattle.std.proofs.lemmas.Result.{err_from_is_err_and}
use Rattle.checker.specs.Table.{table_answer, table_refusal}
use Rattle.checker.proofs.Opened.{trace_fits, few_signals, few_cycles, given_accepted}
use Rattle.checker.proofs.Refusals.{sheet_refuses, trace_refuses, rest_refuses, few_words_first}
use Rattle.checker.proofs.Whole.{table_whole}
use Rattle.checker.proofs.table.table.Goals as goal

pub returns-in_err-h : goal.returns-in_err-h
unfolding table_answer table_refusal
returns-in_err-h c =
    let a = c.args in
    let z = sheet_refuses a.sheet.now a.trace.now _ _ a.words.now _ (sym c.in_err-h.ensures) in
    let p = err_from_is_err_and c.from_residual.result c.from_residual.ensures.1 in
    record { value = p.1 ∙ ap Err p.2 ∙ z.given; words_after = z.left }

pub returns-in_err-n : goal.returns-in_err-n
unfolding table_answer table_refusal
returns-in_err-n c =
    let a = c.args in
    let z = trace_refuses a.sheet.now a.trace.now _ _ a.words.now _ (sym c.in_ok-h.ensures) _ (sym c.in_err-n.ensures) in
    let p = err_from_is_err_and c.from_residual-in_err-n.result c.from_residual-in_err-n.ensures.1 in
    record { value = p.1 ∙ ap Err p.2 ∙ z.given; words_after = z.left }

pub returns-then-words-lt-LEAST_WORDS : goal.returns-then-words-lt-LEAST_WORDS
unfolding table_answer table_refusal
returns-then-words-lt-LEAST_WORDS c =
    let a = c.args in
    let z = rest_refuses a.sheet.now a.trace.now _ _ a.words.now _ (sym c.in_ok-h.ensures) _ (sym c.in_ok-n.ensures) _ (few_words_first a.words.now _ c.if-words-lt-LEAST_WORDS.true) in
    record { value = z.given; words_after = z.left }

pub node_part-nodes-requires : goal.node_part-nodes-requires
node_part-nodes-requires c = sym c.in_ok-h.ensures

pub columns-columns-requires : goal.columns-columns-requires
columns-columns-requires c =
    let a = c.args in
    let accepted = sym c.in_ok-h.ensures in
    let cycled = sym c.in_ok-n.ensures in
    (few_signals a.sheet.now a.trace.now _ _ accepted cycled, few_cycles a.sheet.now a.trace.now _ _ accepted cycled, trace_fits a.sheet.now a.trace.now _ _ accepted cycled)

pub node_table-requires : goal.node_table-requires
node_table-requires c =
    let a = c.args in
    given_accepted a.sheet.now a.trace.now _ _ (sym c.in_ok-h.ensures) (sym c.in_ok-n.ensures) _ c.columns-columns.ensures _ a.words.now c.if-words-lt-LEAST_WORDS.false c.node_part-nodes.ensures

pub returns : goal.returns
returns c =
    let a = c.args in
    let r = c.node_table.ensures in
    let z = table_whole a.sheet.now a.trace.now a.node a.p0 a.p1 a.p2 a.words.now _ _ (sym c.in_ok-h.ensures) (sym c.in_ok-n.ensures) _ _ _ _ c.if-words-lt-LEAST_WORDS.false c.node_part-nodes.ensures c.columns-columns.ensures r.value r.words_after in
    record { value = z.0; words_after = z.1 }
