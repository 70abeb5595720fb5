-- `translator::translate` meets its contract.
use Rattle.std.proofs.Common.{sym, subst, arith}
use Rattle.std.proofs.lemmas.Result.{err_from_is_err_and}
use Rattle.stored.proofs.Accepted.{Counts}
use Rattle.translator.proofs.Translating.{opened_sheet, header_is, sheet_refused, output_refused, drafted, run_translated}
use Rattle.translator.proofs.translate.Goals as goal

pub returns-in_err-h : goal.returns-in_err-h
returns-in_err-h c =
    let p = err_from_is_err_and c.from_residual.result c.from_residual.ensures.1 in
    rw (p.1, p.2) (sheet_refused _ _ _ (sym c.in_err-h.ensures))

pub returns-then-out-lt-LEAST_OUTPUT : goal.returns-then-out-lt-LEAST_OUTPUT
returns-then-out-lt-LEAST_OUTPUT c = output_refused _ _ (sym c.in_ok-h.ensures) _ c.if-out-lt-LEAST_OUTPUT.true

pub put_draft-root-requires : goal.put_draft-root-requires
put_draft-root-requires c = (sym c.in_ok-h.ensures, omega arith)

pub put_header-requires : goal.put_header-requires
put_header-requires c =
    let k = subst Counts (header_is _ _ (sym c.in_ok-h.ensures)) (opened_sheet _ _ (sym c.in_ok-h.ensures)).in_range in
    (omega (arith, c.if-out-lt-LEAST_OUTPUT.false), omega arith, omega (arith, k.few_signals), omega (arith, k.few_names), omega arith, omega arith)

pub put_pruned-last-requires : goal.put_pruned-last-requires
put_pruned-last-requires c =
    drafted _ (sym c.in_ok-h.ensures) c.if-out-lt-LEAST_OUTPUT.false c.put_draft-root.ensures c.put_header.ensures

pub overflow_add-last : goal.overflow_add-last
overflow_add-last c = let p = c.put_pruned-last.ensures in omega (arith, p.last, p.step.good.few_nodes)

pub nodes_end-requires : goal.nodes_end-requires
nodes_end-requires c = let p = c.put_pruned-last.ensures in omega (arith, p.last, p.step.good.few_nodes)

pub returns : goal.returns
returns c =
    run_translated _ (sym c.in_ok-h.ensures) c.if-out-lt-LEAST_OUTPUT.false c.put_draft-root.ensures c.put_header.ensures c.put_pruned-last.ensures c.nodes_end.ensures
