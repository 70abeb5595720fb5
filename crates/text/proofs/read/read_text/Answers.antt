-- `text::read::read_text` meets its contract.
use Rattle.std.proofs.Common.{arith, sym}
use Rattle.text.proofs.Text.{read_deep, unended_outside, unread_outside, nothing_refused, read_judged, read_whole}
use Rattle.std.proofs.lemmas.Result.{err_from_is_err_and}
use Rattle.stored.proofs.Refusals.{of_value}
use Rattle.text.proofs.read.read_text.Goals as goal

pub returns-then-too_deep : goal.returns-then-too_deep
returns-then-too_deep c = read_deep _ _ _ c.too_deep.ensures c.if-too_deep.true

pub returns-then-not-ends_line : goal.returns-then-not-ends_line
returns-then-not-ends_line c =
    unended_outside _ _ _ c.too_deep.ensures c.if-too_deep.false _ c.ends_line.ensures (c.if-not-ends_line.true)

pub returns-in_default : goal.returns-in_default
returns-in_default c = unread_outside _ _ _ c.too_deep.ensures c.if-too_deep.false c.in_default.ensures

pub returns-in_err-judge : goal.returns-in_err-judge
returns-in_err-judge c =
    let empty_nodes = c.zeros.ensures in
    let empty_clauses = c.zeros-2.ensures in
    let p = err_from_is_err_and c.from_residual.result c.from_residual.ensures.1 in
    rw (p.1, p.2)
    (read_judged _ _ _ c.too_deep.ensures c.if-too_deep.false _ _ _ _ c.in-Some.said empty_nodes empty_clauses c.in-Some.ensures _
    c.ends_line.ensures (c.if-not-ends_line.false) _ (sym c.in_err-judge.ensures))

pub assemble-requires : goal.assemble-requires
assemble-requires c =
    let free = nothing_refused _ _ _ _ _ _ _ (of_value _ _ _ (sym c.in_ok-judge.ensures)).0 in
    let few = free.few_nodes in
    let fewer = free.few_clauses in
    let room = free.room in
    (omega arith, omega arith, few, omega arith, fewer)

pub returns : goal.returns
returns c =
    let empty_nodes = c.zeros.ensures in
    let empty_clauses = c.zeros-2.ensures in
    read_whole _ _ _ c.too_deep.ensures c.if-too_deep.false _ _ _ _ c.in-Some.said empty_nodes empty_clauses c.in-Some.ensures _
    c.ends_line.ensures (c.if-not-ends_line.false) _ _ (sym c.in_ok-judge.ensures) c.assemble.ensures
