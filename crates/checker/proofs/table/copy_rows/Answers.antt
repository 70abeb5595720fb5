-- `checker::table::copy_rows` meets its contract.
use Rattle.std.proofs.Common.{◌≡◌, refl, ap, ◌∙◌, arith, ℕ, length-set}
use Rattle.stored.specs.Tree.{earlier}
use Rattle.stored.proofs.Entries.{entries_none, entries_next, entries_all}
use Rattle.tables.specs.Table.{row_at}
use Rattle.checker.proofs.table.copy_rows.Goals as goal

pub loop-b-init : goal.loop-b-init
loop-b-init c = (refl, entries_none _ 64)

pub loop-b-preserved : goal.loop-b-preserved
loop-b-preserved c =
    let at = c.loop-b in
    (length-set at.rows at.b _ ∙ at.invariant.0, entries_next _ at.rows at.b _ (omega arith) at.invariant.1 c.row_at.ensures)

pub returns : goal.returns
returns c =
    let a = c.args in
    let l = c.loop-b in
    let end : l.b ≡ a.n = omega arith in
    entries_all _ 64 _ _ l.invariant.0 (λ k. l.invariant.1 k ∙ ap (λ (j : ℕ). earlier j 0 (row_at a.words.now a.i) k) end)
