-- `tables::fill::move_name` meets its contract.
use Rattle.std.proofs.Common.{sym, ◌∙◌, ap, ◌+◌, eq-eqb, ne_eqb, set}
use Rattle.traces.specs.Columns.{column_at}
use Rattle.tables.specs.Ready.{marked_at, with_name, changed}
use Rattle.tables.proofs.fill.move_name.Goals as goal

pub returns-then-old-column : goal.returns-then-old-column
unfolding changed with_name marked_at column_at
returns-then-old-column c =
    let a = c.args in
    record { value = rw (eq-eqb _ _ (c.if-old-column.true ∙ c.only-column.ensures)); columns_after = ap (set a.columns.now (16 + a.u)) c.only-column.ensures }

pub returns-else-old-column : goal.returns-else-old-column
unfolding changed with_name marked_at column_at
returns-else-old-column c =
    let a = c.args in
    let only = c.only-column.ensures in
    record { value = rw (ne_eqb _ _ (λ e. c.if-old-column.false (e ∙ sym only))) c.name_mask.ensures; columns_after = ap (set a.columns.now (16 + a.u)) only }
