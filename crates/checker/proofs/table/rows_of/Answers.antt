-- `checker::table::rows_of` meets its contract.
use Rattle.std.proofs.Common.{ap, ◌∙◌, arith, ℕ, replicate}
use Rattle.checker.proofs.Opened.{table_is}
use Rattle.checker.proofs.table.rows_of.Goals as goal

pub copy_rows-rows-requires : goal.copy_rows-rows-requires
copy_rows-rows-requires c =
    let p = c.requires in
    omega (arith, p.given.0.words_long, p.given.0.few_cycles, p.known_node.0, c.lay_first.auto.words)

pub returns : goal.returns
returns c =
    let p = c.requires in
    let a = c.args in
    let r = c.lay_first in record { value = c.copy_rows-rows.ensures ∙ table_is p.given.0 a.cycles p.given.1 r.ensures.columns_after r.ensures.tables r.auto.words a.node p.known_node.0 p.known_node.1; words_after = c.clear.ensures ∙ ap (λ (k : ℕ). replicate k 0) r.auto.words }
