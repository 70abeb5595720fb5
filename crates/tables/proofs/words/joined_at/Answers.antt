-- `tables::words::joined_at` meets its contract.
use Rattle.std.proofs.Common.{refl, sym, ◌∙◌, arith}
use Rattle.tables.specs.Table.{row_at}
use Rattle.tables.proofs.Rows.{joined_ext, part_row}
use Rattle.tables.proofs.words.joined_at.Goals as goal

pub join_more-requires : goal.join_more-requires
join_more-requires c =
    let a = c.args in
    let p = c.requires in
    (omega (arith, p.0), p.1 ∙ sym (joined_ext a.had _ (row_at a.words.now a.i) (part_row a.words.now a.i _ _ refl refl)))

pub returns : goal.returns
returns c =
    let a = c.args in
    c.join_more.ensures ∙ joined_ext a.row _ (row_at a.words.now a.i) (part_row a.words.now a.i _ _ refl refl)
