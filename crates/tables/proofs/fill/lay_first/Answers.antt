-- `tables::fill::lay_first` meets its contract.
use Rattle.std.proofs.Common.{arith, refl}
use Rattle.tables.proofs.Columns.{inside_all, names_columns}
use Rattle.tables.proofs.Fills.{given_other}
use Rattle.tables.proofs.Moves.{kept_none}
use Rattle.tables.proofs.fill.lay_first.Goals as goal

pub move_names-requires : goal.move_names-requires
move_names-requires c =
    let p = c.requires in
    (inside_all p.given.few_cycles p.inside, p.given.columned.all)

pub fill-requires : goal.fill-requires
fill-requires c =
    let q = c.requires in
    let a = c.args in
    let put = c.move_names.ensures.columns_after in
    record { given = (rw put (given_other _ a.words.now (names_columns a.cycles q.given.few_cycles q.inside q.given.columned) refl q.given), omega arith); kept = kept_none q.given.few_nodes }
