-- `tables::fill::lay` meets its contract.
use Rattle.std.proofs.Common.{arith}
use Rattle.tables.proofs.Columns.{inside_all}
use Rattle.tables.proofs.Fills.{reach_long}
use Rattle.tables.proofs.Moves.{moved_ready}
use Rattle.tables.proofs.fill.lay.Goals as goal

pub move_names-moved-requires : goal.move_names-moved-requires
move_names-moved-requires c =
    let p = c.requires in
    (inside_all p.ready.given.few_cycles p.inside, p.ready.given.columned.all)

pub fill-requires : goal.fill-requires
fill-requires c =
    let q = c.requires in
    let a = c.args in
    let put = c.move_names-moved.ensures in
    let filled = moved_ready q.ready a.cycles _ _ q.inside put.columns_after put.value q.tables in
    record { given = (filled.0, omega (arith, reach_long q.ready)); kept = filled.1 }
