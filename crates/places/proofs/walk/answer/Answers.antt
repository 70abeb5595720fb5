-- `places::walk::answer` meets its contract.
use Rattle.tables.specs.Table.{standing}
use Rattle.places.proofs.Laying.{replies_added}
use Rattle.places.proofs.Walks.{lay_placed, few_cycles, root_rows}
use Rattle.places.proofs.walk.answer.Goals as goal

pub lay-requires : goal.lay-requires
lay-requires c =
    let w = c.requires.walkable in
    record { ready = w.laid.ready; tables = w.laid.tables; inside = w.inside }

pub add-requires : goal.add-requires
add-requires c =
    let w = c.requires.walkable in
    let p = lay_placed w c.lay.ensures.columns_after c.lay.ensures.tables_after c.lay.auto.words in
    (root_rows w p w.formulas.reply, few_cycles w, c.requires.rows_long)

pub returns : goal.returns
returns c =
    let w = c.requires.walkable in
    let a = c.args in
    let p = lay_placed w c.lay.ensures.columns_after c.lay.ensures.tables_after c.lay.auto.words in
    let r = c.add.ensures in
    record { laid = p.laid; rows_kept = r.rows_long; adds = replies_added (standing a.spot.cycles) (few_cycles w) p.tables a.job.task _ _ w.formulas r.adds }
