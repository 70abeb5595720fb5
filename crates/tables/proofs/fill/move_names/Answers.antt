-- `tables::fill::move_names` meets its contract.
use Rattle.std.proofs.Common.{arith}
use Rattle.tables.specs.Table.{standing}
use Rattle.tables.proofs.Columns.{names_put}
use Rattle.tables.proofs.fill.move_names.Goals as goal

pub move_name-first-requires : goal.move_name-first-requires
unfolding standing
move_name-first-requires c = let p = c.requires in omega (arith, p.0.stands 0 (omega arith), p.1)

pub move_name-second-requires : goal.move_name-second-requires
unfolding standing
move_name-second-requires c = let p = c.requires in omega (arith, p.0.stands 1 (omega arith), p.1)

pub move_name-third-requires : goal.move_name-third-requires
unfolding standing
move_name-third-requires c = let p = c.requires in omega (arith, p.0.stands 2 (omega arith), p.1)

pub returns : goal.returns
returns c =
    let a = c.args in
    let first = c.move_name-first in
    let second = c.move_name-second in
    let third = c.move_name-third in
    let both = names_put a.columns.now first.new.columns second.new.columns third.new.columns a.cycles _ _ _ first.ensures.value first.ensures.columns_after second.ensures.value second.ensures.columns_after third.ensures.value third.ensures.columns_after in
    record { value = both.0; columns_after = both.1 }
