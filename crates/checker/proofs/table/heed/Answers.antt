-- `checker::table::heed` meets its contract.
use Rattle.std.proofs.Common.{lt-ltb, le-ltb}
use Rattle.checker.specs.Table.{heeded}
use Rattle.checker.proofs.table.heed.Goals as goal

pub returns-then-u-m : goal.returns-then-u-m
unfolding heeded
returns-then-u-m c = rw (lt-ltb _ _ c.if-u-m.true)

pub returns-else-u-m : goal.returns-else-u-m
unfolding heeded
returns-else-u-m c = rw (le-ltb _ _ c.if-u-m.false)
