-- `intervals::gather::cut_row` meets its contract.
use Rattle.intervals.specs.Gather.{cut_to}
use Rattle.intervals.proofs.gather.cut_row.Goals as goal

pub returns-then-short : goal.returns-then-short
unfolding cut_to
returns-then-short c = rw c.if-short.true c.shortest.ensures

pub returns-else-short : goal.returns-else-short
unfolding cut_to
returns-else-short c = rw c.if-short.false
