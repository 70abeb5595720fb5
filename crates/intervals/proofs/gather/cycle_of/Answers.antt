-- `intervals::gather::cycle_of` meets its contract.
use Rattle.std.proofs.Common.{sym, ◌∙◌, refl}
use Rattle.tables.specs.Table.{standing}
use Rattle.intervals.proofs.gather.cycle_of.Goals as goal

pub returns-then-has_name : goal.returns-then-has_name
unfolding standing
returns-then-has_name c = rw (sym c.has_name.ensures ∙ c.if-has_name.true) refl

pub returns-else-has_name : goal.returns-else-has_name
unfolding standing
returns-else-has_name c = rw (sym c.has_name.ensures ∙ c.if-has_name.false) refl
