-- `text::part::names` meets its contract.
use Rattle.text.proofs.Parts.{no_names_lem, one_more, twice, names_took}
use Rattle.text.proofs.part.names.Goals as goal

pub loop-name-init : goal.loop-name-init
loop-name-init c = no_names_lem _ _

pub returns-then-has_name : goal.returns-then-has_name
returns-then-has_name c = twice c.loop-name.invariant c.in-Some.ensures c.has_name.ensures c.if-has_name.true

pub loop-name-preserved : goal.loop-name-preserved
loop-name-preserved c =
    one_more c.loop-name.invariant c.in-Some.ensures c.has_name.ensures c.if-has_name.false c.with_name-mask.ensures

pub returns : goal.returns
returns c = names_took c.loop-name.invariant c.in_default.ensures
