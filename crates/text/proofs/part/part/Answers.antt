-- `text::part::part` meets its contract.
use Rattle.text.proofs.Parts.{part_none, part_bare, part_twice, part_took}
use Rattle.text.proofs.part.part.Goals as goal

pub returns-in_err-said : goal.returns-in_err-said
returns-in_err-said c = rw c.from_residual.ensures (part_none c.in_err-said.ensures)

pub returns-in_err-colon : goal.returns-in_err-colon
returns-in_err-colon c = rw c.from_residual-in_err-colon.ensures (part_bare c.in_ok-said.ensures c.in_err-colon.ensures)

pub returns-in_err-listed : goal.returns-in_err-listed
returns-in_err-listed c =
    rw c.from_residual-in_err-listed.ensures (part_twice c.in_ok-said.ensures c.in_ok-colon.ensures c.in_err-listed.ensures)

pub returns : goal.returns
returns c = part_took c.in_ok-said.ensures c.in_ok-colon.ensures c.in_ok-listed.ensures c.last_node.ensures
