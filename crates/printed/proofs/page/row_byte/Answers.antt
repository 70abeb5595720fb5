-- `printed::page::row_byte` meets its contract.
use Rattle.std.proofs.Common.{eq-eqb, ne_eqb}
use Rattle.printed.specs.Page.{row_byte}
use Rattle.printed.proofs.page.row_byte.Goals as goal

pub returns-then-j-eq16 : goal.returns-then-j-eq16
unfolding row_byte
returns-then-j-eq16 c = rw (eq-eqb _ _ c.if-j-eq16.true)

pub returns : goal.returns
unfolding row_byte
returns c = rw (ne_eqb _ _ c.if-j-eq16.false) c.glyph.ensures
