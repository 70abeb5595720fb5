-- `printed::page::glyph` meets its contract.
use Rattle.std.proofs.Common.{lt-ltb, le-ltb}
use Rattle.printed.specs.Page.{glyph_of}
use Rattle.printed.proofs.page.glyph.Goals as goal

pub returns-then-d-lt10 : goal.returns-then-d-lt10
unfolding glyph_of
returns-then-d-lt10 c = rw (lt-ltb _ _ c.if-d-lt10.true)

pub returns-else-d-lt10 : goal.returns-else-d-lt10
unfolding glyph_of
returns-else-d-lt10 c = rw (le-ltb _ _ c.if-d-lt10.false)
