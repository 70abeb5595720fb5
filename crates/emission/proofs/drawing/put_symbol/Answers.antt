-- `emission::drawing::put_symbol` meets its contract.
use Rattle.std.proofs.Common.{sym}
use Rattle.semantics.specs.Translation.{anywhere, undrawn_symbol}
use Rattle.stored.specs.Tree.{symbol_of}
use Rattle.plans.specs.Plan.{signalled, everywhere, exactly, stretched, united}
use Rattle.emission.proofs.drawing.put_symbol.Goals as goal

pub returns-in-Low : goal.returns-in-Low
unfolding undrawn_symbol symbol_of
returns-in-Low c = rw (sym c.in-Low.ensures) (united c.put_low-low.ensures c.put.ensures)

pub returns-in-High : goal.returns-in-High
unfolding undrawn_symbol symbol_of
returns-in-High c = rw (sym c.in-High.ensures) (united (signalled c.put-high.ensures) c.put-in-High.ensures)

pub returns-in-Either : goal.returns-in-Either
unfolding undrawn_symbol symbol_of
returns-in-Either c = rw (sym c.in-Either.ensures) (exactly c.put-in-Either.ensures)

pub returns-in-LowStretch : goal.returns-in-LowStretch
unfolding undrawn_symbol symbol_of
returns-in-LowStretch c = rw (sym c.in-LowStretch.ensures) (stretched c.put_low-low-in-LowStretch.ensures c.put-in-LowStretch.ensures)

pub returns-in-HighStretch : goal.returns-in-HighStretch
unfolding undrawn_symbol symbol_of
returns-in-HighStretch c =
    rw (sym c.in-HighStretch.ensures) (stretched (signalled c.put-high-in-HighStretch.ensures) c.put-in-HighStretch.ensures)

pub returns-in-EitherStretch : goal.returns-in-EitherStretch
unfolding undrawn_symbol symbol_of anywhere
returns-in-EitherStretch c = rw (sym c.in-EitherStretch.ensures) everywhere

pub returns-in-Steady : goal.returns-in-Steady
unfolding symbol_of
returns-in-Steady c = rw (sym c.in-Steady.ensures) c.put_steady.ensures
