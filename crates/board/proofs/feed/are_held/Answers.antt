-- `board::feed::are_held` meets its contract.
use Rattle.std.proofs.Common.{rules, tests, sym, ◌∙◌, arith, le-leb}
use Rattle.std.proofs.lemmas.Iterator.{YieldsList-from_slice}
use Rattle.std.proofs.lemmas.Iterator.Search.{all_from_yields_List}
use borrow.Author.Tests.{lt-leb}
use Rattle.stored.specs.Layout.{most_cycles}
use Rattle.board.specs.Board.{cycle_fits, held_right}
use Rattle.board.proofs.Admission.{held_listed}
use Rattle.board.proofs.feed.are_held.Goals as goal

pub returns-then-taken-gt-MOST_CYCLES : goal.returns-then-taken-gt-MOST_CYCLES
unfolding held_right
returns-then-taken-gt-MOST_CYCLES c = rw (lt-leb _ most_cycles c.if-taken-gt-MOST_CYCLES.true)

pub returns : goal.returns
unfolding held_right cycle_fits
returns c =
    let a = c.args in
    rw (le-leb a.taken most_cycles c.if-taken-gt-MOST_CYCLES.false)
    (all_from_yields_List (cycle_fits a.s) _ _ c.all.result c.all.ensures.ran (YieldsList-from_slice _ c.iter.ensures.rest) (λ x b q k. search (rules, tests))
    ∙ held_listed a.s a.cycles.now a.taken (omega arith))
