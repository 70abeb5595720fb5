-- `lexer::brackets::too_deep` meets its contract.
use Rattle.std.proofs.Common.{arith, refl, sym, ◌∙◌}
use Rattle.grammar.specs.Brackets.{too_deep}
use Rattle.lexer.proofs.Deep.{deep_found, deep_next, deep_end}
use Rattle.lexer.proofs.brackets.too_deep.Goals as goal

pub loop-b-init : goal.loop-b-init
unfolding too_deep
loop-b-init c = (omega arith, refl)

pub returns-then-depth-gt32 : goal.returns-then-depth-gt32
returns-then-depth-gt32 c =
    let at = c.loop-b in
    sym (at.invariant.1 ∙ deep_found _ at.b-index at.depth _ (omega arith) c.open_after-depth.ensures c.if-depth-gt32.true)

pub loop-b-preserved : goal.loop-b-preserved
loop-b-preserved c =
    let at = c.loop-b in
    (c.if-depth-gt32.false, at.invariant.1 ∙ deep_next _ at.b-index at.depth _ (omega arith) c.open_after-depth.ensures c.if-depth-gt32.false)

pub returns : goal.returns
returns c = let at = c.loop-b in sym (at.invariant.1 ∙ deep_end _ at.b-index at.depth (omega arith))
