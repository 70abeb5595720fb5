-- `emission::copy::copy_node` meets its contract.
use Rattle.std.proofs.Common.{refl, arith}
use Rattle.semantics.specs.Translation.{undrawn}
use Rattle.stored.specs.Tree.{formula_of, formula_op}
use Rattle.plans.specs.Bound.{is_drawing}
use Rattle.emission.specs.Copying.{drawing_of, by_others, itself}
use Rattle.emission.proofs.Copied.{no_drawing}
use Rattle.emission.proofs.copy.copy_node.Goals as goal

pub returns-in-27 : goal.returns-in-27
unfolding is_drawing drawing_of formula_of formula_op undrawn
returns-in-27 c = by_others (rw c.in-27.is refl) c.requires (rw c.in-27.is c.put_symbol.ensures)

pub returns-in-28 : goal.returns-in-28
unfolding is_drawing drawing_of formula_of formula_op undrawn
returns-in-28 c = by_others (rw c.in-28.is refl) c.requires (rw c.in-28.is c.put_mark.ensures)

pub returns-in-29 : goal.returns-in-29
unfolding is_drawing drawing_of formula_of formula_op undrawn
returns-in-29 c = by_others (rw c.in-29.is refl) c.requires (rw c.in-29.is c.put_gap.ensures)

pub returns-in_default : goal.returns-in_default
returns-in_default c = itself (no_drawing _ (omega arith) (omega arith) (omega arith)) c.requires c.put_copy.ensures
