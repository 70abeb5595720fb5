-- `lines::lines::put_line` meets its contract.
use Rattle.std.proofs.Common.{arith, append-nil, length-set}
use Rattle.lines.specs.Lines.{spaced}
use Rattle.lines.proofs.Texts.{number_fits, newline_fits, put_number, put_newline}
use Rattle.lines.proofs.lines.put_line.Goals as goal

pub loop-number-init : goal.loop-number-init
unfolding spaced
loop-number-init c = rw append-nil c.put_word-at.ensures

pub bounds-out-at : goal.bounds-out-at
bounds-out-at c = omega (arith, number_fits _ _ _ c.loop-number.invariant c.requires (omega arith))

pub overflow_add-at : goal.overflow_add-at
overflow_add-at c = omega (arith, number_fits _ _ _ c.loop-number.invariant c.requires (omega arith), c.well_formed.0.0)

pub put_decimal-at-requires : goal.put_decimal-at-requires
put_decimal-at-requires c = simp length-set (omega (arith, number_fits _ _ _ c.loop-number.invariant c.requires (omega arith)))

pub loop-number-preserved : goal.loop-number-preserved
loop-number-preserved c = put_number _ _ _ c.loop-number.invariant (omega arith) c.put_decimal-at.ensures

pub bounds-out-at-2 : goal.bounds-out-at-2
bounds-out-at-2 c = newline_fits _ _ _ c.loop-number.invariant c.requires

pub overflow_add-result : goal.overflow_add-result
overflow_add-result c = omega (arith, newline_fits _ _ _ c.loop-number.invariant c.requires, c.well_formed.0.0)

pub returns : goal.returns
returns c = put_newline _ _ _ c.loop-number.invariant (omega arith)
