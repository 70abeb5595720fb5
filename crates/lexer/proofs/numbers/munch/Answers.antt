-- `lexer::numbers::munch` meets its contract.
use Rattle.std.proofs.Common.{arith, refl, ◌∙◌, sym}
use Rattle.grammar.specs.Token.{is_digit}
use Rattle.classes.specs.declared.Class.TheVariants.{Digit}
use Rattle.classes.proofs.Marks.{differ_true, differ_false}
use Rattle.lexer.proofs.Classes.{digit_class_lem, told, untold}
use Rattle.lexer.proofs.Digits.{with_digit_small, read_on, digits_more, number_more, digits_none, number_done, digits_end, number_end}
use Rattle.lexer.proofs.numbers.munch.Goals as goal

pub loop-i-init : goal.loop-i-init
unfolding read_on
loop-i-init c = (omega arith, refl, omega arith, refl)

pub returns-then-ne : goal.returns-then-ne
returns-then-ne c =
    let at = c.loop-i in
    let text = c.args.text.now in
    let none = untold is_digit Digit digit_class_lem _ _ c.class_of.ensures (differ_true _ _ (sym c.ne.ensures ∙ c.if-ne.true)) in
    record {
      value = at.invariant.3 ∙ number_done text at.i at.value (omega arith) none;
      small = at.invariant.2;
      past = omega (arith, digits_none text at.i (omega arith) none);
      within = omega arith;
    }

pub with_digit-value-requires : goal.with_digit-value-requires
with_digit-value-requires c = (c.loop-i.invariant.2, told is_digit Digit digit_class_lem _ _ c.class_of.ensures (differ_false _ _ (sym c.ne.ensures ∙ c.if-ne.false)))

pub loop-i-preserved : goal.loop-i-preserved
loop-i-preserved c =
    let at = c.loop-i in
    let text = c.args.text.now in
    let one = told is_digit Digit digit_class_lem _ _ c.class_of.ensures (differ_false _ _ (sym c.ne.ensures ∙ c.if-ne.false)) in (
      omega arith,
      omega (arith, digits_more text at.i (omega arith) one),
      rw c.with_digit-value.ensures (with_digit_small at.value _),
      rw c.with_digit-value.ensures (at.invariant.3 ∙ number_more text at.i at.value (omega arith) one),
    )

pub returns : goal.returns
returns c =
    let at = c.loop-i in
    let text = c.args.text.now in
    record {
      value = at.invariant.3 ∙ number_end text at.i at.value (omega arith);
      small = at.invariant.2;
      past = omega (arith, digits_end text at.i (omega arith));
      within = omega arith;
    }
