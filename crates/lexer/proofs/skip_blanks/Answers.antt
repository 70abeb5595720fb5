-- `lexer::skip_blanks` meets its contract.
use Rattle.std.proofs.Common.{arith, ◌∙◌, sym}
use Rattle.grammar.specs.Token.{is_blank}
use Rattle.classes.specs.declared.Class.TheVariants.{Blank}
use Rattle.classes.proofs.Marks.{differ_true, differ_false}
use Rattle.lexer.proofs.Classes.{blank_class_lem, told, untold}
use Rattle.lexer.proofs.Tokens.{blank_at}
use Rattle.lexer.proofs.skip_blanks.Goals as goal

pub returns-then-ne : goal.returns-then-ne
returns-then-ne c =
    record {
      same = c.loop-i.invariant.1;
      onward = omega arith;
      filled = λ _. untold is_blank Blank blank_class_lem _ _ c.class_of.ensures (differ_true _ _ (sym c.ne.ensures ∙ c.if-ne.true));
    }

pub loop-i-preserved : goal.loop-i-preserved
loop-i-preserved c =
    let at = c.loop-i in
    (omega arith, at.invariant.1 ∙ blank_at _ at.i (omega arith) (told is_blank Blank blank_class_lem _ _ c.class_of.ensures (differ_false _ _ (sym c.ne.ensures ∙ c.if-ne.false))))
