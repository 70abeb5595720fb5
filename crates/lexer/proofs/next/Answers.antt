-- `lexer::next` meets its contract.
use Rattle.std.proofs.Common.{arith}
use Rattle.grammar.specs.Token.{is_digit}
use Rattle.classes.specs.declared.Class.TheVariants.{Digit}
use Rattle.lexer.proofs.Classes.{digit_class_lem, told, untold}
use Rattle.lexer.proofs.Read.{end_read}
use Rattle.lexer.proofs.next.Goals as goal

pub returns-then-text-start : goal.returns-then-text-start
returns-then-text-start c = end_read _ _ _ c.skip_blanks-start.ensures c.if-text-start.true

pub number_at-requires : goal.number_at-requires
number_at-requires c = (omega arith, told is_digit Digit digit_class_lem _ _ c.class_of-class.ensures c.in-Digit.is)

pub spelling_at-requires : goal.spelling_at-requires
spelling_at-requires c = (
  omega arith,
  c.class_of-class.ensures,
  c.skip_blanks-start.ensures.filled (omega arith),
  untold is_digit Digit digit_class_lem _ _ c.class_of-class.ensures c.in_default.not-Digit,
)
