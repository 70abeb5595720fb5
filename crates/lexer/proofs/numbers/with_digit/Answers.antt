-- `lexer::numbers::with_digit` meets its contract.
use Rattle.std.proofs.Common.{arith}
use Rattle.std.proofs.lemmas.Bool.Decides.{nat_tests}
use Rattle.lexer.specs.Lexed.{with_digit}
use Rattle.lexer.proofs.Digits.{digit_low}
use Rattle.lexer.proofs.numbers.with_digit.Goals as goal

pub returns-in_err-more : goal.returns-in_err-more
unfolding with_digit
returns-in_err-more c = rw c.in_err-more.was c.from_residual.ensures

pub overflow_sub-b : goal.overflow_sub-b
overflow_sub-b c = digit_low c.args.b c.requires.1

pub returns : goal.returns
unfolding with_digit
returns c = rw c.in_ok-more.was (grind (arith, nat_tests))
