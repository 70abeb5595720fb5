-- `printed::line::put_verdict` meets its contract.
use Rattle.std.proofs.Common.{arith}
use Rattle.printed.specs.Line.{word_of, numbers_of}
use Rattle.printed.proofs.Shown.{found_digits, put_found}
use Rattle.printed.proofs.line.put_verdict.Goals as goal

pub put_line-requires : goal.put_line-requires
unfolding numbers_of
put_line-requires c =
    (omega (arith, c.requires.0), found_digits c.args.verdict.advice c.in-Excused.is c.requires.1.0 c.requires.1.1)

pub put_line-requires-in-Broken : goal.put_line-requires-in-Broken
unfolding numbers_of
put_line-requires-in-Broken c =
    (omega (arith, c.requires.0), found_digits c.args.verdict.advice c.in-Broken.is c.requires.1.0 c.requires.1.1)

pub put_line-requires-in-Holds : goal.put_line-requires-in-Holds
unfolding numbers_of
put_line-requires-in-Holds c =
    (omega (arith, c.requires.0), found_digits c.args.verdict.advice c.in-Holds.is c.requires.1.0 c.requires.1.1)

pub returns-in-Excused : goal.returns-in-Excused
unfolding word_of numbers_of
returns-in-Excused c = put_found c.args.verdict c.in-Excused.is c.put_line.ensures

pub returns-in-Broken : goal.returns-in-Broken
unfolding word_of numbers_of
returns-in-Broken c = put_found c.args.verdict c.in-Broken.is c.put_line-in-Broken.ensures

pub returns-in-Holds : goal.returns-in-Holds
unfolding word_of numbers_of
returns-in-Holds c = put_found c.args.verdict c.in-Holds.is c.put_line-in-Holds.ensures
