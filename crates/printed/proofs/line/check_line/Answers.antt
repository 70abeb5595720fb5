-- `printed::line::check_line` meets its contract.
use Rattle.printed.specs.Line.{line_for}
use Rattle.printed.proofs.line.check_line.Goals as goal

pub returns : goal.returns
unfolding line_for
returns c = rw (← c.answer_for.ensures.0) c.answer_line.ensures
