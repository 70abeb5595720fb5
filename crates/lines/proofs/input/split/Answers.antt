-- `lines::input::split` meets its contract.
use Rattle.std.proofs.Common.{arith}
use Rattle.lines.specs.Input.{split_at}
use Rattle.lines.proofs.input.split.Goals as goal

pub returns : goal.returns
unfolding split_at
returns c = omega (arith, c.word_at-end.ensures.0)
