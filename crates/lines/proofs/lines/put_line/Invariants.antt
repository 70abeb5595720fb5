-- `lines::lines::put_line` meets its contract.
use Rattle.std.proofs.Common.{◌++◌, take}
use Rattle.lines.specs.Lines.{spaced, Put}
use Rattle.lines.proofs.lines.put_line.Given as goal

abbrev pub invariant-loop-number : goal.invariant-loop-number
invariant-loop-number l = Put l.fn.out l.out 0 l.at (l.word ++ spaced (take l.number-index l.numbers))
