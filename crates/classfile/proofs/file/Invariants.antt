-- `classfile::file` meets its contract.
use Rattle.std.proofs.Common.{◌≡◌, length}
use Rattle.lines.specs.Lines.{Put}
use Rattle.classfile.specs.File.{first_lines}
use Rattle.classfile.proofs.file.Given as goal

abbrev pub invariant-loop-row : goal.invariant-loop-row
invariant-loop-row l = (length l.bytes ≡ 588) × Put l.initial.bytes l.bytes l.initial.at l.at (first_lines l.row)
