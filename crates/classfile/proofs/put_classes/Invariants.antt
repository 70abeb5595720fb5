-- `classfile::put_classes` meets its contract.
use Rattle.std.proofs.Common.{◌≡◌, ◌+◌, length}
use Rattle.grammar.specs.Class.{classes_from}
use Rattle.lines.specs.Lines.{Put}
use Rattle.classfile.proofs.put_classes.Given as goal

abbrev pub invariant-loop-k : goal.invariant-loop-k
invariant-loop-k l = (length l.out ≡ length l.initial.out) × Put l.initial.out l.out l.at (l.at + l.k) (classes_from l.k l.first)
