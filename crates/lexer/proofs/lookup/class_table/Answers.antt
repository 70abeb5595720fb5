-- `lexer::lookup::class_table` meets its contract: one computation over the whole table.
use Rattle.std.proofs.Common.{refl}
use Rattle.grammar.specs.Class.{classes_from, class_table}
use Rattle.grammar.proofs.Sorted.{sorting}
use Rattle.lexer.proofs.lookup.class_table.Goals as goal

pub returns : goal.returns
unfolding sorting classes_from class_table
returns c = refl
