-- `lexer::lookup::class_of` meets its contract: the rule at any byte, from the promise of the whole table.
use Rattle.std.proofs.Common.{ℕ, List, arith, ap, ◌∙◌, get_or}
use Rattle.grammar.proofs.Sorted.{class_at}
use Rattle.classes.specs.Mark.{mark_of, marked}
use Rattle.classes.proofs.Marks.{class_mark}
use Rattle.lexer.proofs.lookup.class_of.Goals as goal

pub returns : goal.returns
returns c =
    let b = c.args.b in
    ap mark_of c.into.ensures
    ∙ ap (λ (t : List ℕ). mark_of (marked (get_or t b 0))) c.class_table.ensures
    ∙ ap (λ (k : ℕ). mark_of (marked k)) (class_at b (omega arith))
    ∙ class_mark b
