-- `lexer::brackets::open_after` meets its contract.
use Rattle.std.proofs.Common.{arith, sym, ◌∙◌}
use Rattle.std.proofs.lemmas.Bool.Decides.{nat_tests}
use Rattle.grammar.specs.Brackets.{open_after}
use Rattle.classes.specs.declared.Class.TheVariants.{Bracket}
use Rattle.classes.proofs.Marks.{differ_true, same_mark}
use Rattle.lexer.proofs.Classes.{unbracketed}
use Rattle.lexer.proofs.brackets.open_after.Goals as goal

pub returns-then-ne : goal.returns-then-ne
returns-then-ne c =
    let args = c.args in
    let other = differ_true c.class_of.result Bracket (sym c.ne.ensures ∙ c.if-ne.true) in
    sym (unbracketed args.b (λ e. other (same_mark _ _ (c.class_of.ensures ∙ e))) args.depth)

pub returns-in-40 : goal.returns-in-40
unfolding open_after
returns-in-40 c = grind (arith, nat_tests)

pub returns-in-41 : goal.returns-in-41
unfolding open_after
returns-in-41 c = grind (arith, nat_tests)

pub returns-in_default : goal.returns-in_default
unfolding open_after
returns-in_default c = grind (arith, nat_tests)
