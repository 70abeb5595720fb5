-- `lexer::ends_line` meets its contract.
use Rattle.std.proofs.Common.{ℕ, ◌-◌, ◌≡◌, List, Option, sym, ap, ◌∙◌, length, eqb, slice_get, unwrap_or}
use Rattle.std.proofs.lemmas.Option.{unwrap_or-slice_get}
use Rattle.grammar.specs.Token.{is_line_end}
use Rattle.grammar.specs.Class.{line_end_class}
use Rattle.grammar.specs.Spelled.{ends_line}
use Rattle.classes.specs.declared.Class.TheVariants.{LineEnd}
use Rattle.classes.proofs.Marks.{equal_marks}
use Rattle.lexer.proofs.Classes.{line_end_class_lem}
use Rattle.lexer.proofs.ends_line.Goals as goal

last_tested : (text : List ℕ) (last : Option ℕ) → last ≡ slice_get text (length text - 1) → is_line_end (unwrap_or last 0) ≡ ends_line text
unfolding ends_line
last_tested text last e = ap is_line_end (rw e (unwrap_or-slice_get text (length text - 1) 0))

pub returns-in-Some : goal.returns-in-Some
returns-in-Some c =
    c.eq.ensures ∙ equal_marks c.class_of.result LineEnd ∙ ap (λ (k : ℕ). eqb k line_end_class) c.class_of.ensures ∙ sym (line_end_class_lem _) ∙ last_tested _ _ c.in-Some.ensures.value

pub returns-in-None : goal.returns-in-None
unfolding is_line_end
returns-in-None c = last_tested _ _ c.in-None.ensures.value
