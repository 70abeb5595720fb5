-- `text::sheet::ended` meets its contract.
use Rattle.std.proofs.Common.{sym, ap, ◌∙◌}
use Rattle.lexer.specs.Lexed.{is_end}
use Rattle.text.proofs.Lines.{end_next, not_end}
use Rattle.text.proofs.sheet.ended.Goals as goal

pub returns-in-End : goal.returns-in-End
unfolding is_end
returns-in-End c = sym (ap is_end c.in-End.is) ∙ end_next c.next.ensures

pub returns-in_default : goal.returns-in_default
returns-in_default c = not_end _ c.in_default.not-End ∙ end_next c.next.ensures
