-- `text::sheet::line` meets its contract.
use Rattle.propositions.proofs.Went.{either}
use Rattle.text.proofs.Lines.{role_none, no_clause, no_end, line_took}
use Rattle.text.proofs.sheet.line.Goals as goal

pub returns-in_err-word : goal.returns-in_err-word
returns-in_err-word c = rw c.from_residual.ensures (role_none c.requires.1 c.in_err-word.ensures)

pub returns-in_err-said : goal.returns-in_err-said
returns-in_err-said c =
    rw c.from_residual-in_err-said.ensures (no_clause c.requires.0.inside c.in_ok-word.ensures c.in_err-said.ensures)

pub returns : goal.returns
returns c =
    let role = c.in_ok-word.ensures in
    let said = c.in_ok-said.ensures in
    either c.sign.result (no_end c.requires.0.inside role said) (λ end. line_took c.requires.0.inside role said) c.sign.ensures
