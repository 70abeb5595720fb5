-- `printed::wall::open_line` meets its contract.
use Rattle.std.proofs.Common.{ℕ, sym, subst, ◌∙◌}
use Rattle.lines.specs.Lines.{refused_text}
use Rattle.lines.specs.Output.{Holds}
use Rattle.printed.proofs.Shown.{opened_board, refused_number}
use Rattle.printed.proofs.wall.open_line.Goals as goal

pub returns-in-Ok : goal.returns-in-Ok
returns-in-Ok c = opened_board c.args.sheet.now _ (sym c.open.ensures ∙ c.in-Ok.is)

pub returns-in-Err : goal.returns-in-Err
returns-in-Err c =
    let n = refused_number c.args.sheet.now _ (sym c.open.ensures ∙ c.in-Err.is) in
    (n.0, rw (← n.1) (subst (λ (k : ℕ). Holds c.refused_line.result (refused_text k)) c.number.ensures.value c.refused_line.ensures))
