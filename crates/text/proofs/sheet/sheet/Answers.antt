-- `text::sheet::sheet` meets its contract.
use Rattle.text.proofs.Lines.{no_signals, no_names, no_line_end, no_lines_there, sheet_took}
use Rattle.text.proofs.sheet.sheet.Goals as goal

pub returns-in_err-s : goal.returns-in_err-s
returns-in_err-s c = rw c.from_residual.ensures (no_signals c.in_err-s.ensures)

pub returns-in_err-m : goal.returns-in_err-m
returns-in_err-m c = rw c.from_residual-in_err-m.ensures (no_names c.in_ok-s.ensures c.in_err-m.ensures)

pub returns-in_err-end : goal.returns-in_err-end
returns-in_err-end c =
    rw c.from_residual-in_err-end.ensures (no_line_end c.in_ok-s.ensures c.in_ok-m.ensures c.in_err-end.ensures)

pub returns-in_err-lines : goal.returns-in_err-lines
returns-in_err-lines c =
    rw c.from_residual-in_err-lines.ensures
    (no_lines_there c.in_ok-s.ensures c.in_ok-m.ensures c.in_ok-end.ensures c.in_err-lines.ensures)

pub returns : goal.returns
returns c = sheet_took c.in_ok-s.ensures c.in_ok-m.ensures c.in_ok-end.ensures c.in_ok-lines.ensures
