-- `text::sheet::lines` meets its contract.
use Rattle.text.proofs.Lines.{no_lines, line_more, lines_took, lines_none}
use Rattle.text.proofs.sheet.lines.Goals as goal

pub loop-nodes-init : goal.loop-nodes-init
loop-nodes-init c = no_lines c.requires

pub returns-in_err-here : goal.returns-in_err-here
returns-in_err-here c = rw c.from_residual.ensures (lines_none c.loop-nodes.invariant c.in_err-here.ensures)

pub loop-nodes-preserved : goal.loop-nodes-preserved
loop-nodes-preserved c = line_more c.loop-nodes.invariant c.in_ok-here.ensures

pub returns : goal.returns
returns c = lines_took c.loop-nodes.invariant c.ended.ensures c.loop-nodes-test.false
