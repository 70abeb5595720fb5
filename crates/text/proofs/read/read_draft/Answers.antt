-- `text::read::read_draft` meets its contract.
use Rattle.std.proofs.Common.{◌∙◌}
use Rattle.text.proofs.Text.{draft_read}
use Rattle.text.proofs.read.read_draft.Goals as goal

pub returns : goal.returns
returns c = c.read_sheet.ensures ∙ draft_read _ _ _ _ _ _ _ c.assemble-size.ensures
