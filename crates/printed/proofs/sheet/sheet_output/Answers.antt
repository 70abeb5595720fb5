-- `printed::sheet::sheet_output` meets its contract.
use Rattle.std.proofs.Common.{arith}
use Rattle.printed.proofs.Outputs.{blank_length, sheet_fits, sheet_output, unread_output}
use Rattle.printed.proofs.sheet.sheet_output.Goals as goal

pub refused-requires : goal.refused-requires
refused-requires c = (blank_length _ c.zeros-bytes.ensures, omega arith)

pub returns-then-text-gt-MOST_TEXT : goal.returns-then-text-gt-MOST_TEXT
returns-then-text-gt-MOST_TEXT c =
    unread_output c.args.text.now _ c.zeros-bytes.ensures (omega arith) c.refused.result c.refused.ensures.bytes_are c.refused.ensures.length_is

pub answered-requires : goal.answered-requires
answered-requires c = sheet_fits _ _ _ c.zeros-bytes.ensures _ c.read_text-answer.ensures

pub returns : goal.returns
returns c =
    sheet_output c.args.text.now _ _ c.zeros-bytes.ensures _ (omega arith) c.read_text-answer.ensures c.answered.result c.answered.ensures.bytes_are c.answered.ensures.length_is
