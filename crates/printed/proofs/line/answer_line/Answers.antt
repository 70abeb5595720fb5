-- `printed::line::answer_line` meets its contract.
use Rattle.printed.specs.Line.{most_line}
use Rattle.lines.proofs.Texts.{put_padded}
use Rattle.printed.proofs.line.answer_line.Goals as goal

pub returns : goal.returns
returns c =
    let e = c.put_answer-length.ensures in
    let w = put_padded most_line c.zeros-bytes.ensures e.0 e.1 in
    record { bytes_are = w.0; length_is = w.1 }
