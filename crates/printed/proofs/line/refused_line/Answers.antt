-- `printed::line::refused_line` meets its contract.
use Rattle.std.proofs.Common.{arith}
use Rattle.printed.specs.Line.{most_line}
use Rattle.lines.proofs.Texts.{put_padded}
use Rattle.printed.proofs.line.refused_line.Goals as goal

pub returns : goal.returns
returns c =
    let e = c.put_refused-length.ensures in
    let w = put_padded most_line c.zeros-bytes.ensures e.0 (omega (arith, e.1)) in
    record { bytes_are = w.0; length_is = w.1 }
