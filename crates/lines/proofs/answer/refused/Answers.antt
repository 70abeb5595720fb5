-- `lines::answer::refused` meets its contract.
use Rattle.std.proofs.Common.{arith}
use Rattle.lines.proofs.answer.refused.Goals as goal

pub returns : goal.returns
returns c =
    let put = c.put_refused-length.ensures.0 in
    record { bytes_are = put.bytes; length_is = omega (arith, put.end) }
