-- `lines::lines::put_word` meets its contract.
use Rattle.std.proofs.Common.{arith, refl}
use Rattle.lines.proofs.Texts.{put_part}
use Rattle.lines.proofs.lines.put_word.Goals as goal

pub returns : goal.returns
returns c =
    let a = c.args in
    record { bytes = put_part a.out.now _ a.word.now a.at _ c.copy_from_slice.ensures.after (omega arith) (omega arith); end = refl }
