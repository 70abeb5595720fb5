-- `lines::lines::put_refused` meets its contract.
use Rattle.std.proofs.Common.{[], ◌∷◌, arith}
use Rattle.lines.specs.Lines.{refused_word, refused_text}
use Rattle.lines.proofs.Texts.{line_most}
use Rattle.lines.proofs.lines.put_refused.Goals as goal

pub returns : goal.returns
unfolding refused_text
returns c =
    let e = c.put_line.ensures in
    (e, omega (arith, e.end, line_most refused_word (c.args.number ∷ []) (c.requires.1, omega arith)))
