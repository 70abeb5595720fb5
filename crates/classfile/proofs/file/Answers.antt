-- `classfile::file` meets its contract.
use Rattle.std.proofs.Common.{◌≡◌, refl, ◌∙◌, arith}
use Rattle.grammar.specs.Class.{bytes_from, bytes_of}
use Rattle.lines.proofs.Texts.{put_then, put_size}
use Rattle.classfile.specs.File.{opening, closing, first_lines, table_file}
use Rattle.classfile.proofs.Lines.{lines_long, put_line_more, file_long, put_all}
use Rattle.classfile.proofs.file.Goals as goal

pub loop-row-init : goal.loop-row-init
unfolding first_lines
loop-row-init c = (put_size c.put_word-at.ensures, record { bytes = refl; end = omega arith })

pub put_line-at-requires : goal.put_line-at-requires
put_line-at-requires c =
    let at = c.loop-row in
    let opened = c.put_word-at.ensures in (
      omega (arith, at.invariant.1.end, lines_long at.row, opened.end),
      omega arith,
    )

pub loop-row-preserved : goal.loop-row-preserved
loop-row-preserved c =
    let at = c.loop-row in
    let more = c.put_line-at.ensures in
    (put_size more ∙ at.invariant.0, put_line_more at.row at.invariant.1 more)

pub put_word-requires : goal.put_word-requires
put_word-requires c =
    let at = c.loop-row in
    let opened = c.put_word-at.ensures in
    omega (arith, at.invariant.1.end, lines_long at.row, opened.end)

pub returns : goal.returns
unfolding opening closing table_file bytes_of bytes_from
returns c =
    let at = c.loop-row in
    let opened = c.put_word-at.ensures in
    let all : at.row ≡ 16 = omega arith in
    let lines = rw all at at.invariant.1 in
    put_all (put_then (put_then opened lines) c.put_word.ensures) file_long
