-- `classfile::put_line` meets its contract.
use Rattle.std.proofs.Common.{arith}
use Rattle.grammar.specs.Class.{bytes_from, bytes_of}
use Rattle.grammar.proofs.Sorted.{classes_long}
use Rattle.lines.proofs.Texts.{put_then, put_size}
use Rattle.classfile.specs.File.{line_from}
use Rattle.classfile.proofs.put_line.Goals as goal

pub put_word-requires : goal.put_word-requires
put_word-requires c =
    let classes = c.put_classes-filled.ensures in
    let indent = c.put_word-indented.ensures in
    omega (arith, classes.end, put_size classes, classes_long 16 c.args.first, indent.end, put_size indent, c.requires)

pub returns : goal.returns
unfolding line_from bytes_of bytes_from
returns c =
    put_then (put_then c.put_word-indented.ensures c.put_classes-filled.ensures) c.put_word.ensures
