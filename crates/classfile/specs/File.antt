-- Request 2: the source file that holds the table of classes, byte for byte as the generator prints it.
use Rattle.std.specs.Prelude.{ℕ, zero, suc, ◌*◌, List, [], ◌++◌}
use Rattle.grammar.specs.Class.{bytes_of, classes_from}

-- what stands before the lines of classes, and after them
unfoldable pub opening : List ℕ
opening =
    bytes_of "// The class of each byte, sixteen bytes a line: a stands for letter, 0 digit, _ blank, ( bracket, & joiner, $ line end, . other.\n"
    ++ bytes_of "// Printed by the program `classtable`; not to be changed by hand.\n"
    ++ bytes_of "pub const CLASSES: [u8; 256] = *b\"\\\n"

unfoldable pub closing : List ℕ
closing = bytes_of "\";\n"

-- the line of the sixteen bytes from b on
unfoldable pub line_from : ℕ → List ℕ
line_from b = bytes_of "    " ++ classes_from 16 b ++ bytes_of "\\\n"

-- the first n lines
unfoldable pub first_lines : ℕ → List ℕ
first_lines zero = []
first_lines (suc n) = first_lines n ++ line_from (16 * n)

unfoldable pub table_file : List ℕ
table_file = opening ++ first_lines 16 ++ closing
