-- The text of an answer of the table operation: 64 lines of 16 hexadecimal digits, row 0 first, or "REFUSED n" and a newline.
use Rattle.std.specs.Prelude.{ℕ, ◌+◌, ◌-◌, ◌*◌, ◌/◌, ◌%◌, ◌^◌, cond, List, ltb, eqb, get_or, drop, replicate, Result, Ok, Err}
use Rattle.stored.specs.Bytes.{word, in_order}
use Rattle.stored.specs.Layout.{least_words}
use Rattle.stored.specs.declared.refusal.Refusal.{Refusal}
use Rattle.stored.specs.Refusal.{number_of}
use Rattle.checker.specs.Table.{table_answer}
use Rattle.lines.specs.Input.{sheet_of, trace_of}
use Rattle.lines.specs.Lines.{refused_text}

-- 0 to 9, a to f
unfoldable pub glyph_of : ℕ → ℕ
glyph_of d = cond (ltb d 10) (48 + d) (87 + d)

-- byte j of a row's line of 17 bytes: its digits, the highest first, and a newline
unfoldable pub row_byte : ℕ → ℕ → ℕ
row_byte row j = cond (eqb j 16) 10 (glyph_of (row / 2 ^ (4 * (15 - j)) % 16))

unfoldable pub table_byte : List ℕ → ℕ → ℕ
table_byte rows k = row_byte (get_or rows (k / 17) 0) (k % 17)

unfoldable pub table_text : List ℕ → List ℕ
table_text rows = in_order 1088 (table_byte rows)

unfoldable pub text_of : Result (List ℕ) Refusal → List ℕ
text_of (Ok rows) = table_text rows
text_of (Err refusal) = refused_text (number_of refusal)

-- The program's input is the node in two bytes, a byte for each of the three cycles, and the sheet with the trace.
unfoldable pub answer_to : List ℕ → Result (List ℕ) Refusal
answer_to l =
    table_answer (sheet_of (drop 5 l)) (trace_of (drop 5 l)) (word l 0) (get_or l 2 0) (get_or l 3 0) (get_or l 4 0) (replicate least_words 0)

unfoldable pub printed_for : List ℕ → List ℕ
printed_for l = text_of (answer_to l)
