-- The board program: its sheet's board, or a line; then each minute is a word of two bytes, fed over words enough.
use Rattle.std.specs.Prelude.{ℕ, List, ◌≡◌, replicate, Result, Ok, Err}
use Rattle.stored.specs.Bytes.{word}
use Rattle.stored.specs.Layout.{least_words}
use Rattle.stored.specs.declared.refusal.Refusal.{Refusal}
use Rattle.stored.specs.Sheet.{sheet_refusal}
use Rattle.checker.specs.declared.check.Verdict.{Verdict}
use Rattle.board.specs.declared.Board.{Board}
use Rattle.board.specs.Board.{new_board, feed_answer, next_board}
use Rattle.lines.specs.Lines.{refused_text}
use Rattle.lines.specs.declared.output.Output.{Output}
use Rattle.lines.specs.Output.{Holds}
use Rattle.printed.specs.Line.{most_line}

-- the bytes of the longest input that is a sheet by its length field
abbrev pub most_held : ℕ
most_held = 65537

-- the new board of a sheet to which none of 1 to 9 applies, or the line of the lowest that does
abbrev pub Opens : List ℕ → Result Board (Output most_line) → Type 0
Opens s (Ok b) = (sheet_refusal s ≡ 0) × (b ≡ new_board s)
Opens s (Err line) = (sheet_refusal s ≡ 0 → ⊥) × Holds line (refused_text (sheet_refusal s))

unfoldable pub minute_answer : Board → List ℕ → Result Verdict Refusal
minute_answer b minute = feed_answer b (word minute 0) (replicate least_words 0)

unfoldable pub minute_board : Board → List ℕ → Board
minute_board b minute = next_board b (word minute 0) (replicate least_words 0)
