-- What the program sheettext writes: the stored sheet of a text, or "REFUSED n" and a newline.
use Rattle.std.specs.Prelude.{ℕ, ◌≤◌, ◌<◌, List, ◌≡◌, length, take, drop, replicate, Result, Ok, Err}
use Rattle.stored.specs.declared.refusal.Refusal.{Refusal}
use Rattle.stored.specs.Refusal.{number_of}
use Rattle.stored.specs.Layout.{least_output}
use Rattle.text.specs.Text.{ReadText}
use Rattle.lines.specs.declared.output.Output.{Output}
use Rattle.lines.specs.Lines.{refused_text}

-- the most bytes of text that the program holds
abbrev pub most_text : ℕ
most_text = 65536

-- what is written for an answer, where y is now in the lent bytes
unfoldable pub said_for : List ℕ → Result ℕ Refusal → List ℕ
said_for y (Ok size) = take size y
said_for y (Err refusal) = refused_text (number_of refusal)

-- what the operation on texts answers where bytes enough are lent, all zero
pub record Answered (text out : List ℕ) : Type 0 where
  pub lent : List ℕ
  pub answer : Result ℕ Refusal
  pub read : ReadText text (replicate least_output 0) lent answer
  pub written : out ≡ said_for lent answer

-- r's bytes up to its length are the answer to the text, and zero from there on; 0, which is no refusal's number, for a text longer than
-- the program holds, since nothing was read of it
pub record SheetOutput (text : List ℕ) (r : Output least_output) : Type 0 where
  pub inside : r.length ≤ length r.bytes
  pub answered : length text ≤ most_text → Answered text (take r.length r.bytes)
  pub unread : most_text < length text → take r.length r.bytes ≡ refused_text 0
  pub later : drop r.length r.bytes ≡ drop r.length (replicate least_output 0)
