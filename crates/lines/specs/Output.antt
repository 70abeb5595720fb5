-- What a program writes: a text in an array; where it may be a sheet, the lent bytes up to the length answered, or "REFUSED n" and a newline.
use Rattle.std.specs.Prelude.{ℕ, List, ◌≡◌, length, Result, Ok, Err}
use Rattle.std.proofs.lemmas.List.Edits.{sets}
use Rattle.stored.specs.declared.refusal.Refusal.{Refusal}
use Rattle.stored.specs.Refusal.{number_of}
use Rattle.lines.specs.declared.output.Output.{Output}
use Rattle.lines.specs.Lines.{refused_text, padded}

-- r is a text, and its bytes are zero past the text
pub record Holds {n : ℕ} (r : Output n) (text : List ℕ) : Type 0 where
  pub bytes_are : r.bytes ≡ padded n text
  pub length_is : r.length ≡ length text

-- the bytes and the length for an answer, where these bytes were lent
unfoldable pub bytes_for : List ℕ → Result ℕ Refusal → List ℕ
bytes_for bytes (Ok size) = bytes
bytes_for bytes (Err refusal) = sets bytes 0 (refused_text (number_of refusal))

unfoldable pub length_for : Result ℕ Refusal → ℕ
length_for (Ok size) = size
length_for (Err refusal) = length (refused_text (number_of refusal))
