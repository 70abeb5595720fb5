-- Document 01, the program's input: the first two bytes are the sheet's length field, the sheet ends where it says or with the input, and
-- the rest is the trace.
use Rattle.std.specs.Prelude.{ℕ, ◌+◌, min, List, length, take, drop}
use Rattle.stored.specs.Bytes.{word}

unfoldable pub split_at : List ℕ → ℕ
split_at l = min (word l 0 + 2) (length l)

unfoldable pub sheet_of : List ℕ → List ℕ
sheet_of l = take (split_at l) l

unfoldable pub trace_of : List ℕ → List ℕ
trace_of l = drop (split_at l) l
