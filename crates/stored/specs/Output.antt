-- What an operation that writes into lent bytes answers.
use Rattle.std.specs.Prelude.{ℕ, Result, Ok, Err}
use Rattle.stored.specs.declared.refusal.Refusal.{Refusal}

-- the length of what is written, 0 where nothing is
unfoldable pub written_length : Result ℕ Refusal → ℕ
written_length (Ok size) = size
written_length (Err refusal) = 0
