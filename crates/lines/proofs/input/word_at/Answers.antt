-- `lines::input::word_at` meets its contract.
use Rattle.std.proofs.Common.{ap₂, arith, ℕ, ◌+◌, ◌*◌}
use Rattle.stored.specs.Bytes.{word}
use Rattle.lines.proofs.input.word_at.Goals as goal

pub returns : goal.returns
unfolding word
returns c = (ap₂ (λ (y z : ℕ). y * 256 + z) c.byte_at.ensures.0 c.byte_at-2.ensures.0, (omega (arith, c.byte_at.ensures.1, c.byte_at-2.ensures.1)))
