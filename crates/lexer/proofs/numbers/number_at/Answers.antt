-- `lexer::numbers::number_at` meets its contract.
use Rattle.lexer.proofs.Read.{number_means, none_means, number_read}
use Rattle.lexer.proofs.numbers.number_at.Goals as goal

pub returns-in-Some : goal.returns-in-Some
returns-in-Some c =
    let read = c.munch-read.ensures in
    number_read _ _ _ _ c.requires.0 c.requires.1 read (number_means _ _ c.in-Some.is read.small)

pub returns-in-None : goal.returns-in-None
returns-in-None c = number_read _ _ _ _ c.requires.0 c.requires.1 c.munch-read.ensures (rw c.in-None.is none_means)
