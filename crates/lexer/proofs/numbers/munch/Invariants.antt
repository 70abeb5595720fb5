-- `lexer::numbers::munch` meets its contract.
use Rattle.std.proofs.Common.{◌≡◌, ◌+◌, ◌≤◌, length, drop}
use Rattle.grammar.specs.Token.{digits, number_from, numbered}
use Rattle.lexer.specs.Lexed.{Small}
use Rattle.lexer.proofs.Digits.{read_on}
use Rattle.lexer.proofs.numbers.munch.Given as goal

abbrev pub invariant-loop-i : goal.invariant-loop-i
invariant-loop-i l =
    (l.i ≤ length l.text) × (l.at + digits (drop l.at l.text) ≡ l.i + digits (drop l.i l.text))
    × Small l.value × (numbered (number_from 0 (drop l.at l.text)) ≡ read_on l.value (drop l.i l.text))
