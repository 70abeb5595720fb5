-- `lexer::skip_blanks` meets its contract.
use Rattle.std.proofs.Common.{◌≡◌, ◌≤◌, length, drop, max}
use Rattle.grammar.specs.Token.{tokens}
use Rattle.lexer.proofs.skip_blanks.Given as goal

abbrev pub invariant-loop-i : goal.invariant-loop-i
invariant-loop-i l = (l.i ≤ max l.at (length l.text)) × (tokens (drop l.at l.text) ≡ tokens (drop l.i l.text))
