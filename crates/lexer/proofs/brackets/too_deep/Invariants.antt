-- `lexer::brackets::too_deep` meets its contract.
use Rattle.std.proofs.Common.{◌≡◌, ◌≤◌, drop}
use Rattle.grammar.specs.Brackets.{deeper, too_deep}
use Rattle.lexer.proofs.brackets.too_deep.Given as goal

abbrev pub invariant-loop-b : goal.invariant-loop-b
invariant-loop-b l = (l.depth ≤ 32) × (too_deep l.text ≡ deeper 32 l.depth (drop l.b-index l.text))
