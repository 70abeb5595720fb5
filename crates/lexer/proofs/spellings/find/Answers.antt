-- `lexer::spellings::find` meets its contract.
use Rattle.std.proofs.Common.{rules, ◌≡◌, ℕ, List, [], ◌∷◌, None, length, refl, arith}
use Rattle.lexer.specs.declared.spellings.Spelling.{Spelling as Row}
use Rattle.lexer.specs.Rows.{first_row}
use Rattle.lexer.proofs.spellings.find.Goals as goal

none_in_none : (rows : List Row) (text : List ℕ) → length text ≡ 0 → None ≡ first_row rows text
unfolding first_row
none_in_none rows [] h = refl
none_in_none rows (b ∷ text) h = absurd (omega arith)

pub returns-in_err-first : goal.returns-in_err-first
returns-in_err-first c = rw c.from_residual.ensures (none_in_none _ _ c.in_err-first.ensures.cases)

pub returns : goal.returns
unfolding first_row
returns c =
    let split : c.args.text.now ≡ c.in_ok-first.first.now ∷ c.in_ok-first.rest.now = search rules in
    rw split c.row_with.ensures
