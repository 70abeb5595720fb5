-- `rows::join::join_more` meets its contract.
use Rattle.std.proofs.Common.{ap, ap₂, ◌∙◌, ℕ, get_or, bit_or}
use Rattle.rows.specs.Row.{joined}
use Rattle.rows.proofs.Joins.{join_new}
use Rattle.rows.proofs.join.join_more.Goals as goal
use Rattle.rows.proofs.join.join_more.Goals.{then-had-row, else-had-row}

pub returns : goal.returns
returns c =
    let a = c.args in
    let rows : ℕ → ℕ = λ i. get_or a.second.now i 0 in
    elim c.if-had-row.branch [
      | then-had-row w ↦ ap₂ bit_or (ap (λ p. p.1) w.left-is ∙ c.requires.1) (c.join.ensures ∙ ap (λ p. joined p.0 rows) w.left-is)
          ∙ join_new a.row a.had rows w.if-had-row.true
      | else-had-row w ↦ ap₂ bit_or (ap (λ p. p.1) w.left-is) (c.join.ensures ∙ ap (λ p. joined p.0 rows) w.left-is)
    ]
