-- `rows::count::slen` meets its contract.
use Rattle.std.proofs.Common.{arith, ℕ, ◌-◌, ap, ◌∙◌, bit_and}
use Rattle.semantics.specs.Formula.{compared}
use Rattle.rows.specs.Symbols.{comparison_of}
use Rattle.rows.proofs.Rows.{masked_row}
use Rattle.rows.proofs.count.slen.Goals as goal

pub returns : goal.returns
returns c =
    let a = c.args in
    ap (λ (x : ℕ). bit_and x c.distant.result) c.cycles_from.ensures
    ∙ masked_row a.n c.distant.result (λ b e. compared (comparison_of a.comparison) (e - b) a.number) a.b
    (λ e l m. c.distant.ensures.passes e l (omega arith))
