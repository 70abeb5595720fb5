-- `rows::count::counted` meets its contract.
use Rattle.std.proofs.Common.{ap, ◌∙◌, ℕ, arith, bit_and}
use Rattle.rows.specs.Symbols.{comparison_of, counted_to}
use Rattle.rows.proofs.Rows.{masked_row}
use Rattle.rows.proofs.count.counted.Goals as goal

pub returns : goal.returns
returns c =
    let a = c.args in
    ap (λ (x : ℕ). bit_and x c.passing.result) c.cycles_from.ensures
    ∙ masked_row a.n c.passing.result (counted_to (comparison_of a.comparison) a.column a.number a.last) a.b
    (λ e l m. c.passing.ensures.passes e l (omega arith))
