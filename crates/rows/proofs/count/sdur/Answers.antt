-- `rows::count::sdur` meets its contract.
use Rattle.std.proofs.Common.{add-zero, ◌∙◌}
use Rattle.rows.proofs.Counts.{counted_as}
use Rattle.rows.specs.Symbols.{comparison_of}
use Rattle.rows.proofs.count.sdur.Goals as goal

pub returns : goal.returns
returns c =
    let a = c.args in
    c.counted.ensures ∙ counted_as (λ e. e) a.n (comparison_of a.comparison) a.column a.number 0 a.b add-zero
