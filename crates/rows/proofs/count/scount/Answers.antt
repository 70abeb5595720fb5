-- `rows::count::scount` meets its contract.
use Rattle.std.proofs.Common.{suc, add-one, ◌∙◌}
use Rattle.rows.proofs.Counts.{counted_as}
use Rattle.rows.specs.Symbols.{comparison_of}
use Rattle.rows.proofs.count.scount.Goals as goal

pub returns : goal.returns
returns c =
    let a = c.args in
    c.counted.ensures ∙ counted_as suc a.n (comparison_of a.comparison) a.column a.number 1 a.b add-one
