-- `rows::shape::whole` meets its contract.
use Rattle.std.proofs.Common.{ap, ap₂, ◌∙◌, ℕ, suc, arith, bit_and, not}
use Rattle.rows.proofs.Shapes.{held_is}
use Rattle.semantics.specs.Cycles.{some_below}
use Rattle.semantics.specs.Proposition.{bit}
use Rattle.rows.specs.Row.{word}
use Rattle.rows.proofs.shape.whole.Goals as goal

pub returns : goal.returns
returns c =
    let a = c.args in
    let p = c.requires in
    ap₂ bit_and c.cycles_from.ensures
    (c.before_first-ends.ensures ∙ ap (λ (x : ℕ). word 64 (λ e. not (some_below (suc e) (bit x)))) c.lacking.ensures)
    ∙ held_is suc a.n a.column a.b (λ e l. omega arith) p.1
