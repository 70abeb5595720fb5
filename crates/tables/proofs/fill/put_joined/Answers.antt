-- `tables::fill::put_joined` meets its contract.
use Rattle.std.proofs.Common.{ℕ, ◌-◌, ◌∙◌, sym, ap, arith, get_or-set_other}
use Rattle.rows.specs.Row.{joined}
use Rattle.rows.proofs.Joins.{joined_none}
use Rattle.tables.specs.Table.{row_at}
use Rattle.tables.proofs.Fills.{one_there, one_stored}
use Rattle.tables.proofs.fill.put_joined.Goals as goal

pub loop-b-init : goal.loop-b-init
loop-b-init c =
    let a = c.args in
    (λ k l h. absurd (omega arith), c.requires.empty, sym (joined_none (row_at a.before.now a.x.b)))

pub loop-b-preserved-then-ends-ne0 : goal.loop-b-preserved-then-ends-ne0
loop-b-preserved-then-ends-ne0 c =
    let a = c.args in
    let at = c.loop-b in
    let rows = row_at a.before.now a.x.b in
    let here = c.joined_at-kept.ensures ∙ ap (λ (z : ℕ). joined z rows) c.row_at-ends.ensures in (
      one_stored at.own at.b _ (λ k. joined (row_at a.before.now a.x.a k) rows) c.loop-b-test.true (omega (arith, c.requires.long_enough)) here at.invariant.0,
      λ k l. get_or-set_other at.own (at.b - 1) k _ 0 (omega arith) ∙ at.invariant.1 k (omega arith),
      c.joined_at-kept.ensures,
    )

pub loop-b-preserved : goal.loop-b-preserved
loop-b-preserved c =
    let a = c.args in
    let at = c.loop-b in
    let rows = row_at a.before.now a.x.b in
    let here = at.invariant.1 (at.b - 1) (omega arith) ∙ sym (joined_none rows) ∙ ap (λ (z : ℕ). joined z rows) (sym c.if-ends-ne0.false ∙ c.row_at-ends.ensures) in (
      one_there at.own at.b (λ k. joined (row_at a.before.now a.x.a k) rows) c.loop-b-test.true here at.invariant.0,
      λ k l. at.invariant.1 k (omega arith),
      at.invariant.2,
    )
