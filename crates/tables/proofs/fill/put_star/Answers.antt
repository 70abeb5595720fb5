-- `tables::fill::put_star` meets its contract.
use Rattle.std.proofs.Common.{ℕ, ◌-◌, ◌^◌, ◌∙◌, sym, ap, arith, get_or, set, bit_and, bit_or}
use Rattle.std.proofs.Math.Path.{ap₂}
use Rattle.rows.specs.Row.{joined, starred}
use Rattle.rows.proofs.Joins.{joined_none, starred_is}
use Rattle.tables.specs.Table.{row_at}
use Rattle.tables.proofs.Fills.{joined_after, starred_after, one_stored}
use Rattle.tables.proofs.fill.put_star.Goals as goal

pub loop-b-init : goal.loop-b-init
loop-b-init c = (λ k l h. absurd (omega arith), sym (joined_none _))

pub loop-b-preserved : goal.loop-b-preserved
loop-b-preserved c =
    let a = c.args in
    let at = c.loop-b in
    let b = at.b - 1 in
    let links = c.row_at in
    let value = bit_or c.only.result c.join_more-kept.result in
    let stars : ℕ → ℕ = λ k. get_or at.own k 0 in
    let stored : ℕ → ℕ = λ k. get_or (set at.own b value) k 0 in
    let cut = ap (λ (z : ℕ). bit_and links.result (2 ^ 64 - 1 - z)) c.below.ensures in
    let here =
    ap₂ bit_or c.only.ensures (c.join_more-kept.ensures ∙ ap (λ (z : ℕ). joined z stars) cut)
    ∙ starred_is links.result stars b
    ∙ ap (λ (z : ℕ). starred z stars b) links.ensures
    ∙ starred_after at.own b value (row_at a.before.now a.x.a b) b (omega arith) in (
      one_stored at.own at.b value (λ k. starred (row_at a.before.now a.x.a k) stored k) c.loop-b-test.true (omega (arith, c.requires.long_enough)) here
          (λ k l h. at.invariant.0 k l h ∙ starred_after at.own b value (row_at a.before.now a.x.a k) k (omega arith)),
      c.join_more-kept.ensures ∙ ap (λ (z : ℕ). joined z stars) cut ∙ joined_after at.own b value links.result b (omega arith) ∙ ap (λ (z : ℕ). joined z stored) (sym cut),
    )
