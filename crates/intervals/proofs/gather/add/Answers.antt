-- `intervals::gather::add` meets its contract.
use Rattle.std.proofs.Common.{ℕ, ◌+◌, ◌-◌, ◌^◌, ◌≤◌, min, ◌≡◌, refl, ap, ◌∙◌, arith, bit_and, ltb, length-set}
use Rattle.rows.specs.Row.{word}
use Rattle.tables.specs.Table.{standing, row_at}
use Rattle.intervals.proofs.Gathered.{added_none, added_turn, added_all, added_ends}
use Rattle.intervals.proofs.gather.add.Goals as goal

pub loop-b-init : goal.loop-b-init
loop-b-init c =
    let long = c.requires.2 in
    (long, omega arith, omega (arith, c.min-high.ensures), added_none _ _ long)

pub loop-b-preserved : goal.loop-b-preserved
unfolding row_at
loop-b-preserved c =
    let l = c.loop-b in
    let a = c.args in
    let row = ap (λ (x : ℕ). bit_and x (2 ^ 64 - 1 - c.below-ends.result)) c.cut_row.ensures in (
      length-set l.out l.b _ ∙ l.invariant.0,
      omega arith,
      l.invariant.2,
      added_turn a.out.now l.out _ l.all l.b _ _ (omega arith) l.invariant.3 row refl,
    )

pub returns : goal.returns
returns c =
    let l = c.loop-b in
    let a = c.args in
    let ends = c.below-ends.ensures ∙ ap (λ (x : ℕ). word 64 (λ e. ltb e x)) c.last_name.ensures in
    let high = c.min-high.ensures ∙ ap (λ (x : ℕ). min (x + 1) a.n) c.first_name.ensures.0 in
    let end : l.b ≡ c.min-high.result = omega arith in
    let few : a.n ≤ 64 = omega arith in
    let all = added_all a.out.now l.out a.words.now a.root a.names a.short (standing a.cycles) a.n _ l.all l.b few
    (ap (λ (x : ℕ). 2 ^ 64 - 1 - x) ends) (end ∙ high) l.invariant.3 in
    let some = added_ends a.out.now l.out a.words.now a.root a.names a.short (standing a.cycles) a.n _ l.all l.b few
    (ap (λ (x : ℕ). 2 ^ 64 - 1 - x) ends) (end ∙ high) l.invariant.3 in
    record { rows_long = l.invariant.0; adds = all; ends = some }
