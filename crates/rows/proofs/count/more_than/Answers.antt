-- `rows::count::more_than` meets its contract.
use Rattle.std.proofs.Common.{◌≡◌, sym, ap, subst, ℕ, ◌-◌, ◌+◌, ◌^◌, arith, bit_and}
use lib.Count.{ones}
use Rattle.rows.proofs.Counts.{Dropped, dropped_none, dropped_some, dropped_more, few_above, dropped_above}
use Rattle.rows.proofs.count.more_than.Goals as goal

pub returns-then-left-number : goal.returns-then-left-number
returns-then-left-number c =
    let a = c.args in
    let start = ap (λ (x : ℕ). ones (bit_and a.column (2 ^ 64 - 1 - x))) c.below.ensures in
    few_above a.column a.number a.last a.b c.requires (omega (arith, start, c.if-left-number.true))

pub loop-init : goal.loop-init
loop-init c =
    let a = c.args in
    let start = ap (λ (x : ℕ). bit_and a.column (2 ^ 64 - 1 - x)) c.below.ensures in
    let all : a.number ≡ a.number - 0 = omega arith in
    (omega (arith, ap ones start, c.if-left-number.false), subst (λ (x : ℕ). Dropped a.column a.b a.number x (a.number - 0)) (sym start) (rw (← all) (dropped_none a.column a.b a.number)))

pub overflow_sub-left : goal.overflow_sub-left
overflow_sub-left c =
    let inv = c.loop.invariant in
    omega (arith, dropped_some _ _ _ _ _ inv.1 inv.0)

pub loop-preserved : goal.loop-preserved
loop-preserved c =
    let a = c.args in
    let at = c.loop in
    let fewer : a.number - at.counter - 1 ≡ a.number - (at.counter + 1) = omega arith in
    (at.invariant.0, rw (← fewer) (dropped_more _ _ _ _ _ at.invariant.1 (dropped_some _ _ _ _ _ at.invariant.1 at.invariant.0) (omega arith)))

pub returns : goal.returns
returns c =
    let a = c.args in
    let at = c.loop in
    let end : a.number - at.counter ≡ 0 = omega arith in
    let dropped = subst (λ (k : ℕ). Dropped a.column a.b a.number at.left k) end at.invariant.1 in
    rw c.below-2.ensures
    (dropped_above a.column a.number a.last a.b c.requires at.left
    (dropped_some _ _ _ _ _ at.invariant.1 at.invariant.0) dropped)
