-- `intervals::search::starts` meets its contract.
use Rattle.std.proofs.Common.{ap, ap₂, ◌∙◌, ℕ, ◌-◌, ◌^◌, arith, bit_and}
use Rattle.intervals.specs.Rows.{starting}
use Rattle.intervals.proofs.Found.{pref_starts, pref_none, init_starts, init_none, first_starts, implies_starts}
use Rattle.intervals.proofs.search.starts.Goals as goal

pub returns-then-i-eq0 : goal.returns-then-i-eq0
returns-then-i-eq0 c =
    let a = c.args in
    rw c.in-Pref.is
    (ap (λ (x : ℕ). bit_and x (2 ^ 64 - 1 - a.answers)) c.below.ensures
    ∙ pref_starts a.n a.i a.first a.answers c.requires (omega arith) c.if-i-eq0.true)

pub returns-else-i-eq0 : goal.returns-else-i-eq0
returns-else-i-eq0 c =
    let a = c.args in
    rw c.in-Pref.is
    (pref_none a.n a.i a.first a.answers c.requires (omega arith) c.if-i-eq0.false)

pub returns-then-i-eq0-2 : goal.returns-then-i-eq0-2
returns-then-i-eq0-2 c =
    let a = c.args in
    rw c.in-Init.is
    (ap₂ (λ (x y : ℕ). bit_and x (bit_and a.first y)) c.below-then-i-eq0-2.ensures c.before_first.ensures
    ∙ init_starts a.n a.i a.first a.answers c.requires (omega arith) c.if-i-eq0-2.true)

pub returns-else-i-eq0-2 : goal.returns-else-i-eq0-2
returns-else-i-eq0-2 c =
    let a = c.args in
    rw c.in-Init.is
    (init_none a.n a.i a.first a.answers c.requires (omega arith) c.if-i-eq0-2.false)

pub returns-in-Anti : goal.returns-in-Anti
unfolding starting
returns-in-Anti c =
    let a = c.args in
    rw c.in-Anti.is
    (ap (λ (x : ℕ). bit_and x a.first) c.cycles_from.ensures
    ∙ first_starts a.n a.i a.first)

pub returns-in-Implies : goal.returns-in-Implies
returns-in-Implies c =
    let a = c.args in
    rw c.in-Implies.is
    (ap (λ (x : ℕ). bit_and x (bit_and a.first (2 ^ 64 - 1 - a.answers))) c.cycles_from-in-Implies.ensures
    ∙ implies_starts a.n a.i a.first a.answers c.requires (omega arith))

pub returns-in-Follows : goal.returns-in-Follows
unfolding starting
returns-in-Follows c =
    let a = c.args in
    rw c.in-Follows.is
    (ap (λ (x : ℕ). bit_and x a.first) c.cycles_from-in-Follows.ensures
    ∙ first_starts a.n a.i a.first)

pub returns-in-Triggers : goal.returns-in-Triggers
unfolding starting
returns-in-Triggers c =
    let a = c.args in
    rw c.in-Triggers.is
    (ap (λ (x : ℕ). bit_and x a.first) c.cycles_from-in-Triggers.ensures
    ∙ first_starts a.n a.i a.first)
