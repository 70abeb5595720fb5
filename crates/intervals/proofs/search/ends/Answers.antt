-- `intervals::search::ends` meets its contract.
use Rattle.std.proofs.Common.{ap, ◌∙◌, arith, ℕ, bit_and, get_or}
use Rattle.intervals.specs.Rows.{test_of, ending}
use Rattle.intervals.proofs.Found.{only_end, first_starts}
use Rattle.intervals.proofs.search.ends.Goals as goal

pub returns-in-Pref : goal.returns-in-Pref
unfolding ending
returns-in-Pref c =
    let a = c.args in
    rw c.in-Pref.is (c.only.ensures ∙ only_end a.n a.j (omega arith) (omega arith))

pub returns-in-Init : goal.returns-in-Init
unfolding ending
returns-in-Init c =
    let a = c.args in
    rw c.in-Init.is (c.only-in-Init.ensures ∙ only_end a.n a.j (omega arith) (omega arith))

pub returns-in-Anti : goal.returns-in-Anti
unfolding ending
returns-in-Anti c =
    let a = c.args in
    rw c.in-Anti.is (c.only-in-Anti.ensures ∙ only_end a.n a.j (omega arith) (omega arith))

pub returns-in-Implies : goal.returns-in-Implies
unfolding ending
returns-in-Implies c =
    let a = c.args in
    rw c.in-Implies.is (c.only-in-Implies.ensures ∙ only_end a.n a.j (omega arith) (omega arith))

pub returns-in-Follows : goal.returns-in-Follows
unfolding test_of ending
returns-in-Follows c =
    let a = c.args in
    rw c.in-Follows.is
    (ap (λ (x : ℕ). bit_and x (get_or a.third.now a.j 0)) c.cycles_from.ensures ∙ first_starts a.n a.j (get_or a.third.now a.j 0))

pub returns-in-Triggers : goal.returns-in-Triggers
unfolding test_of ending
returns-in-Triggers c =
    let a = c.args in
    rw c.in-Triggers.is
    (ap (λ (x : ℕ). bit_and x (get_or a.third.now a.i 0)) c.cycles_from-in-Triggers.ensures ∙ first_starts a.n a.i (get_or a.third.now a.i 0))
