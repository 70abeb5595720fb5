-- `classes::class_by_rule` meets its contract.
use Rattle.std.proofs.Common.{◌≡◌, ℕ, arith, refl}
use Rattle.std.proofs.lemmas.Bool.Decides.{nat_tests}
use Rattle.grammar.specs.Class.{class_of}
use Rattle.grammar.proofs.Sorted.{sorting}
use Rattle.classes.proofs.Listed.{listed, listed_last}
use Rattle.classes.proofs.class_by_rule.Goals as goal

pub returns-in-9 : goal.returns-in-9
unfolding sorting
returns-in-9 c = grind (arith, nat_tests)

pub returns-in-10 : goal.returns-in-10
unfolding sorting
returns-in-10 c = grind (arith, nat_tests)

pub returns-in-48-to-57 : goal.returns-in-48-to-57
unfolding sorting
returns-in-48-to-57 c = grind (arith, nat_tests)

pub returns-in-97-to-122 : goal.returns-in-97-to-122
unfolding sorting
returns-in-97-to-122 c = grind (arith, nat_tests)

pub returns-in_default : goal.returns-in_default
unfolding sorting
returns-in_default c = grind (arith, nat_tests)

pub returns-in_default-2 : goal.returns-in_default-2
unfolding sorting
returns-in_default-2 c = grind (arith, nat_tests)

pub returns-in_default-3 : goal.returns-in_default-3
unfolding sorting
returns-in_default-3 c = grind (arith, nat_tests)

pub returns-in_default-4 : goal.returns-in_default-4
unfolding sorting
returns-in_default-4 c = grind (arith, nat_tests)

pub returns-in-40-2 : goal.returns-in-40-2
unfolding sorting
returns-in-40-2 c = grind (arith, nat_tests)

pub returns-in-124 : goal.returns-in-124
unfolding sorting
returns-in-124 c =
    let P : ℕ → Type 0 = λ k. 38 ≡ class_of k in
    let b = c.args.b in
    listed P b 33 refl (listed P b 38 refl (listed P b 42 refl (listed P b 44 refl (listed P b 58 refl (listed P b 61 refl (listed P b 94 refl (listed_last P b 124 refl))))))) c.in-124.is

pub returns-in-40 : goal.returns-in-40
unfolding sorting
returns-in-40 c =
    let P : ℕ → Type 0 = λ k. 40 ≡ class_of k in
    let b = c.args.b in
    listed P b 60 refl (listed P b 62 refl (listed P b 91 refl (listed P b 93 refl (listed P b 123 refl (listed_last P b 125 refl))))) c.in-40.is
