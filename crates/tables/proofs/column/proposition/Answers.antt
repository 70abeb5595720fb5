-- `tables::column::proposition` meets its contract.
use Rattle.std.proofs.Common.{◌≡◌, refl, ap, ap₂, arith, ℕ, ◌-◌, ◌^◌, bit_and, bit_or}
use Rattle.stored.specs.Node.{a_use, b_use}
use Rattle.stored.specs.Tree.{proposition_op}
use Rattle.tables.specs.Step.{column_of}
use Rattle.tables.proofs.Columns.{column_told}
use Rattle.tables.proofs.column.proposition.Goals as goal

pub column_at-requires : goal.column_at-requires
unfolding a_use
column_at-requires c =
    let at : c.args.x.op ≡ 3 = c.in-3.is in
    omega (arith, c.requires.usable.a_signal_holds (ap a_use at))

pub name_column-requires : goal.name_column-requires
unfolding a_use
name_column-requires c =
    let at : c.args.x.op ≡ 4 = c.in-4.is in
    omega (arith, c.requires.usable.a_name_holds (ap a_use at))

pub row_at-requires : goal.row_at-requires
unfolding a_use
row_at-requires c =
    let at : c.args.x.op ≡ 5 = c.in-5.is in
    omega (arith, c.requires.usable.a_proposition (ap a_use at))

pub row_at-requires-in-6 : goal.row_at-requires-in-6
unfolding a_use
row_at-requires-in-6 c =
    let at : c.args.x.op ≡ 6 = c.in-6.is in
    omega (arith, c.requires.usable.a_proposition (ap a_use at))

pub row_at-requires-in-6-2 : goal.row_at-requires-in-6-2
unfolding b_use
row_at-requires-in-6-2 c =
    let at : c.args.x.op ≡ 6 = c.in-6.is in
    omega (arith, c.requires.usable.b_proposition (ap b_use at))

pub row_at-requires-in_default : goal.row_at-requires-in_default
unfolding a_use
row_at-requires-in_default c =
    let at : c.args.x.op ≡ 7 = omega arith in
    omega (arith, c.requires.usable.a_proposition (ap a_use at))

pub row_at-requires-in_default-2 : goal.row_at-requires-in_default-2
unfolding b_use
row_at-requires-in_default-2 c =
    let at : c.args.x.op ≡ 7 = omega arith in
    omega (arith, c.requires.usable.b_proposition (ap b_use at))

pub returns-in-1 : goal.returns-in-1
unfolding proposition_op column_of
returns-in-1 c =
    let a = c.args in
    let at : a.x.op ≡ 1 = c.in-1.is in
    column_told a.x 1 a.n a.columns.now a.words.now _ at (refl)

pub returns-in-2 : goal.returns-in-2
unfolding proposition_op column_of
returns-in-2 c =
    let a = c.args in
    let at : a.x.op ≡ 2 = c.in-2.is in
    column_told a.x 2 a.n a.columns.now a.words.now _ at c.below.ensures

pub returns-in-3 : goal.returns-in-3
unfolding proposition_op column_of
returns-in-3 c =
    let a = c.args in
    let at : a.x.op ≡ 3 = c.in-3.is in
    column_told a.x 3 a.n a.columns.now a.words.now _ at c.column_at.ensures

pub returns-in-4 : goal.returns-in-4
unfolding proposition_op column_of
returns-in-4 c =
    let a = c.args in
    let at : a.x.op ≡ 4 = c.in-4.is in
    column_told a.x 4 a.n a.columns.now a.words.now _ at c.name_column.ensures

pub returns-in-5 : goal.returns-in-5
unfolding proposition_op column_of
returns-in-5 c =
    let a = c.args in
    let at : a.x.op ≡ 5 = c.in-5.is in
    column_told a.x 5 a.n a.columns.now a.words.now _ at (ap₂ (λ (y z : ℕ). bit_and y (2 ^ 64 - 1 - z)) c.below-in-5.ensures c.row_at.ensures)

pub returns-in-6 : goal.returns-in-6
unfolding proposition_op column_of
returns-in-6 c =
    let a = c.args in
    let at : a.x.op ≡ 6 = c.in-6.is in
    column_told a.x 6 a.n a.columns.now a.words.now _ at (ap₂ bit_and c.row_at-in-6.ensures c.row_at-in-6-2.ensures)

pub returns-in_default : goal.returns-in_default
unfolding proposition_op column_of
returns-in_default c =
    let a = c.args in
    let at : a.x.op ≡ 7 = omega arith in
    column_told a.x 7 a.n a.columns.now a.words.now _ at (ap₂ bit_or c.row_at-in_default.ensures c.row_at-in_default-2.ensures)
