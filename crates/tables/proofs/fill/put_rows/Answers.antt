-- `tables::fill::put_rows` meets its contract.
use Rattle.std.proofs.Common.{ℕ, ◌≡◌, ◌<◌, ◌∙◌, arith}
use Rattle.std.proofs.Math.Path.{ap₂}
use Rattle.stored.specs.Tree.{formula_op}
use Rattle.tables.specs.Step.{row_of, first_column, second_column}
use Rattle.tables.proofs.Rows.{row_told}
use Rattle.tables.proofs.Uses.{joins_formula, pair_of, pair_right, pair_not, pair_first, pair_second}
use Rattle.tables.proofs.fill.put_rows.Goals as goal
use Rattle.tables.proofs.fill.put_rows.Goals.{in_default-via-then-x-lt20, in_default-via-else-x-lt20+else-x-lt23+then-x-lt27, in_default-via-else-x-lt20+else-x-lt23+else-x-lt27+else-x-lt30}

pub put_chop-requires-clause-operands : goal.put_chop-requires-clause-operands
put_chop-requires-clause-operands c =
    let u = c.requires.usable in
    let op = c.args.x.op in
    let first = u.a_formula (joins_formula op (omega arith) (omega arith)) in
    let second = u.b_formula (pair_right op (pair_of op (omega arith) (omega arith))) in
    omega (arith, first, second, c.requires.long_enough)

pub put_star-requires-clause-operand : goal.put_star-requires-clause-operand
put_star-requires-clause-operand c =
    let first = c.requires.usable.a_formula (joins_formula c.args.x.op (omega arith) (omega arith)) in
    omega (arith, first, c.requires.long_enough)

pub put_plain-requires-clause-known_op : goal.put_plain-requires-clause-known_op
put_plain-requires-clause-known_op c =
    let op = c.args.x.op in
    let k = c.requires.known_op in
    let other : (op ≡ 20 → ⊥) × (op ≡ 21 → ⊥) × (op ≡ 22 → ⊥) × (op ≡ 23 → ⊥) × (op < 27) =
    elim c.in_default.branch [
      | in_default-via-then-x-lt20 w ↦ (omega arith, omega arith, omega arith, omega arith, omega arith)
      | in_default-via-else-x-lt20+else-x-lt23+then-x-lt27 w ↦ (omega arith, omega arith, omega arith, omega arith, omega arith)
      | in_default-via-else-x-lt20+else-x-lt23+else-x-lt27+else-x-lt30 w ↦ absurd (omega arith)
    ] in
    (k.0, other.4, pair_not op other.0 other.1 other.2, other.3, k.2)

pub returns-in-20 : goal.returns-in-20
unfolding formula_op row_of
returns-in-20 c =
    let a = c.args in
    record {
      rows = λ other b h. row_told a.x 20 a.n (first_column a.x.op a.x a.columns.now a.before.now) (second_column a.x.op a.x a.columns.now) a.before.now a.i b _ c.in-20.is (c.put_chop.ensures b h);
      star = λ e. absurd (omega (arith, c.in-20.is));
    }

pub returns-in-21 : goal.returns-in-21
returns-in-21 c =
    let a = c.args in
    let pair = pair_of a.x.op (omega arith) (omega arith) in
    record {
      rows = λ other b h.
          c.put_and_or.ensures b h
          ∙ ap₂ (λ (v w : ℕ). row_of (formula_op a.x.op) a.x a.n v w a.before.now a.i b)
          (pair_first a.x.op a.x a.columns.now a.before.now pair) (pair_second a.x.op a.x a.columns.now pair);
      star = λ e. absurd (omega arith);
    }
