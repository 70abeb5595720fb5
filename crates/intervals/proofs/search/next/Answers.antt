-- `intervals::search::next` meets its contract.
use Rattle.std.proofs.Common.{subst, sym, ℕ, ◌-◌, ◌^◌, arith, bit_and}
use lib.Count.{count_trailing_zeros, trailing_le}
use Rattle.intervals.specs.Rows.{Next}
use Rattle.intervals.proofs.Found.{next_is}
use Rattle.intervals.proofs.search.next.Goals as goal

pub overflow_cast-result : goal.overflow_cast-result
overflow_cast-result c = omega (arith, trailing_le 64 (bit_and c.args.set (2 ^ 64 - 1 - c.below.result)))

pub returns : goal.returns
returns c =
    let a = c.args in
    subst (λ (x : ℕ). Next a.set a.j (count_trailing_zeros 64 (bit_and a.set (2 ^ 64 - 1 - x)))) (sym c.below.ensures)
    (next_is a.set a.j (omega arith) c.requires)
