-- `rows::mask::below` meets its contract.
use Rattle.std.proofs.Common.{arith, ltb, lt-ltb}
use Rattle.rows.proofs.Masks.{below_is, all_is}
use Rattle.rows.proofs.mask.below.Goals as goal

pub returns-then-k-lt64 : goal.returns-then-k-lt64
returns-then-k-lt64 c = below_is 64 c.args.k (omega arith)

pub returns-else-k-lt64 : goal.returns-else-k-lt64
returns-else-k-lt64 c =
    let k = c.args.k in
    all_is 64 (λ e. ltb e k) (λ e m. lt-ltb e k (omega arith))
