-- `exports::packed_verdict` meets its contract.
use Rattle.std.proofs.Common.{ℕ, ◌+◌, ◌*◌, ap}
use Rattle.exports.specs.Packed.{packed}
use Rattle.exports.proofs.packed_verdict.Goals as goal

pub returns : goal.returns
unfolding packed
returns c = ap (λ (n : ℕ). n + c.args.verdict.advice * 4294967296) c.packed_finding.ensures.0
