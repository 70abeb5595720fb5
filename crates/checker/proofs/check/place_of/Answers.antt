-- `checker::check::place_of` meets its contract.
use Rattle.std.proofs.Common.{refl}
use Rattle.checker.specs.Clauses.{place_of}
use Rattle.checker.proofs.check.place_of.Goals as goal

pub returns : goal.returns
unfolding place_of
returns c = refl
