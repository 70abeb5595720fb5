-- `places::walk::onto` meets its contract.
use Rattle.std.proofs.Common.{refl}
use Rattle.places.specs.Laid.{with_next}
use Rattle.places.proofs.walk.onto.Goals as goal

pub returns : goal.returns
unfolding with_next
returns c = refl
