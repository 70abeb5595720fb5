-- `exports::packed_place` meets its contract.
use Rattle.std.proofs.Common.{refl}
use Rattle.exports.specs.Packed.{packed_place}
use Rattle.exports.proofs.packed_place.Goals as goal

pub returns : goal.returns
unfolding packed_place
returns c = refl
