-- `typed::draft::in_byte` meets its contract.
use Rattle.std.proofs.Common.{arith}
use Rattle.std.proofs.lemmas.Bool.Decides.{nat_tests}
use Rattle.typed.specs.Draft.{in_byte}
use Rattle.typed.proofs.draft.in_byte.Goals as goal

pub returns : goal.returns
unfolding in_byte
returns c = grind (arith, nat_tests)
