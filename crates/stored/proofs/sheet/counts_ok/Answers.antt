-- `stored::sheet::counts_ok` meets its contract.
use Rattle.std.proofs.Common.{refl}
use Rattle.stored.specs.Sheet.{counted}
use Rattle.stored.proofs.sheet.counts_ok.Goals as goal

pub returns : goal.returns
unfolding counted
returns c = refl
