-- `rows::mask::has` meets its contract.
use Rattle.rows.proofs.Masks.{has_is}
use Rattle.rows.proofs.mask.has.Goals as goal

pub returns : goal.returns
returns c = has_is c.args.set c.args.b
