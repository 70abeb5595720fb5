-- `rows::mask::only` meets its contract.
use Rattle.rows.proofs.Masks.{only_is}
use Rattle.rows.proofs.mask.only.Goals as goal

pub returns : goal.returns
returns c = only_is 64 c.args.b c.requires
