-- `rows::mask::up_to_first` meets its contract.
use Rattle.std.proofs.Common.{◌∙◌, arith}
use Rattle.rows.proofs.Masks.{up_to_first_is}
use Rattle.rows.proofs.mask.up_to_first.Goals as goal

pub returns : goal.returns
returns c = c.up_to.ensures ∙ up_to_first_is 64 c.args.set (omega arith)
