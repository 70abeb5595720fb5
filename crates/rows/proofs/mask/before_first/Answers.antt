-- `rows::mask::before_first` meets its contract.
use Rattle.std.proofs.Common.{◌∙◌, arith}
use Rattle.rows.proofs.Masks.{before_first_is}
use Rattle.rows.proofs.mask.before_first.Goals as goal

pub returns : goal.returns
returns c = c.below.ensures ∙ before_first_is 64 c.args.set (omega arith)
