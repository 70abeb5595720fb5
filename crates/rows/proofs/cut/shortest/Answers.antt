-- `rows::cut::shortest` meets its contract.
use Rattle.std.proofs.Common.{ap, ◌∙◌, arith, bit_and}
use Rattle.rows.proofs.Cuts.{shortest_is}
use Rattle.rows.proofs.cut.shortest.Goals as goal

pub returns : goal.returns
returns c = ap (bit_and c.args.row) c.up_to_first.ensures ∙ shortest_is c.args.row (omega arith)
