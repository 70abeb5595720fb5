-- `tables::fill::put_plain` meets its contract.
use Rattle.std.proofs.Common.{rules}
use Rattle.tables.proofs.fill.put_plain.Goals as goal

pub returns : goal.returns
returns c = λ b h. let row = c.put_each.ensures b h in search rules
