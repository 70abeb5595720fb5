-- `clauses::placing::besides` meets its contract.
use Rattle.std.proofs.Common.{arith}
use Rattle.stored.proofs.NameSets.{less_mask}
use Rattle.clauses.proofs.placing.besides.Goals as goal

pub returns : goal.returns
returns c = less_mask _ _ (omega arith) (omega arith)
