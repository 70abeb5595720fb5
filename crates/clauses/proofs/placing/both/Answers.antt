-- `clauses::placing::both` meets its contract.
use Rattle.stored.proofs.NameSets.{both_masks}
use Rattle.clauses.proofs.placing.both.Goals as goal

pub returns : goal.returns
returns c = both_masks _ _
