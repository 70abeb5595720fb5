-- `propositions::leaf::comparison` meets its contract.
use Rattle.propositions.proofs.Leaves.{comparison_leafs}
use Rattle.propositions.proofs.leaf.comparison.Goals as goal

pub returns-clause-leaf_read : goal.returns-clause-leaf_read
returns-clause-leaf_read c = comparison_leafs _ _ c.word.result c.word.ensures
