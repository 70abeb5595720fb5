-- `emission::shared::put_lengths` meets its contract.
use Rattle.emission.proofs.SharedNodes.{shared_start}
use Rattle.emission.proofs.shared.put_lengths.Goals as goal

pub returns : goal.returns
returns c =
    shared_start c.requires.0 c.requires.1 c.put.ensures c.put-2.ensures c.put-3.ensures
