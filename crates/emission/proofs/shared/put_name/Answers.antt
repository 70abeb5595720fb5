-- `emission::shared::put_name` meets its contract.
use Rattle.emission.proofs.SharedNodes.{shared_next}
use Rattle.emission.proofs.shared.put_name.Goals as goal

pub returns : goal.returns
returns c =
    shared_next _ c.requires.0 c.requires.1 c.requires.2 c.put-marked.ensures c.put.ensures
