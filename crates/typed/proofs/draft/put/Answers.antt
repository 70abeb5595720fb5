-- `typed::draft::put` meets its contract.
use Rattle.typed.specs.Draft.{put}
use Rattle.typed.proofs.draft.put.Goals as goal

pub returns : goal.returns
unfolding put
returns c = c.add.ensures
