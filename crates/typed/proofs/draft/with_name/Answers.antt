-- `typed::draft::with_name` meets its contract.
use Rattle.stored.specs.Reach.{joint}
use Rattle.typed.proofs.draft.with_name.Goals as goal

pub returns : goal.returns
unfolding joint
returns c = rw c.name_mask.ensures
