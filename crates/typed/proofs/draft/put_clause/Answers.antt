-- `typed::draft::put_clause` meets its contract.
use Rattle.typed.specs.Draft.{put_clause}
use Rattle.typed.proofs.draft.put_clause.Goals as goal

pub returns : goal.returns
unfolding put_clause
returns c = c.add.ensures
