-- `pruning::keep::put_pruned` meets its contract.
use Rattle.plans.specs.Bound.{most_emitted}
use Rattle.pruning.proofs.Marking.{none_marked}
use Rattle.pruning.proofs.keep.put_pruned.Goals as goal

pub mark_reached-requires-clause-none_marked : goal.mark_reached-requires-clause-none_marked
mark_reached-requires-clause-none_marked c = none_marked most_emitted
