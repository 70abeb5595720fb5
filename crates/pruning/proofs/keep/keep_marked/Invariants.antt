-- `pruning::keep::keep_marked` meets its contract. The loop's invariant: of the first i nodes the marked ones are kept.
use Rattle.std.proofs.Common.{◌≡◌, length}
use Rattle.stored.specs.Written.{node_in}
use Rattle.plans.specs.Bound.{most_emitted}
use Rattle.plans.specs.Emission.{Step}
use Rattle.pruning.proofs.Keeping.{Kept}
use Rattle.pruning.proofs.keep.keep_marked.Given as goal

abbrev pub invariant-loop-i : goal.invariant-loop-i
invariant-loop-i l = (length l.map ≡ most_emitted) × (Step l.initial.out l.out l.i) × (Kept (node_in l.draft) l.marks l.i l.out l.map)
