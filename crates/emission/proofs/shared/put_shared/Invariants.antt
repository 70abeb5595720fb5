-- `emission::shared::put_shared` meets its contract. The loop's invariant: the nodes of the first u names stand at their numbers.
use Rattle.std.proofs.Common.{◌≡◌, ◌+◌, ◌*◌}
use Rattle.plans.specs.Emission.{count, Step, Shared}
use Rattle.emission.proofs.shared.put_shared.Given as goal

abbrev pub invariant-loop-u : goal.invariant-loop-u
invariant-loop-u l = (Shared l.out l.u) × (count l.out ≡ 3 + 2 * l.u) × (Step l.initial.out l.out (2 * l.u))
