-- `intervals::gather::add` meets its contract.
use Rattle.std.proofs.Common.{◌≤◌, ◌≡◌, length}
use Rattle.intervals.proofs.Gathered.{cut_row, Added}
use Rattle.intervals.proofs.gather.add.Given as goal

abbrev pub invariant-loop-b : goal.invariant-loop-b
invariant-loop-b l =
    (length l.out ≡ 64) × (l.b ≤ l.high) × (l.high ≤ 64) × Added l.initial.out l.out (cut_row l.words l.root l.short l.ends) l.all l.b
