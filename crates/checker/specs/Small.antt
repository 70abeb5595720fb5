-- Verdicts whose numbers are as small as those of the check: a clause is one of eight, a cycle one of 64, and advice is a byte.
use Rattle.std.specs.Prelude.{◌<◌}
use Rattle.checker.specs.declared.check.Place.{Place}
use Rattle.checker.specs.declared.check.Finding.{Finding}
use Rattle.checker.specs.declared.check.Finding.TheVariants.{Excused, Broken, Holds}
use Rattle.checker.specs.declared.check.Verdict.{Verdict}

abbrev pub SmallPlace : Place → Type 0
SmallPlace p = (p.clause < 8) × (p.i < 64) × (p.j < 64) × (p.k < 64)

abbrev pub SmallFinding : Finding → Type 0
SmallFinding (Excused clause) = clause < 8
SmallFinding (Broken p) = SmallPlace p
SmallFinding Holds = 0 < 8

abbrev pub SmallVerdict : Verdict → Type 0
SmallVerdict v = SmallFinding v.finding × (v.advice < 256)
