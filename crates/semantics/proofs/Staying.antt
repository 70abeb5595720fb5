-- Request 4's own example, as in examples/before, of the meanings: a reply within four minutes of the offer, and before the minute in which
-- the courier leaves. The minute is named by the first part and lies after the reply's interval.
use Rattle.std.proofs.Common.{[], ◌∷◌, ◌≡◌, refl, eqb}
use Rattle.semantics.specs.Cycles.{some_below, some_from, first_below, count_below, count_from}
use Rattle.semantics.specs.Proposition.{Trace, signal, name, negated, bit, signal_at, holds_at}
use Rattle.semantics.specs.Formula.{holds, compared, point, whole, chop, conjunction, slen, scount, at, equal, at_least}
use Rattle.semantics.specs.Placement.{Names, no_names, union, without, unplaced, marks, moved, place_name, some_placement}
use Rattle.semantics.specs.Clause.{Clause, triggers, commitment, on, given, shortest, unanswered, breaks_at, breaks, fails}
use Rattle.semantics.specs.Verdict.{Holds, Broken, same_role, has_role, fails_as, first_place, excused_or, broken_or, finding_of}

unfoldable pub only_name : Names
only_name v = eqb v 0

-- signals: 0 offer sent, 1 courier leaves, 2 reply received
abbrev before_leaving : Clause
before_leaving =
    record {
      type = triggers;
      role = commitment;
      first = record { formula = chop (point (signal 0)) (conjunction (at 0) (point (signal 1))); names = only_name };
      second = record { formula = conjunction (whole (negated (name 0))) (scount at_least (signal 2) 1); names = only_name };
      third = record { formula = slen equal 4; names = no_names };
    }

-- the offer in 2, and then: a reply in 4 and the courier in 8; the courier in 3 and a reply in 4; a reply in 7 and the courier in 8
abbrev in_time : Trace
in_time = 0 ∷ 0 ∷ 1 ∷ 0 ∷ 4 ∷ 0 ∷ 0 ∷ 0 ∷ 2 ∷ 0 ∷ []

abbrev left : Trace
left = 0 ∷ 0 ∷ 1 ∷ 2 ∷ 4 ∷ 0 ∷ 0 ∷ 0 ∷ 0 ∷ 0 ∷ []

abbrev late : Trace
late = 0 ∷ 0 ∷ 1 ∷ 0 ∷ 0 ∷ 0 ∷ 0 ∷ 4 ∷ 2 ∷ 0 ∷ []

pub record Staying : Type 0 where
  pub holding : finding_of (before_leaving ∷ []) in_time ≡ Holds
  pub gone : finding_of (before_leaving ∷ []) left ≡ Broken (record { clause = 0; i = 2; j = 3; k = 6 })
  pub overdue : finding_of (before_leaving ∷ []) late ≡ Broken (record { clause = 0; i = 2; j = 8; k = 6 })

pub staying : Staying
unfolding only_name some_below some_from first_below count_below count_from bit signal_at holds_at compared holds no_names union without unplaced marks moved place_name some_placement on given shortest unanswered breaks_at breaks fails same_role has_role fails_as first_place excused_or broken_or finding_of
staying = record { holding = refl; gone = refl; overdue = refl }
