-- What may change as minutes are added (request 7), of the meanings, as in examples/clocks and examples/withdrawn: an earlier place and an
-- earlier clause are named, and a Broken requirement becomes Excused.
use Rattle.std.proofs.Common.{ℕ, List, [], ◌∷◌, ◌++◌, ◌≡◌, refl}
use Rattle.semantics.specs.Cycles.{some_below, some_from, first_below, count_below, count_from}
use Rattle.semantics.specs.Proposition.{Trace, signal, bit, signal_at, holds_at}
use Rattle.semantics.specs.Formula.{Formula, holds, compared, point, conjunction, disjunction, slen, scount, equal, at_least}
use Rattle.semantics.specs.Placement.{no_names, union, without, unplaced, marks, moved, place_name, some_placement}
use Rattle.semantics.specs.Clause.{Part, Clause, anti, implies, assumption_role, commitment, on, given, breaks_at, breaks, fails}
use Rattle.semantics.specs.Verdict.{Broken, Excused, same_role, has_role, fails_as, first_place, excused_or, broken_or, finding_of}

abbrev nameless : Formula → Part
nameless f = record { formula = f; names = no_names }

-- whatever starts with signal k and is n minutes long
abbrev clock : ℕ → ℕ → Formula
clock k n = conjunction (point (signal k)) (slen equal n)

-- signal k is high in it
abbrev seen : ℕ → Formula
seen k = scount at_least (signal k) 1

abbrev required : Formula → Formula → Clause
required f g = record { type = implies; role = commitment; first = nameless f; second = nameless g; third = nameless f }

-- signals: 0 kidney offer sent, 1 heart offer sent, 2 reply received, 3 courier called
abbrev clocks : List Clause
clocks = required (clock 0 8) (seen 3) ∷ required (disjunction (clock 0 6) (clock 1 2)) (seen 2) ∷ []

-- signals: 0 offer sent, 1 reply received, 2 offer withdrawn
abbrev withdrawn : List Clause
withdrawn =
    record { type = anti; role = assumption_role; first = nameless (point (signal 2)); second = nameless (point (signal 2)); third = nameless (point (signal 2)) }
    ∷ required (clock 0 3) (seen 1) ∷ []

-- a kidney offer in minute 1 and a heart offer in minute 3, up to minute 5
abbrev unanswered : Trace
unanswered = 0 ∷ 1 ∷ 0 ∷ 2 ∷ 0 ∷ 0 ∷ []

-- an offer in minute 1, up to minute 4
abbrev overdue : Trace
overdue = 0 ∷ 1 ∷ 0 ∷ 0 ∷ 0 ∷ []

pub record Changing : Type 0 where
  pub heart : finding_of clocks unanswered ≡ Broken (record { clause = 1; i = 3; j = 5; k = 5 })
  -- two minutes more: an earlier place
  pub kidney : finding_of clocks (unanswered ++ (0 ∷ 0 ∷ [])) ≡ Broken (record { clause = 1; i = 1; j = 7; k = 7 })
  -- four: an earlier clause
  pub courier : finding_of clocks (unanswered ++ (0 ∷ 0 ∷ 0 ∷ 0 ∷ [])) ≡ Broken (record { clause = 0; i = 1; j = 9; k = 9 })
  pub late : finding_of withdrawn overdue ≡ Broken (record { clause = 1; i = 1; j = 4; k = 4 })
  -- withdrawn in minute 6
  pub excused : finding_of withdrawn (overdue ++ (0 ∷ 4 ∷ [])) ≡ Excused 0

pub changing : Changing
unfolding some_below some_from first_below count_below count_from bit signal_at holds_at compared holds no_names union without unplaced marks moved place_name some_placement on given breaks_at breaks fails same_role has_role fails_as first_place excused_or broken_or finding_of
changing = record { heart = refl; kidney = refl; courier = refl; late = refl; excused = refl }
