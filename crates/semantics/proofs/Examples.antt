-- Document 01, "Proved examples": E1–E10, of the meanings.
use Rattle.std.proofs.Common.{true, false, [], ◌∷◌, ◌≡◌, refl}
use Rattle.semantics.specs.Cycles.{some_below, some_from, count_below, count_from}
use Rattle.semantics.specs.Proposition.{Trace, signal, negated, both_of, bit, signal_at, holds_at}
use Rattle.semantics.specs.Formula.{holds, unmarked, compared, chain, drawn_on, stretch, whole, unit, chop, star, scount, sdur, drawn, equal, low, high_stretch}

-- p is signal 0 and r is signal 1
-- p at 0–6, not at 7
abbrev p_falls : Trace
p_falls = 1 ∷ 1 ∷ 1 ∷ 1 ∷ 1 ∷ 1 ∷ 1 ∷ 0 ∷ []

-- p at 0–7, r at 4–10
abbrev p_then_r : Trace
p_then_r = 1 ∷ 1 ∷ 1 ∷ 1 ∷ 3 ∷ 3 ∷ 3 ∷ 3 ∷ 2 ∷ 2 ∷ 2 ∷ []

-- p at 0–2, not at 3
abbrev p_not_at3 : Trace
p_not_at3 = 1 ∷ 1 ∷ 1 ∷ 0 ∷ []

-- p at the only cycle
abbrev p_once : Trace
p_once = 1 ∷ []

-- p nowhere
abbrev p_never : Trace
p_never = 0 ∷ 0 ∷ 0 ∷ []

pub record Examples : Type 0 where
  pub E1 : holds (stretch (signal 0)) p_falls unmarked 0 7 ≡ true
  pub E2 : holds (whole (signal 0)) p_falls unmarked 0 7 ≡ false
  pub E3 : holds (chop (stretch (signal 0)) (whole (both_of (negated (signal 0)) (signal 1)))) p_then_r unmarked 0 10 ≡ true
  pub E4 : holds (chop (stretch (signal 0)) (whole (both_of (negated (signal 0)) (signal 1)))) p_then_r unmarked 0 7 ≡ false
  pub E5 : holds (stretch (signal 0)) p_not_at3 unmarked 3 3 ≡ true
  pub E6 : holds (unit (signal 0)) p_not_at3 unmarked 3 3 ≡ false
  pub E7 : holds (scount equal (signal 0) 1) p_once unmarked 0 0 ≡ true
  pub E8 : holds (sdur equal (signal 0) 1) p_once unmarked 0 0 ≡ false
  pub E9 : holds (star (unit (signal 0))) p_never unmarked 2 2 ≡ true
  pub E10 : holds (chop (drawn low 0) (drawn high_stretch 0)) p_never unmarked 0 1 ≡ true

pub examples : Examples
unfolding some_below some_from count_below count_from bit signal_at holds_at compared chain drawn_on holds unmarked
examples =
    record { E1 = refl; E2 = refl; E3 = refl; E4 = refl; E5 = refl; E6 = refl; E7 = refl; E8 = refl; E9 = refl; E10 = refl }
