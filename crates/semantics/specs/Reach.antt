-- Which names a formula reaches, and the clauses whose parts reach only names of their own sets (rule 9 of a stored sheet asks it).
use Rattle.std.specs.Prelude.{ℕ, Bool, true, ◌&&◌, ◌||◌, List, [], ◌∷◌, eqb}
use Rattle.semantics.specs.Proposition.{Proposition, never, always, signal, name, negated, both_of, either_of}
use Rattle.semantics.specs.Formula.{Formula, point, stretch, whole, unit, chop, conjunction, disjunction, star, slen, scount, sdur, drawn, at, gap, negation, for_some}
use Rattle.semantics.specs.Placement.{Names, listed}
use Rattle.semantics.specs.Clause.{Part, ClauseType, pref, init, anti, implies, follows, triggers, Clause}

-- every name in the proposition belongs to the set
unfoldable pub proposition_within : Names → Proposition → Bool
proposition_within names never = true
proposition_within names always = true
proposition_within names (signal k) = true
proposition_within names (name u) = names u
proposition_within names (negated p) = proposition_within names p
proposition_within names (both_of p q) = proposition_within names p && proposition_within names q
proposition_within names (either_of p q) = proposition_within names p && proposition_within names q

unfoldable pub with : ℕ → Names → Names
with u names v = eqb v u || names v

-- every name in the formula belongs to the set or stands under its quantifier
unfoldable pub within : Names → Formula → Bool
within names (point p) = proposition_within names p
within names (stretch p) = proposition_within names p
within names (whole p) = proposition_within names p
within names (unit p) = proposition_within names p
within names (chop f g) = within names f && within names g
within names (conjunction f g) = within names f && within names g
within names (disjunction f g) = within names f && within names g
within names (star f) = within names f
within names (slen c n) = true
within names (scount c p n) = proposition_within names p
within names (sdur c p n) = proposition_within names p
within names (drawn s k) = true
within names (at u) = names u
within names (gap u v least most) = names u && names v
within names (negation f) = within names f
within names (for_some u f) = within (with u names) f

-- a part reaches only names of its set
unfoldable pub fits : Part → Bool
fits d = within (listed d.names) d.formula

-- asked of the parts that the clause's type uses
unfoldable pub parts_fit : ClauseType → Part → Part → Part → Bool
parts_fit pref d₁ d₂ d₃ = fits d₁
parts_fit init d₁ d₂ d₃ = fits d₁ && fits d₂
parts_fit anti d₁ d₂ d₃ = fits d₁
parts_fit implies d₁ d₂ d₃ = fits d₁ && fits d₂
parts_fit follows d₁ d₂ d₃ = fits d₁ && (fits d₂ && fits d₃)
parts_fit triggers d₁ d₂ d₃ = fits d₁ && (fits d₂ && fits d₃)

unfoldable pub clause_fits : Clause → Bool
clause_fits c = parts_fit c.type c.first c.second c.third

unfoldable pub all_fit : List Clause → Bool
all_fit [] = true
all_fit (c ∷ cs) = clause_fits c && all_fit cs
