-- The QDDC formula of a requirement, as a tree. Document 004, section 2.3, gives such a translation; this one differs where document 01,
-- "Traps in the published text", says that it must. That it means the requirement is not to be believed but proved: proofs/Agreement.antt.
use Rattle.std.specs.Prelude.{ℕ, cond, List, [], ◌∷◌}
use Rattle.semantics.specs.Proposition.{signal, name, negated}
use Rattle.semantics.specs.Formula.{Formula, point, stretch, whole, unit, chop, conjunction, disjunction, star, slen, scount, sdur, drawn, at, gap, negation, for_some}
use Rattle.semantics.specs.Formula.{Symbol, low, high, either, low_stretch, high_stretch, either_stretch, steady, below, at_most, equal, at_least, above}
use Rattle.semantics.specs.Placement.{Names, union, without}
use Rattle.semantics.specs.Clause.{ClauseType, pref, init, anti, implies, follows, triggers, Role, assumption_role, commitment, Clause}
use Rattle.semantics.specs.Verdict.{has_role}

-- every interval, those of more than one cycle, none (document 004's true, ext and false)
unfoldable pub anywhere : Formula
anywhere = slen at_least 0

unfoldable pub extended : Formula
extended = slen above 0

unfoldable pub nothing : Formula
nothing = slen below 0

-- drawings told by the other formulas
unfoldable pub undrawn_symbol : Symbol → ℕ → Formula
undrawn_symbol low k = unit (negated (signal k))
undrawn_symbol high k = unit (signal k)
undrawn_symbol either k = slen equal 1
undrawn_symbol low_stretch k = stretch (negated (signal k))
undrawn_symbol high_stretch k = stretch (signal k)
undrawn_symbol either_stretch k = anywhere
undrawn_symbol steady k = disjunction (stretch (negated (signal k))) (stretch (signal k))

-- ⟨u⟩ with length 0: alone it holds on long intervals too
unfoldable pub undrawn_mark : ℕ → Formula
undrawn_mark u = conjunction (slen equal 0) (point (name u))

unfoldable pub undrawn_gap : ℕ → ℕ → ℕ → ℕ → Formula
undrawn_gap u v least most =
    chop anywhere
    (chop (conjunction (point (name u)) (conjunction (slen at_least least) (slen at_most most))) (point (name v)))

unfoldable pub undrawn : Formula → Formula
undrawn (point p) = point p
undrawn (stretch p) = stretch p
undrawn (whole p) = whole p
undrawn (unit p) = unit p
undrawn (chop f g) = chop (undrawn f) (undrawn g)
undrawn (conjunction f g) = conjunction (undrawn f) (undrawn g)
undrawn (disjunction f g) = disjunction (undrawn f) (undrawn g)
undrawn (star f) = star (undrawn f)
undrawn (slen c n) = slen c n
undrawn (scount c p n) = scount c p n
undrawn (sdur c p n) = sdur c p n
undrawn (drawn s k) = undrawn_symbol s k
undrawn (at u) = undrawn_mark u
undrawn (gap u v least most) = undrawn_gap u v least most
undrawn (negation f) = negation (undrawn f)
undrawn (for_some u f) = for_some u (undrawn f)

-- each name of the set has exactly one mark on the interval, and f holds
unfoldable pub once_name : ℕ → Names → Formula → Formula
once_name u names f = cond (names u) (conjunction (scount equal (name u) 1) f) f

unfoldable pub once : Names → Formula → Formula
once names f = once_name 0 names (once_name 1 names (once_name 2 names f))

-- the same, each in a column of its own
unfoldable pub placed_name : ℕ → Names → Formula → Formula
placed_name u names f = cond (names u) (for_some u (conjunction (scount equal (name u) 1) f)) f

unfoldable pub placed : Names → Formula → Formula
placed names f = placed_name 0 names (placed_name 1 names (placed_name 2 names f))

-- f, and on no shorter interval with the same beginning
unfoldable pub shortest_of : Formula → Formula
shortest_of f = conjunction f (negation (chop f extended))

-- D3 is Ξ with the names inside that D1 lacks, and D2 on no interval with the same beginning up to there
unfoldable pub unanswered_of : Names → Formula → Names → Formula → Names → Formula
unanswered_of Θ₁ f₂ Θ₂ f₃ Θ₃ =
    conjunction (once (without Θ₃ Θ₁) (shortest_of f₃)) (negation (chop (placed (without Θ₂ (union Θ₁ Θ₃)) f₂) anywhere))

-- "the clause is broken", of the whole trace. In follows and triggers the names of D1 and D3 have one mark each from i to the end of the
-- trace, all that a later part can see, and one on the interval of the part that lists them first: two marks in one column cannot pass for
-- one name.
unfoldable pub broken_of : ClauseType → Formula → Names → Formula → Names → Formula → Names → Formula
broken_of pref f₁ Θ₁ f₂ Θ₂ f₃ Θ₃ = chop (negation (placed Θ₁ f₁)) anywhere
broken_of init f₁ Θ₁ f₂ Θ₂ f₃ Θ₃ =
    chop (placed Θ₂ (conjunction f₂ (negation (chop (placed (without Θ₁ Θ₂) f₁) anywhere)))) anywhere
broken_of anti f₁ Θ₁ f₂ Θ₂ f₃ Θ₃ = chop anywhere (chop (placed Θ₁ f₁) anywhere)
broken_of implies f₁ Θ₁ f₂ Θ₂ f₃ Θ₃ =
    chop anywhere (chop (placed Θ₁ (conjunction f₁ (negation (placed (without Θ₂ Θ₁) f₂)))) anywhere)
broken_of follows f₁ Θ₁ f₂ Θ₂ f₃ Θ₃ =
    chop anywhere
    (placed (union Θ₁ Θ₃) (chop (once Θ₁ f₁) (chop (unanswered_of Θ₁ f₂ Θ₂ f₃ Θ₃) anywhere)))
broken_of triggers f₁ Θ₁ f₂ Θ₂ f₃ Θ₃ =
    chop anywhere
    (placed (union Θ₁ Θ₃) (conjunction (chop (once Θ₁ f₁) anywhere) (chop (unanswered_of Θ₁ f₂ Θ₂ f₃ Θ₃) anywhere)))

unfoldable pub broken_clause : Clause → Formula
broken_clause c =
    broken_of c.type
    (undrawn c.first.formula) c.first.names
    (undrawn c.second.formula) c.second.names
    (undrawn c.third.formula) c.third.names

-- some clause of the role is broken; the later clauses are joined to the earlier ones' formula
unfoldable pub join_broken : Role → Formula → List Clause → Formula
join_broken r f [] = f
join_broken r f (c ∷ cs) = join_broken r (cond (has_role r c) (disjunction f (broken_clause c)) f) cs

unfoldable pub translation : List Clause → Formula
translation cs =
    disjunction (join_broken assumption_role nothing cs) (negation (join_broken commitment nothing cs))
