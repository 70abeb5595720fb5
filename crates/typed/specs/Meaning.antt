-- Request 1: what a typed sheet says, in the terms of `semantics`. Brackets mean what is inside them.
use Rattle.std.specs.Prelude.{ℕ, List, [], ◌∷◌, map, get_or}
use Rattle.semantics.specs.Proposition.{Proposition, never, always, signal, name, negated, both_of, either_of}
use Rattle.semantics.specs.Formula.{Formula, point, stretch, whole, unit, chop, conjunction, disjunction, star, slen, scount, sdur, drawn, at, gap}
use Rattle.semantics.specs.Placement.{Names}
use Rattle.semantics.specs.Clause.{Part, ClauseType, pref, init, anti, implies, follows, triggers, Role, assumption_role, commitment, Clause}
use Rattle.stored.specs.Tree.{symbol_of}
use Rattle.grammar.specs.Tree.{OrP, one_p, or_p, AndP, unit_p, and_p, UnitP, trueP, falseP, signalP, nameP, not_p, bracket_p, OrF, one_f, or_f, AndF, chain_f, and_f, ChopF, unit_f, chop_f, UnitF, pointF, stretchF, wholeF, braceF, slen_f, scountF, sdurF, draw_f, at_f, gap_f, bracketF, starF, TypedPart, TypedClause, pref_c, anti_c, init_c, implies_c, follows_c, triggers_c, Line, assume_l, require_l, TypedSheet}
use Rattle.grammar.specs.Spelled.{is_among}

unfoldable mutual
  pub meant_or_p : OrP → Proposition
  meant_or_p (one_p p) = meant_and_p p
  meant_or_p (or_p p q) = either_of (meant_or_p p) (meant_and_p q)

  pub meant_and_p : AndP → Proposition
  meant_and_p (unit_p p) = meant_unit_p p
  meant_and_p (and_p p q) = both_of (meant_and_p p) (meant_unit_p q)

  pub meant_unit_p : UnitP → Proposition
  meant_unit_p trueP = always
  meant_unit_p falseP = never
  meant_unit_p (signalP k) = signal k
  meant_unit_p (nameP u) = name u
  meant_unit_p (not_p p) = negated (meant_unit_p p)
  meant_unit_p (bracket_p p) = meant_or_p p

unfoldable mutual
  pub meant_or_f : OrF → Formula
  meant_or_f (one_f f) = meant_and_f f
  meant_or_f (or_f f g) = disjunction (meant_or_f f) (meant_and_f g)

  pub meant_and_f : AndF → Formula
  meant_and_f (chain_f f) = meant_chop_f f
  meant_and_f (and_f f g) = conjunction (meant_and_f f) (meant_chop_f g)

  pub meant_chop_f : ChopF → Formula
  meant_chop_f (unit_f f) = meant_unit_f f
  meant_chop_f (chop_f f g) = chop (meant_chop_f f) (meant_unit_f g)

  pub meant_unit_f : UnitF → Formula
  meant_unit_f (pointF p) = point (meant_or_p p)
  meant_unit_f (stretchF p) = stretch (meant_or_p p)
  meant_unit_f (wholeF p) = whole (meant_or_p p)
  meant_unit_f (braceF p) = unit (meant_or_p p)
  meant_unit_f (slen_f c n) = slen c n
  meant_unit_f (scountF p c n) = scount c (meant_or_p p) n
  meant_unit_f (sdurF p c n) = sdur c (meant_or_p p) n
  meant_unit_f (draw_f q k) = drawn (symbol_of q) k
  meant_unit_f (at_f u) = at u
  meant_unit_f (gap_f u v a b) = gap u v a b
  meant_unit_f (bracketF f) = meant_or_f f
  meant_unit_f (starF f) = star (meant_or_f f)

-- the set of the names that are listed
unfoldable pub meant_names : List ℕ → Names
meant_names names u = is_among u names

unfoldable pub meant_part : TypedPart → Part
meant_part d = record { formula = meant_or_f d.formula; names = meant_names d.names }

-- a clause's parts in the order D1, D2, D3, and its type
unfoldable pub parts_of : TypedClause → List TypedPart
parts_of (pref_c d) = d ∷ []
parts_of (init_c d₁ d₂) = d₁ ∷ d₂ ∷ []
parts_of (anti_c d) = d ∷ []
parts_of (implies_c d₁ d₂) = d₁ ∷ d₂ ∷ []
parts_of (follows_c d₁ d₂ d₃) = d₁ ∷ d₂ ∷ d₃ ∷ []
parts_of (triggers_c d₁ d₂ d₃) = d₁ ∷ d₂ ∷ d₃ ∷ []

unfoldable pub meant_type : TypedClause → ClauseType
meant_type (pref_c d) = pref
meant_type (init_c d₁ d₂) = init
meant_type (anti_c d) = anti
meant_type (implies_c d₁ d₂) = implies
meant_type (follows_c d₁ d₂ d₃) = follows
meant_type (triggers_c d₁ d₂ d₃) = triggers

-- `unused` stands for a part that the type has not; what it is says nothing, since no type looks there
unfoldable pub meant_clause : Part → Role → TypedClause → Clause
meant_clause unused r c =
    let parts = map meant_part (parts_of c) in
    record { type = meant_type c; role = r; first = get_or parts 0 unused; second = get_or parts 1 unused; third = get_or parts 2 unused }

unfoldable pub meant_line : Part → Line → Clause
meant_line unused (assume_l c) = meant_clause unused assumption_role c
meant_line unused (require_l c) = meant_clause unused commitment c

unfoldable pub meant_lines : Part → List Line → List Clause
meant_lines unused [] = []
meant_lines unused (l ∷ more) = meant_line unused l ∷ meant_lines unused more

unfoldable pub clauses_meant : Part → TypedSheet → List Clause
clauses_meant unused t = meant_lines unused t.lines
