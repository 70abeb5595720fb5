-- In the formula of clauses that fit, each name stands under its quantifier.
use Rattle.std.proofs.Common.{ℕ, zero, suc, ◌<◌, Bool, true, false, cond, ◌&&◌, ◌||◌, List, [], ◌∷◌, inl, inr, ◌≡◌, refl, sym, ◌∙◌, arith, ltb-true, lt-ltb, eq-eqb, ltb, eqb}
use mathlib.Core.Bool.{false≢true}
use Rattle.semantics.specs.Proposition.{Proposition, never, always, signal, name, negated, both_of, either_of}
use Rattle.semantics.specs.Formula.{Formula, point, stretch, whole, unit, chop, conjunction, disjunction, star, slen, scount, sdur, drawn, at, gap, negation, for_some, equal, Symbol, low, high, either, low_stretch, high_stretch, either_stretch, steady}
use Rattle.semantics.specs.Placement.{Names, no_names, union, without, listed}
use Rattle.semantics.specs.Clause.{Part, ClauseType, pref, init, anti, implies, follows, triggers, Role, assumption_role, commitment, Clause}
use Rattle.semantics.specs.Verdict.{has_role}
use Rattle.semantics.specs.Reach.{proposition_within, with, within, fits, parts_fit, clause_fits, all_fit}
use Rattle.semantics.specs.Translation.{anywhere, extended, nothing, undrawn_symbol, undrawn_mark, undrawn_gap, undrawn, once_name, placed_name, placed, once, shortest_of, unanswered_of, broken_of, broken_clause, join_broken, translation}
use Rattle.semantics.proofs.Tests.{both, and_left, and_right, or_left, or_right, or_elim}
use Rattle.semantics.proofs.Names.{listed_is, listed_left, listed_right, listed_less, union_left, besides}

-- the names of one set are names of another
abbrev Has : Names → Names → Type 0
Has K L = (u : ℕ) → K u ≡ true → L u ≡ true

with_more : {K L : Names} (u : ℕ) → Has K L → Has (with u K) (with u L)
unfolding with
with_more {K} {L} u h v e =
    elim (or_elim (eqb v u) (K v) e) [
      | inl p ↦ or_left (eqb v u) (L v) p
      | inr p ↦ or_right (eqb v u) (L v) (h v p)
    ]

-- ---- a wider set serves too
proposition_wider : {K L : Names} → Has K L → (p : Proposition) → proposition_within K p ≡ true → proposition_within L p ≡ true
unfolding proposition_within
proposition_wider h never e = refl
proposition_wider h always e = refl
proposition_wider h (signal k) e = refl
proposition_wider h (name u) e = h u e
proposition_wider h (negated p) e = proposition_wider h p e
proposition_wider {K} {L} h (both_of p q) e = both (proposition_wider h p (and_left (proposition_within K p) (proposition_within K q) e)) (proposition_wider h q (and_right (proposition_within K p) (proposition_within K q) e))
proposition_wider {K} {L} h (either_of p q) e = both (proposition_wider h p (and_left (proposition_within K p) (proposition_within K q) e)) (proposition_wider h q (and_right (proposition_within K p) (proposition_within K q) e))

pub within_wider : {K L : Names} → Has K L → (f : Formula) → within K f ≡ true → within L f ≡ true
unfolding within
within_wider h (point p) e = proposition_wider h p e
within_wider h (stretch p) e = proposition_wider h p e
within_wider h (whole p) e = proposition_wider h p e
within_wider h (unit p) e = proposition_wider h p e
within_wider {K} {L} h (chop f g) e = both (within_wider h f (and_left (within K f) (within K g) e)) (within_wider h g (and_right (within K f) (within K g) e))
within_wider {K} {L} h (conjunction f g) e = both (within_wider h f (and_left (within K f) (within K g) e)) (within_wider h g (and_right (within K f) (within K g) e))
within_wider {K} {L} h (disjunction f g) e = both (within_wider h f (and_left (within K f) (within K g) e)) (within_wider h g (and_right (within K f) (within K g) e))
within_wider h (star f) e = within_wider h f e
within_wider h (slen c n) e = refl
within_wider h (scount c p n) e = proposition_wider h p e
within_wider h (sdur c p n) e = proposition_wider h p e
within_wider h (drawn s k) e = refl
within_wider h (at u) e = h u e
within_wider {K} {L} h (gap u v least most) e = both (h u (and_left (K u) (K v) e)) (h v (and_right (K u) (K v) e))
within_wider h (negation f) e = within_wider h f e
within_wider {K} {L} h (for_some u f) e = within_wider {K = with u K} {L = with u L} (with_more u h) f e

-- ---- drawings told by other formulas
symbol_within : (K : Names) (s : Symbol) (k : ℕ) → within K (undrawn_symbol s k) ≡ true
unfolding undrawn_symbol within proposition_within anywhere
symbol_within K low k = refl
symbol_within K high k = refl
symbol_within K either k = refl
symbol_within K low_stretch k = refl
symbol_within K high_stretch k = refl
symbol_within K either_stretch k = refl
symbol_within K steady k = refl

pub undrawn_within : (K : Names) (f : Formula) → within K f ≡ true → within K (undrawn f) ≡ true
unfolding within proposition_within undrawn undrawn_mark undrawn_gap anywhere
undrawn_within K (point p) e = e
undrawn_within K (stretch p) e = e
undrawn_within K (whole p) e = e
undrawn_within K (unit p) e = e
undrawn_within K (chop f g) e = both (undrawn_within K f (and_left (within K f) (within K g) e)) (undrawn_within K g (and_right (within K f) (within K g) e))
undrawn_within K (conjunction f g) e = both (undrawn_within K f (and_left (within K f) (within K g) e)) (undrawn_within K g (and_right (within K f) (within K g) e))
undrawn_within K (disjunction f g) e = both (undrawn_within K f (and_left (within K f) (within K g) e)) (undrawn_within K g (and_right (within K f) (within K g) e))
undrawn_within K (star f) e = undrawn_within K f e
undrawn_within K (slen c n) e = e
undrawn_within K (scount c p n) e = e
undrawn_within K (sdur c p n) e = e
undrawn_within K (drawn s k) e = symbol_within K s k
undrawn_within K (at u) e = e
undrawn_within K (gap u v least most) e = both (both (and_left (K u) (K v) e) refl) (and_right (K u) (K v) e)
undrawn_within K (negation f) e = undrawn_within K f e
undrawn_within K (for_some u f) e = undrawn_within (with u K) f e

-- ---- placed names
-- the set with name u, if it is one of the names
joined : ℕ → Names → Names → Names
joined u names K v = eqb v u && names u || K v

-- with what is not of the set, nothing is joined
joined_none : (u : ℕ) (names K : Names) → names u ≡ false → Has (joined u names K) K
unfolding joined
joined_none u names K n v x =
    elim (or_elim (eqb v u && names u) (K v) x) [
      | inl y ↦ absurd (false≢true (sym n ∙ and_right (eqb v u) (names u) y))
      | inr y ↦ y
    ]

name_within : (u : ℕ) (names K : Names) (f : Formula) → within (joined u names K) f ≡ true → within K (placed_name u names f) ≡ true
unfolding placed_name within proposition_within with joined
name_within u names K f e = go (names u) refl
  where
    widened : Has (joined u names K) (with u K)
    widened v x =
        elim (or_elim (eqb v u && names u) (K v) x) [
          | inl y ↦ or_left (eqb v u) (K v) (and_left (eqb v u) (names u) y)
          | inr y ↦ or_right (eqb v u) (K v) y
        ]

    go : (p : Bool) → names u ≡ p → within K (cond p (for_some u (conjunction (scount equal (name u) 1) f)) f) ≡ true
    go true n = both (or_left (eqb u u) (K u) (eq-eqb u u refl)) (within_wider widened f e)
    go false n = within_wider (joined_none u names K n) f e

joined_more : (u : ℕ) (names K : Names) (v : ℕ) → K v ≡ true → joined u names K v ≡ true
unfolding joined
joined_more u names K v x = or_right (eqb v u && names u) (K v) x

joined_self : (u : ℕ) (names K : Names) → names u ≡ true → joined u names K u ≡ true
unfolding joined
joined_self u names K x = or_left (eqb u u && names u) (K u) (both (eq-eqb u u refl) x)

listed_intro : (names : Names) (u : ℕ) → u < 3 → names u ≡ true → listed names u ≡ true
unfolding listed
listed_intro names u l n = both (lt-ltb u 3 l) n

listed_low : (names : Names) (u : ℕ) → listed names u ≡ true → u < 3
unfolding listed
listed_low names u e = ltb-true u 3 (and_left (ltb u 3) (names u) e)

joined_all : (names K : Names) → Has (union (listed names) K) (joined 2 names (joined 1 names (joined 0 names K)))
unfolding union
joined_all names K v x =
    elim (or_elim (listed names v) (K v) x) [
      | inl y ↦ lower v (listed_low names v y) (listed_is names v y)
      | inr y ↦ joined_more 2 names _ v (joined_more 1 names _ v (joined_more 0 names K v y))
    ]
  where
    lower : (v : ℕ) → v < 3 → names v ≡ true → joined 2 names (joined 1 names (joined 0 names K)) v ≡ true
    lower zero l n = joined_more 2 names _ 0 (joined_more 1 names _ 0 (joined_self 0 names K n))
    lower (suc zero) l n = joined_more 2 names _ 1 (joined_self 1 names _ n)
    lower (suc (suc zero)) l n = joined_self 2 names _ n
    lower (suc (suc (suc v))) l n = absurd (omega arith)

-- f may name what K has and what is placed
pub placed_within : (names K : Names) (f : Formula) → within (union (listed names) K) f ≡ true → within K (placed names f) ≡ true
unfolding placed
placed_within names K f e =
    name_within 0 names K _
    (name_within 1 names (joined 0 names K) _ (name_within 2 names (joined 1 names (joined 0 names K)) f (within_wider (joined_all names K) f e)))

-- names that K has already
pub once_within : (names K : Names) (f : Formula) → Has (listed names) K → within K f ≡ true → within K (once names f) ≡ true
unfolding once once_name within proposition_within
once_within names K f h e =
    one 0 (λ n. h 0 (listed_intro names 0 (omega arith) n)) _
    (one 1 (λ n. h 1 (listed_intro names 1 (omega arith) n)) _ (one 2 (λ n. h 2 (listed_intro names 2 (omega arith) n)) f e))
  where
    one : (u : ℕ) → (names u ≡ true → K u ≡ true) → (f : Formula) → within K f ≡ true → within K (once_name u names f) ≡ true
    one u k f e = go (names u) k
      where
        go : (p : Bool) → (p ≡ true → K u ≡ true) → within K (cond p (conjunction (scount equal (name u) 1) f) f) ≡ true
        go true k = both (k refl) e
        go false k = e

-- ---- clauses
part_within : (d : Part) (K : Names) → fits d ≡ true → Has (listed d.names) K → within K (undrawn d.formula) ≡ true
unfolding fits
part_within d K w h = undrawn_within K d.formula (within_wider h d.formula w)

own : (names K : Names) → Has (listed names) (union (listed names) K)
own names K = union_left (listed names) K

-- a part whose names are placed that another set lacks, K having that set's
placed_part : (K names : Names) (d : Part) → fits d ≡ true → Has (listed names) K → within K (placed (without d.names names) (undrawn d.formula)) ≡ true
placed_part K names d w h = placed_within (without d.names names) K _ (part_within d _ w (besides d.names names K h))

-- a part whose names are all placed
placed_first : (K : Names) (d : Part) → fits d ≡ true → within K (placed d.names (undrawn d.formula)) ≡ true
placed_first K d w = placed_within d.names K _ (part_within d _ w (own d.names K))

unanswered_within : (d₁ d₂ d₃ : Part) → fits d₂ ≡ true → fits d₃ ≡ true
    → within (union (listed (union d₁.names d₃.names)) no_names) (unanswered_of d₁.names (undrawn d₂.formula) d₂.names (undrawn d₃.formula) d₃.names) ≡ true
unfolding unanswered_of shortest_of within extended anywhere
unanswered_within d₁ d₂ d₃ w₂ w₃ =
    let Θ = union d₁.names d₃.names in
    let K = union (listed Θ) no_names in
    let third : Has (listed d₃.names) K = λ u e. own Θ no_names u (listed_right d₁.names d₃.names u e) in
    let short = part_within d₃ K w₃ third in
    both
    (once_within (without d₃.names d₁.names) K _ (λ u e. third u (listed_less d₃.names d₁.names u e).0) (both short (both short refl)))
    (both (placed_part K Θ d₂ w₂ (own Θ no_names)) refl)

broken_within : (κ : ClauseType) (d₁ d₂ d₃ : Part) → parts_fit κ d₁ d₂ d₃ ≡ true
    → within no_names (broken_of κ (undrawn d₁.formula) d₁.names (undrawn d₂.formula) d₂.names (undrawn d₃.formula) d₃.names) ≡ true
unfolding parts_fit broken_of within anywhere
broken_within pref d₁ d₂ d₃ w = both (placed_first no_names d₁ w) refl
broken_within init d₁ d₂ d₃ w =
    both
    (placed_within d₂.names no_names _
    (both (part_within d₂ _ (and_right (fits d₁) (fits d₂) w) (own d₂.names no_names))
    (both (placed_part _ d₂.names d₁ (and_left (fits d₁) (fits d₂) w) (own d₂.names no_names)) refl)))
    refl
broken_within anti d₁ d₂ d₃ w = both (placed_first no_names d₁ w) refl
broken_within implies d₁ d₂ d₃ w =
    both
    (placed_within d₁.names no_names _
    (both (part_within d₁ _ (and_left (fits d₁) (fits d₂) w) (own d₁.names no_names))
    (placed_part _ d₁.names d₂ (and_right (fits d₁) (fits d₂) w) (own d₁.names no_names))))
    refl
broken_within follows d₁ d₂ d₃ w =
    let v = and_right (fits d₁) (fits d₂ && fits d₃) w in
    let Θ = union d₁.names d₃.names in
    let first : Has (listed d₁.names) (union (listed Θ) no_names) = λ u e. own Θ no_names u (listed_left d₁.names d₃.names u e) in
    placed_within Θ no_names _
    (both (once_within d₁.names _ _ first (part_within d₁ _ (and_left (fits d₁) (fits d₂ && fits d₃) w) first))
    (both (unanswered_within d₁ d₂ d₃ (and_left (fits d₂) (fits d₃) v) (and_right (fits d₂) (fits d₃) v)) refl))
broken_within triggers d₁ d₂ d₃ w =
    let v = and_right (fits d₁) (fits d₂ && fits d₃) w in
    let Θ = union d₁.names d₃.names in
    let first : Has (listed d₁.names) (union (listed Θ) no_names) = λ u e. own Θ no_names u (listed_left d₁.names d₃.names u e) in
    placed_within Θ no_names _
    (both (both (once_within d₁.names _ _ first (part_within d₁ _ (and_left (fits d₁) (fits d₂ && fits d₃) w) first)) refl)
    (both (unanswered_within d₁ d₂ d₃ (and_left (fits d₂) (fits d₃) v) (and_right (fits d₂) (fits d₃) v)) refl))

join_within : (r : Role) (f : Formula) (cs : List Clause) → all_fit cs ≡ true → within no_names f ≡ true → within no_names (join_broken r f cs) ≡ true
unfolding all_fit join_broken clause_fits broken_clause within
join_within r f [] w e = e
join_within r f (c ∷ cs) w e =
    join_within r (cond (has_role r c) (disjunction f (broken_clause c)) f) cs (and_right (clause_fits c) (all_fit cs) w)
    (go (has_role r c) (broken_within c.type c.first c.second c.third (and_left (clause_fits c) (all_fit cs) w)))
  where
    go : (a : Bool) → within no_names (broken_clause c) ≡ true → within no_names (cond a (disjunction f (broken_clause c)) f) ≡ true
    go true x = both e x
    go false x = e

-- the root is closed
pub translation_closed : (cs : List Clause) → all_fit cs ≡ true → within no_names (translation cs) ≡ true
unfolding translation within nothing
translation_closed cs w = both (join_within assumption_role nothing cs w refl) (join_within commitment nothing cs w refl)
