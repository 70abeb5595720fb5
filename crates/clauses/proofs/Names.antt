-- Placed names: how a plan over them is written, and what it tells.
use Rattle.std.proofs.Common.{ℕ, zero, suc, ◌+◌, ◌*◌, ◌%◌, ◌^◌, ◌≤◌, ◌<◌, Bool, true, false, cond, true≢false, List, inl, inr, ◌≡◌, refl, sym, ◌∙◌, ap, arith, ltb-true, ltb-false, eqb, ltb}
use Rattle.std.proofs.Math.Nat.{div-eq_of_lt, pow-le-pow_right}
use Rattle.semantics.specs.Proposition.{bit, name}
use Rattle.semantics.specs.Formula.{Formula, conjunction, scount, at, for_some, equal}
use Rattle.semantics.specs.Placement.{Names, union, without}
use Rattle.semantics.specs.Translation.{once_name, once, placed_name, placed}
use Rattle.semantics.proofs.Tests.{test}
use Rattle.stored.specs.Sheet.{header_of}
use Rattle.plans.specs.Emission.{Ready}
use Rattle.plans.specs.Plan.{node, op_and, op_some, Put, Wrote, there, marked, conjoined, columned}
use Rattle.clauses.specs.Clauses.{names_over}
use Rattle.plans.proofs.Plans.{Tells, tells_within, once_told, and_told, some_told}

-- ---- sets of names, and how many names they have
-- every name of the set is one of the m
abbrev pub Inside : ℕ → Names → Type 0
Inside m names = (u : ℕ) → names u ≡ true → u < m

pub mask_inside : (m a : ℕ) → a < 2 ^ m → Inside m (bit a)
unfolding bit
mask_inside m a h u e =
    elim (test (ltb u m)) [
      | inl l ↦ ltb-true u m l
      | inr l ↦ let big : 2 ^ m ≤ 2 ^ u = pow-le-pow_right {n = 2} (omega arith) (ltb-false u m l) in
          let less : a < 2 ^ u = omega arith in
          absurd (true≢false (sym e ∙ ap (λ (x : ℕ). eqb (x % 2) 1) (div-eq_of_lt less)))
    ]

pub union_inside : {m : ℕ} {a b : Names} → Inside m a → Inside m b → Inside m (union a b)
unfolding union
union_inside {a = a} {b = b} h k u e = grind (arith, h u, k u)

pub without_inside : {m : ℕ} {a : Names} (b : Names) → Inside m a → Inside m (without a b)
unfolding without
without_inside {a = a} b h u e = grind (arith, h u)

unfoldable pub many : Names → ℕ
many names = cond (names 0) 1 0 + cond (names 1) 1 0 + cond (names 2) 1 0

-- a set and what another has besides are both
pub many_both : (a b : Names) → many a + many (without b a) ≡ many (union a b)
unfolding many without union
many_both a b = grind arith

pub many_most : {m : ℕ} (names : Names) → m ≤ 3 → Inside m names → many names ≤ m
unfolding many
many_most {m} names h inside = grind (arith, inside 0, inside 1, inside 2)

-- ---- one name, by whether it is of the set
once₁ : ℕ → Bool → Formula → Formula
once₁ u p f = cond p (conjunction (scount equal (name u) 1) f) f

placed₁ : ℕ → Bool → Formula → Formula
placed₁ u p f = cond p (for_some u (conjunction (scount equal (name u) 1) f)) f

-- what is written for g after y is written for g' after x
abbrev Over : List ℕ → List ℕ → Formula → Formula → Type 0
Over x y g g' = (z : List ℕ) (r : ℕ) → Wrote y z r g → Wrote x z r g'

node_over : {x y : List ℕ} {a : ℕ} {f : Formula} → Wrote x y a f → Over x y (at a) f
node_over w z r there = w

mark_over : {x y : List ℕ} {g g' : Formula} (u : ℕ) (p : Bool) → Over x y g g' → Over x y (once₁ u p g) (once₁ u p g')
unfolding once₁
mark_over u false o z r w = o z r w
mark_over u true o z r (conjoined marked w put) = conjoined marked (o _ _ w) put

name_over : {x y : List ℕ} {g g' : Formula} (u : ℕ) (p : Bool) → Over x y g g' → Over x y (placed₁ u p g) (placed₁ u p g')
unfolding placed₁
name_over u false o z r w = o z r w
name_over u true o z r (columned (conjoined marked w put) put') = columned (conjoined marked (o _ _ w) put) put'

pub once_over : {x y z : List ℕ} {a r : ℕ} {f : Formula} (names : Names) → Wrote x y a f
    → Wrote y z r (once names (at a)) → Wrote x z r (once names f)
unfolding once once_name once₁
once_over names w v = mark_over 0 (names 0) (mark_over 1 (names 1) (mark_over 2 (names 2) (node_over w))) _ _ v

pub placed_over : {x y z : List ℕ} {a r : ℕ} {f : Formula} (names : Names) → Wrote x y a f
    → Wrote y z r (placed names (at a)) → Wrote x z r (placed names f)
unfolding placed placed_name placed₁
placed_over names w v = name_over 0 (names 0) (name_over 1 (names 1) (name_over 2 (names 2) (node_over w))) _ _ v

-- ---- as they are written, the last name first
-- name u, in a column of its own or not
abbrev one_over : Bool → ℕ → Names → Formula → Formula
one_over own u names f = cond own (placed_name u names f) (once_name u names f)

-- the names from u on
abbrev pub names_from : Bool → ℕ → Names → Formula → Formula
names_from own zero names f = names_over own names f
names_from own (suc zero) names f = one_over own 1 names (one_over own 2 names f)
names_from own (suc (suc zero)) names f = one_over own 2 names f
names_from own (suc (suc (suc u))) names f = f

names_next : (own : Bool) (u : ℕ) (names : Names) (f : Formula) → u < 3 → names_from own u names f ≡ one_over own u names (names_from own (u + 1) names f)
unfolding once placed
names_next true zero names f h = refl
names_next false zero names f h = refl
names_next own (suc zero) names f h = refl
names_next own (suc (suc zero)) names f h = refl
names_next own (suc (suc (suc u))) names f h = absurd (omega arith)

pub names_all : {x y : List ℕ} {a : ℕ} (own : Bool) (u : ℕ) (names : Names) (f : Formula) → u ≤ 0
    → Wrote x y a (names_from own u names f) → Wrote x y a (names_over own names f)
names_all own zero names f h w = w
names_all own (suc u) names f h w = absurd (omega arith)

-- name u after those from v on, which is the next
module _ {x y : List ℕ} {a : ℕ} (u v : ℕ) (names : Names) (f : Formula) (next : v ≡ u + 1) (few : v ≤ 3) where
  pub name_passed : (own : Bool) → names u ≡ false → Wrote x y a (names_from own v names f) → Wrote x y a (names_from own u names f)
  unfolding once_name placed_name
  name_passed true e w = rw (names_next true u names f (omega arith), e, sym next) w
  name_passed false e w = rw (names_next false u names f (omega arith), e, sym next) w

  pub name_marked : {z : List ℕ} {r : ℕ} (own : Bool) → own ≡ false → names u ≡ true → Wrote x y a (names_from own v names f)
      → Put (node op_and 0 (4 + 2 * u) a) y z r → Wrote x z r (names_from own u names f)
  unfolding once_name
  name_marked true o e w put = absurd (true≢false o)
  name_marked false o e w put = rw (names_next false u names f (omega arith), e, sym next) (conjoined marked w put)

  pub name_placed : {z z' : List ℕ} {b r : ℕ} (own : Bool) → own ≡ true → names u ≡ true → Wrote x y a (names_from own v names f)
      → Put (node op_and 0 (4 + 2 * u) a) y z b → Put (node op_some 0 b u) z z' r → Wrote x z' r (names_from own u names f)
  unfolding placed_name
  name_placed true o e w put put' = rw (names_next true u names f (omega arith), e, sym next) (columned (conjoined marked w put) put')
  name_placed false o e w put put' = absurd (true≢false (sym o))

-- ---- what they tell: a node for a name's one mark, and one for its column
module _ {y : List ℕ} (ready : Ready y) where
  mark_told : {f g : Formula} {k : ℕ} (u : ℕ) (p : Bool) → (p ≡ true → u < (header_of y).names) → Tells y f g k
      → Tells y (once₁ u p f) (once₁ u p g) (k + cond p 1 0)
  unfolding once₁
  mark_told {k = k} u false h t = tells_within _ (omega arith) t
  mark_told {k = k} u true h t = tells_within (k + 1) (omega arith) (and_told (once_told ready (h refl)) t)

  name_told : {f g : Formula} {k : ℕ} (u : ℕ) (p : Bool) → (p ≡ true → u < (header_of y).names) → Tells y f g k
      → Tells y (placed₁ u p f) (placed₁ u p g) (k + 2 * cond p 1 0)
  unfolding placed₁
  name_told {k = k} u false h t = tells_within _ (omega arith) t
  name_told {k = k} u true h t = tells_within (k + 2) (omega arith) (some_told u (h refl) (and_told (once_told ready (h refl)) t))

  pub marks_told : {f g : Formula} {k : ℕ} (names : Names) → Inside (header_of y).names names → Tells y f g k
      → Tells y (once names f) (once names g) (k + many names)
  unfolding once once_name once₁ many
  marks_told names inside t =
      tells_within _ (omega arith)
      (mark_told 0 (names 0) (inside 0) (mark_told 1 (names 1) (inside 1) (mark_told 2 (names 2) (inside 2) t)))

  pub placed_told : {f g : Formula} {k : ℕ} (names : Names) → Inside (header_of y).names names → Tells y f g k
      → Tells y (placed names f) (placed names g) (k + 2 * many names)
  unfolding placed placed_name placed₁ many
  placed_told names inside t =
      tells_within _ (omega arith)
      (name_told 0 (names 0) (inside 0) (name_told 1 (names 1) (inside 1) (name_told 2 (names 2) (inside 2) t)))
