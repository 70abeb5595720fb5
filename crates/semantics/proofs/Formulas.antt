-- What the formulas of a translation hold on, one operator at a time.
use Rattle.std.proofs.Common.{ℕ, suc, ◌-◌, ◌≤◌, ◌<◌, arith, Bool, true, false, not, ◌&&◌, ◌||◌, ◌≡◌, refl, ap, ap₂, ◌∙◌, ltb, length, ltb-true, lt-ltb}
use lib.Dec.{leb-zero, leb-suc-zero}
use Rattle.semantics.specs.Cycles.{some_from, some_in}
use Rattle.semantics.specs.Proposition.{Trace, Marks}
use Rattle.semantics.specs.Formula.{Formula, chop, conjunction, disjunction, negation, compared, holds}
use Rattle.semantics.specs.Placement.{Names, union, listed, Placement, marks}
use Rattle.semantics.specs.Clause.{Part, on, given}
use Rattle.semantics.specs.Reach.{fits}
use Rattle.semantics.specs.Translation.{anywhere, extended, nothing, undrawn, placed, shortest_of}
use Rattle.semantics.proofs.Tests.{and_left, and_right, and_intro, and_true_right}
use Rattle.semantics.proofs.Cycles.{some_cong, some_same}
use Rattle.semantics.proofs.Locality.{local}
use Rattle.semantics.proofs.Undrawn.{undrawn_holds}
use Rattle.semantics.proofs.Placed.{Stands, placed_holds}

-- whether f holds on [b,e] is p
pub record Says (f : Formula) (σ : Trace) (μ : Marks) (b e : ℕ) (p : Bool) : Type 0 where
  pub same : holds f σ μ b e ≡ p

pub says_as : {f : Formula} {σ : Trace} {μ : Marks} {b e : ℕ} {p q : Bool} → p ≡ q → Says f σ μ b e p → Says f σ μ b e q
says_as h s = record { same = s.same ∙ h }

module _ {σ : Trace} {μ : Marks} {b e : ℕ} where
  pub and_is : {f g : Formula} {p q : Bool} → Says f σ μ b e p → Says g σ μ b e q → Says (conjunction f g) σ μ b e (p && q)
  unfolding holds
  and_is h k = record { same = ap₂ ◌&&◌ h.same k.same }

  pub or_is : {f g : Formula} {p q : Bool} → Says f σ μ b e p → Says g σ μ b e q → Says (disjunction f g) σ μ b e (p || q)
  unfolding holds
  or_is h k = record { same = ap₂ ◌||◌ h.same k.same }

  pub not_is : {f : Formula} {p : Bool} → Says f σ μ b e p → Says (negation f) σ μ b e (not p)
  unfolding holds
  not_is h = record { same = ap not h.same }

  pub chop_is : {f g : Formula} (p q : ℕ → Bool) → ((i : ℕ) → b ≤ i → i ≤ e → Says f σ μ b i (p i))
      → ((i : ℕ) → b ≤ i → i ≤ e → Says g σ μ i e (q i)) → Says (chop f g) σ μ b e (some_in b e (λ i. p i && q i))
  unfolding holds
  chop_is {f} {g} p q h k =
      record {
        same =
            some_cong b (suc e) (λ i. holds f σ μ b i && holds g σ μ i e) (λ i. p i && q i)
            (λ i l m. ap₂ ◌&&◌ (h i l (omega arith)).same (k i l (omega arith)).same);
      }

  pub anywhere_is : Says anywhere σ μ b e true
  unfolding holds anywhere compared
  anywhere_is = record { same = leb-zero (e - b) }

  pub nothing_is : Says nothing σ μ b e false
  unfolding holds nothing compared
  nothing_is = record { same = leb-suc-zero (e - b) }

  extended_is : Says extended σ μ b e (ltb 0 (e - b))
  unfolding holds extended compared
  extended_is = record { same = refl }

module _ {σ : Trace} {μ : Marks} {b e : ℕ} where
  -- f from the beginning up to somewhere
  pub prefix_is : {f : Formula} (p : ℕ → Bool) → ((i : ℕ) → b ≤ i → i ≤ e → Says f σ μ b i (p i))
      → Says (chop f anywhere) σ μ b e (some_in b e p)
  prefix_is p h =
      says_as (some_cong b (suc e) (λ i. p i && true) p (λ i l m. and_true_right (p i)))
      (chop_is p (λ i. true) h (λ i l m. anywhere_is))

  -- f from somewhere to the end
  pub suffix_is : {f : Formula} (p : ℕ → Bool) → ((i : ℕ) → b ≤ i → i ≤ e → Says f σ μ i e (p i))
      → Says (chop anywhere f) σ μ b e (some_in b e p)
  suffix_is p h = chop_is (λ i. true) p (λ i l m. anywhere_is) h

pub shortest_is : {σ : Trace} {μ : Marks} {x y : ℕ} {f : Formula} (p : ℕ → Bool) → x ≤ y
    → ((z : ℕ) → x ≤ z → z ≤ y → Says f σ μ x z (p z)) → Says (shortest_of f) σ μ x y (p y && not (some_from x y p))
unfolding shortest_of
shortest_is {x = x} {y} p l h =
    and_is (h y l (omega arith))
    (not_is (says_as (some_same x (suc y) x y (λ z. p z && ltb 0 (y - z)) p
    (λ z a b q. (a, (let r = ltb-true 0 (y - z) (and_right (p z) (ltb 0 (y - z)) q) in omega arith), and_left (p z) (ltb 0 (y - z)) q))
    (λ z a b q. (a, (omega arith), and_intro (p z) (ltb 0 (y - z)) q (lt-ltb 0 (y - z) (omega arith)))))
    (chop_is p (λ z. ltb 0 (y - z)) h (λ z a b. extended_is))))

-- a part, where its names stand
module _ (σ : Trace) {x y : ℕ} (o : x ≤ y) (i : y < length σ) where
  pub part_is : {K : Names} {μ : Marks} {ν : Placement} (d : Part) → fits d ≡ true → ((u : ℕ) → listed d.names u ≡ true → K u ≡ true)
      → Stands K x y μ ν → Says (undrawn d.formula) σ μ x y (on d σ ν x y)
  unfolding fits on marks
  part_is {μ = μ} {ν} d w k s =
      record {
        same =
            undrawn_holds d.formula σ μ x y o
            ∙ local d.formula w o
            (record { inside = i; inside' = i; signals = λ n t a b. refl; marks = λ u h. s.alike u (k u h) });
      }

  -- a part some of whose names are to be placed, the others standing already
  pub given_is : {K : Names} {μ : Marks} {ν : Placement} (names : Names) (d : Part) → fits d ≡ true
      → ((u : ℕ) → listed d.names u ≡ true → union (listed names) K u ≡ true) → Stands K x y μ ν
      → Says (placed names (undrawn d.formula)) σ μ x y (given names ν d σ x y)
  unfolding given
  given_is {K} {μ} {ν} names d w k s =
      record {
        same =
            placed_holds σ x y i names K (undrawn d.formula) (λ ν'. on d σ ν' x y) μ ν s
            (λ μ' ν' s'. (part_is d w k s').same);
      }
