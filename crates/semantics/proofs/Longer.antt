-- A broken clause doesn't heal (request 7): what is false of a trace is false of every trace that begins with it. A clause looks at no cycle
-- after the last of i, j and k, so where it is broken in the first cycles it is broken in the whole, and nowhere else among them.
use Rattle.std.proofs.Common.{ℕ, suc, ◌≤◌, ◌<◌, arith, Bool, true, not, ◌&&◌, ◌++◌, ◌≡◌, refl, sym, ap, ap₂, ◌∙◌, leb, eqb, length, length-append, leb-true}
use lib.ListN.{get_or-append}
use Rattle.semantics.specs.Cycles.{some_in}
use Rattle.semantics.specs.Proposition.{Proposition, never, always, signal, name, negated, both_of, either_of, Trace, Marks, bit, signal_at}
use Rattle.semantics.specs.Formula.{Formula, point, stretch, whole, unit, chop, conjunction, disjunction, star, slen, scount, sdur, drawn, at, gap, negation, for_some, holds}
use Rattle.semantics.specs.Placement.{Names, union, without, Placement, unplaced, marks}
use Rattle.semantics.specs.Clause.{Part, ClauseType, pref, init, anti, implies, follows, triggers, Clause, on, given, shortest, unanswered, breaks_at, breaks, fails}
use Rattle.semantics.specs.Reach.{proposition_within, with, within}
use Rattle.semantics.proofs.Tests.{and_intro, and_left, and_right, or_right}
use Rattle.semantics.proofs.Cycles.{and_cong, some_cong}
use Rattle.semantics.proofs.Locality.{local}
use Rattle.semantics.proofs.Placement.{placement_cong}
use Rattle.semantics.proofs.Ranges.{some_three, three_intro, three_elim}

-- ---- a set that has every name
proposition_all : (K : Names) → ((u : ℕ) → K u ≡ true) → (p : Proposition) → proposition_within K p ≡ true
unfolding proposition_within
proposition_all K all never = refl
proposition_all K all always = refl
proposition_all K all (signal k) = refl
proposition_all K all (name u) = all u
proposition_all K all (negated p) = proposition_all K all p
proposition_all K all (both_of p q) = and_intro (proposition_within K p) (proposition_within K q) (proposition_all K all p) (proposition_all K all q)
proposition_all K all (either_of p q) = and_intro (proposition_within K p) (proposition_within K q) (proposition_all K all p) (proposition_all K all q)

within_all : (K : Names) → ((u : ℕ) → K u ≡ true) → (f : Formula) → within K f ≡ true
unfolding within with
within_all K all (point p) = proposition_all K all p
within_all K all (stretch p) = proposition_all K all p
within_all K all (whole p) = proposition_all K all p
within_all K all (unit p) = proposition_all K all p
within_all K all (chop f g) = and_intro (within K f) (within K g) (within_all K all f) (within_all K all g)
within_all K all (conjunction f g) = and_intro (within K f) (within K g) (within_all K all f) (within_all K all g)
within_all K all (disjunction f g) = and_intro (within K f) (within K g) (within_all K all f) (within_all K all g)
within_all K all (star f) = within_all K all f
within_all K all (slen c n) = refl
within_all K all (scount c p n) = proposition_all K all p
within_all K all (sdur c p n) = proposition_all K all p
within_all K all (drawn s k) = refl
within_all K all (at u) = all u
within_all K all (gap u v least most) = and_intro (K u) (K v) (all u) (all v)
within_all K all (negation f) = within_all K all f
within_all K all (for_some u f) = within_all (with u K) (λ v. or_right (eqb v u) (K v) (all v)) f

-- ---- clauses on two traces
-- every part holds alike in both, on the intervals that end before cycle n
pub record AlikeBelow (n : ℕ) (σ σ' : Trace) : Type 0 where
  pub alike : (d : Part) (ν : Placement) (x y : ℕ) → x ≤ y → y < n → on d σ ν x y ≡ on d σ' ν x y

module _ (n : ℕ) (σ σ' : Trace) (same : AlikeBelow n σ σ') where
  given_same : (names : Names) (ν : Placement) (d : Part) (x y : ℕ) → x ≤ y → y < n → given names ν d σ x y ≡ given names ν d σ' x y
  unfolding given
  given_same names ν d x y l h =
      placement_cong names x y ν (λ ν'. on d σ ν' x y) (λ ν'. on d σ' ν' x y) (λ ν' a. same.alike d ν' x y l h)

  -- no l from s to k gives the part
  none_same : (names : Names) (ν : Placement) (d : Part) (s k : ℕ) → k < n
      → not (some_in s k (λ l. given names ν d σ s l)) ≡ not (some_in s k (λ l. given names ν d σ' s l))
  none_same names ν d s k h =
      ap not (some_cong s (suc k) (λ l. given names ν d σ s l) (λ l. given names ν d σ' s l) (λ l p q. given_same names ν d s l p (omega arith)))

  shortest_same : (d : Part) (ν : Placement) (x y : ℕ) → x ≤ y → y < n → shortest d σ ν x y ≡ shortest d σ' ν x y
  unfolding shortest
  shortest_same d ν x y l h =
      ap₂ ◌&&◌ (same.alike d ν x y l h)
      (ap not (some_cong x y (λ z. on d σ ν x z) (λ z. on d σ' ν x z) (λ z p q. same.alike d ν x z p (omega arith))))

  unanswered_same : (d₁ d₂ d₃ : Part) (i j s k : ℕ) → i ≤ j → j < n → s ≤ k → k < n → unanswered d₁ d₂ d₃ σ i j s k ≡ unanswered d₁ d₂ d₃ σ' i j s k
  unfolding unanswered
  unanswered_same d₁ d₂ d₃ i j s k lj hj lk hk =
      placement_cong d₁.names i j unplaced _ _
      (λ ν a. ap₂ ◌&&◌ (same.alike d₁ ν i j lj hj)
      (placement_cong (without d₃.names d₁.names) s k ν _ _
      (λ ν' a'. ap₂ ◌&&◌ (shortest_same d₃ ν' s k lk hk) (none_same (without d₂.names (union d₁.names d₃.names)) ν' d₂ s k hk))))

  at_same : (κ : ClauseType) (d₁ d₂ d₃ : Part) (i j k : ℕ) → j < n → k < n → breaks_at κ d₁ d₂ d₃ σ i j k ≡ breaks_at κ d₁ d₂ d₃ σ' i j k
  unfolding breaks_at
  at_same pref d₁ d₂ d₃ i j k hj hk =
      ap (λ (b : Bool). eqb i 0 && eqb k j && not b) (given_same d₁.names unplaced d₁ 0 j (omega arith) hj)
  at_same init d₁ d₂ d₃ i j k hj hk =
      ap (λ (b : Bool). eqb i 0 && eqb k j && b)
      (placement_cong d₂.names 0 j unplaced _ _
      (λ ν a. ap₂ ◌&&◌ (same.alike d₂ ν 0 j (omega arith) hj) (none_same (without d₁.names d₂.names) ν d₁ 0 j hj)))
  at_same anti d₁ d₂ d₃ i j k hj hk =
      and_cong (leb i j && eqb k j) _ _ (λ g. given_same d₁.names unplaced d₁ i j (leb-true i j (and_left (leb i j) (eqb k j) g)) hj)
  at_same implies d₁ d₂ d₃ i j k hj hk =
      and_cong (leb i j && eqb k j) _ _
      (λ g. let l = leb-true i j (and_left (leb i j) (eqb k j) g) in
      placement_cong d₁.names i j unplaced _ _
      (λ ν a. ap₂ ◌&&◌ (same.alike d₁ ν i j l hj) (ap not (given_same (without d₂.names d₁.names) ν d₂ i j l hj))))
  at_same follows d₁ d₂ d₃ i j k hj hk =
      and_cong (leb i j && leb j k) _ _
      (λ g. unanswered_same d₁ d₂ d₃ i j j k (leb-true i j (and_left (leb i j) (leb j k) g)) hj (leb-true j k (and_right (leb i j) (leb j k) g)) hk)
  at_same triggers d₁ d₂ d₃ i j k hj hk =
      and_cong (leb i j && leb i k) _ _
      (λ g. unanswered_same d₁ d₂ d₃ i j i k (leb-true i j (and_left (leb i j) (leb i k) g)) hj (leb-true i k (and_right (leb i j) (leb i k) g)) hk)

  -- a clause of any type is broken at the same places before cycle n
  pub breaks_same : (c : Clause) (i j k : ℕ) → j < n → k < n → breaks c σ i j k ≡ breaks c σ' i j k
  unfolding breaks
  breaks_same c i j k hj hk = at_same c.type c.first c.second c.third i j k hj hk

-- ---- a trace and one that begins with it
module _ (σ more : Trace) where
  pub longer : length σ ≤ length (σ ++ more)
  longer = let size = length-append σ more in omega arith

  pub holds_longer : (f : Formula) (μ : Marks) (b e : ℕ) → b ≤ e → e < length σ → holds f σ μ b e ≡ holds f (σ ++ more) μ b e
  unfolding signal_at
  holds_longer f μ b e l h =
      local f (within_all (λ u. true) (λ u. refl) f) l
      (record {
        inside = h;
        inside' = omega (arith, longer);
        signals = λ k t p q. ap (λ (w : ℕ). bit w k) (sym (get_or-append σ more 0 t (omega arith)));
        marks = λ u w t p q. refl;
      })

  alike_longer : AlikeBelow (length σ) σ (σ ++ more)
  unfolding on
  alike_longer = record { alike = λ d ν x y l h. holds_longer d.formula (marks ν) x y l h }

  -- broken at i, j, k in the first cycles exactly if there in the whole
  pub breaks_longer : (c : Clause) (i j k : ℕ) → j < length σ → k < length σ → breaks c σ i j k ≡ breaks c (σ ++ more) i j k
  breaks_longer c i j k hj hk = breaks_same (length σ) σ (σ ++ more) alike_longer c i j k hj hk

  -- the request: a clause that is false of a trace is false of every trace that begins with it
  pub fails_longer : (c : Clause) → fails c σ ≡ true → fails c (σ ++ more) ≡ true
  unfolding fails some_three
  fails_longer c h =
      let w = three_elim (length σ) (breaks c σ) h in
      three_intro (length (σ ++ more)) (breaks c (σ ++ more))
      (record {
        i = w.i;
        j = w.j;
        k = w.k;
        i_below = omega (arith, longer, w.i_below);
        j_below = omega (arith, longer, w.j_below);
        k_below = omega (arith, longer, w.k_below);
        ok = sym (breaks_longer c w.i w.j w.k w.j_below w.k_below) ∙ w.ok;
      })
