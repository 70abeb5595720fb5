-- A clause is broken at i, j, k exactly if some cycles of the trace for the names that it quantifies universally leave the interval unanswered.
use Rattle.std.proofs.Common.{ℕ, suc, ◌≤◌, ◌<◌, arith, Bool, true, false, not, ◌&&◌, ◌≡◌, refl, sym, ap, ◌∙◌, leb, eqb, length, leb-true}
use mathlib.Core.Bool.{false≢true}
use Rattle.semantics.specs.Cycles.{some_in}
use Rattle.semantics.specs.Proposition.{Trace}
use Rattle.semantics.specs.Placement.{Names, no_names, union, without, Placement, unplaced, place_name, some_placement}
use Rattle.semantics.specs.Inside.{inside}
use Rattle.semantics.specs.Clause.{Part, ClauseType, pref, init, anti, implies, follows, triggers, on, given, shortest, unanswered, breaks_at}
use Rattle.semantics.specs.Reach.{fits, parts_fit}
use Rattle.semantics.proofs.Tests.{same, and_intro, and_left, and_right, and_assoc}
use Rattle.semantics.proofs.Names.{without_none}
use Rattle.semantics.proofs.Cycles.{some_cong}
use Rattle.semantics.proofs.Placement.{placement_elim, placement_same, placement_cong, inside_to, inside_from}
use Rattle.semantics.proofs.Joined.{together, join}
use Rattle.intervals.specs.Search.{fresh, quantified, premise, reply, on_inside, short_inside, answered, missed, missed_by}

-- a condition that does not depend on the placement
pub and_placement : (a : Bool) (names : Names) (x y : ℕ) (ν : Placement) (p : Placement → Bool)
    → a && some_placement names x y ν p ≡ some_placement names x y ν (λ ν'. a && p ν')
and_placement true names x y ν p = refl
and_placement false names x y ν p =
    same false (some_placement names x y ν (λ ν'. false && p ν')) (λ h. absurd (false≢true h))
    (λ h. (placement_elim names x y ν (λ ν'. false && p ν') h).ok)

-- a placement over [x,y] is one over the whole trace whose names stand in [x,y]
outside : (names : Names) (x y last : ℕ) (ν : Placement) (p : Placement → Bool) → y ≤ last
    → some_placement names x y ν p ≡ some_placement names 0 last ν (λ ν'. inside names x y ν' && p ν')
outside names x y last ν p h =
    placement_same names x y ν p names 0 last ν (λ ν'. inside names x y ν' && p ν')
    (λ ν' a q. record {
      to = ν';
      agreeing = record { inside = λ u l. let r = a.inside u l in omega arith; kept = a.kept };
      ok = and_intro (inside names x y ν') (p ν') (inside_to names x y ν' a.inside) q;
    })
    (λ ν' a q. record {
      to = ν';
      agreeing = record { inside = inside_from names x y ν' (and_left (inside names x y ν') (p ν') q); kept = a.kept };
      ok = and_right (inside names x y ν') (p ν') q;
    })

-- no name is to be placed
nothing_placed : (x y : ℕ) (ν : Placement) (p : Placement → Bool) → some_placement no_names x y ν p ≡ p ν
unfolding some_placement place_name no_names
nothing_placed x y ν p = refl

given_out : (before : Names) (ν : Placement) (d : Part) (σ : Trace) (x y last : ℕ) → y ≤ last
    → given (without d.names before) ν d σ x y ≡ answered (fresh before d) σ last ν x y
unfolding given answered on_inside fresh on
given_out before ν d σ x y last h = outside (without d.names before) x y last ν (λ ν'. on d σ ν' x y) h

-- a part alone
alone_out : (d : Part) (σ : Trace) (x y last : ℕ) → y ≤ last → given d.names unplaced d σ x y ≡ some_placement d.names 0 last unplaced (λ ν. on_inside d σ ν x y)
unfolding given on_inside
alone_out d σ x y last h = outside d.names x y last unplaced (λ ν. on d σ ν x y) h

-- the part that a clause starts from, its names on any cycles of the trace
first_out : (d : Part) (σ : Trace) (x y last : ℕ) (p q : Placement → Bool) → y ≤ last → ((ν : Placement) → p ν ≡ q ν)
    → some_placement d.names x y unplaced (λ ν. on d σ ν x y && p ν)
    ≡ some_placement d.names 0 last unplaced (λ ν. on_inside d σ ν x y && q ν)
unfolding on_inside
first_out d σ x y last p q h f =
    outside d.names x y last unplaced (λ ν. on d σ ν x y && p ν) h
    ∙ placement_cong d.names 0 last unplaced (λ ν. inside d.names x y ν && (on d σ ν x y && p ν))
    (λ ν. inside d.names x y ν && on d σ ν x y && q ν)
    (λ ν a. ap (λ (r : Bool). inside d.names x y ν && (on d σ ν x y && r)) (f ν) ∙ and_assoc (inside d.names x y ν) (on d σ ν x y) (q ν))

-- tests that agree where the conditions before them hold
and_under : (a b p q : Bool) → (a ≡ true → b ≡ true → p ≡ q) → a && b && p ≡ (a && b && q)
and_under true true p q f = f refl refl
and_under true false p q f = refl
and_under false b p q f = refl

-- D1 on [i,j] and Ξ of D3 on [s,k], but no answer from s up to k
abbrev awaiting : Part → Part → Part → Trace → ℕ → ℕ → ℕ → ℕ → ℕ → Placement → Bool
awaiting d₁ d₂ d₃ σ last i j s k ν =
    on_inside d₁ σ ν i j
    && (short_inside (fresh d₁.names d₃) σ ν s k && not (some_in s k (answered (fresh (union d₁.names d₃.names) d₂) σ last ν s)))

module _ (d₁ d₂ d₃ : Part) (σ : Trace) (last : ℕ) (inσ : last < length σ) (fit : fits d₁ ≡ true) where
  abbrev Θ₁₃ : Names
  Θ₁₃ = union d₁.names d₃.names

  -- the three tests of follows and triggers, for an answer that starts at s
  unanswered_out : (i j s k : ℕ) → i ≤ j → j ≤ last → k ≤ last
      → unanswered d₁ d₂ d₃ σ i j s k ≡ some_placement Θ₁₃ 0 last unplaced (awaiting d₁ d₂ d₃ σ last i j s k)
  unfolding unanswered on_inside short_inside fresh shortest on
  unanswered_out i j s k ij jl kl =
      join d₁ d₃.names σ fit 0 i j s k last (omega arith) ij jl (omega arith) kl inσ q
      ∙ placement_cong Θ₁₃ 0 last unplaced (together d₁ d₃.names σ i j s k q) (awaiting d₁ d₂ d₃ σ last i j s k)
      (λ ν a. ap (λ (r : Bool). on_inside d₁ σ ν i j && r)
      (ap (λ (r : Bool). inside rest s k ν && (shortest d₃ σ ν s k && not r))
      (some_cong s (suc k) (λ l. given (without d₂.names Θ₁₃) ν d₂ σ s l) (answered (fresh Θ₁₃ d₂) σ last ν s)
      (λ l a b. given_out Θ₁₃ ν d₂ σ s l last (omega arith)))
      ∙ and_assoc (inside rest s k ν) (shortest d₃ σ ν s k) (not (some_in s k (answered (fresh Θ₁₃ d₂) σ last ν s)))))
    where
      rest : Names
      rest = without d₃.names d₁.names

      q : Placement → Bool
      q ν = shortest d₃ σ ν s k && not (some_in s k (λ l. given (without d₂.names Θ₁₃) ν d₂ σ s l))

pub breaks_out : (κ : ClauseType) (d₁ d₂ d₃ : Part) (σ : Trace) (last : ℕ) → last < length σ → parts_fit κ d₁ d₂ d₃ ≡ true → (i j k : ℕ) → j ≤ last → k ≤ last
    → breaks_at κ d₁ d₂ d₃ σ i j k
    ≡ some_placement (quantified κ d₁.names d₂.names d₃.names) 0 last unplaced (λ ν. missed_by κ d₁ d₂ d₃ σ last ν i j k)
unfolding breaks_at parts_fit quantified premise reply missed missed_by
breaks_out pref d₁ d₂ d₃ σ last inσ w i j k jl kl =
    ap (λ (r : Bool). eqb i 0 && eqb k j && not r)
    (ap (λ (names : Names). given names unplaced d₁ σ 0 j) (sym (without_none d₁.names)) ∙ given_out no_names unplaced d₁ σ 0 j last jl)
    ∙ sym (nothing_placed 0 last unplaced (λ ν. eqb i 0 && eqb k j && not (answered (fresh no_names d₁) σ last ν 0 j)))
breaks_out init d₁ d₂ d₃ σ last inσ w i j k jl kl =
    let rest = without d₁.names d₂.names in
    let replies : Placement → ℕ → Bool = λ ν. answered (fresh d₂.names d₁) σ last ν 0 in
    ap (λ (r : Bool). eqb i 0 && eqb k j && r)
    (first_out d₂ σ 0 j last (λ ν. not (some_in 0 j (λ l. given rest ν d₁ σ 0 l))) (λ ν. not (some_in 0 j (replies ν))) jl
    (λ ν. ap not (some_cong 0 (suc j) (λ l. given rest ν d₁ σ 0 l) (replies ν) (λ l a b. given_out d₂.names ν d₁ σ 0 l last (omega arith)))))
    ∙ and_placement (eqb i 0 && eqb k j) d₂.names 0 last unplaced (λ ν. on_inside d₂ σ ν 0 j && not (some_in 0 j (replies ν)))
breaks_out anti d₁ d₂ d₃ σ last inσ w i j k jl kl =
    ap (λ (r : Bool). leb i j && eqb k j && r) (alone_out d₁ σ i j last jl)
    ∙ and_placement (leb i j && eqb k j) d₁.names 0 last unplaced (λ ν. on_inside d₁ σ ν i j)
breaks_out implies d₁ d₂ d₃ σ last inσ w i j k jl kl =
    let rest = without d₂.names d₁.names in
    ap (λ (r : Bool). leb i j && eqb k j && r)
    (first_out d₁ σ i j last (λ ν. not (given rest ν d₂ σ i j)) (λ ν. not (answered (fresh d₁.names d₂) σ last ν i j)) jl
    (λ ν. ap not (given_out d₁.names ν d₂ σ i j last jl)))
    ∙ and_placement (leb i j && eqb k j) d₁.names 0 last unplaced
    (λ ν. on_inside d₁ σ ν i j && not (answered (fresh d₁.names d₂) σ last ν i j))
breaks_out follows d₁ d₂ d₃ σ last inσ w i j k jl kl =
    let Θ = union d₁.names d₃.names in
    and_under (leb i j) (leb j k) (unanswered d₁ d₂ d₃ σ i j j k) (some_placement Θ 0 last unplaced (awaiting d₁ d₂ d₃ σ last i j j k))
    (λ p q. unanswered_out d₁ d₂ d₃ σ last inσ (and_left (fits d₁) (fits d₂ && fits d₃) w) i j j k (leb-true i j p) jl kl)
    ∙ and_placement (leb i j && leb j k) Θ 0 last unplaced (awaiting d₁ d₂ d₃ σ last i j j k)
breaks_out triggers d₁ d₂ d₃ σ last inσ w i j k jl kl =
    let Θ = union d₁.names d₃.names in
    and_under (leb i j) (leb i k) (unanswered d₁ d₂ d₃ σ i j i k) (some_placement Θ 0 last unplaced (awaiting d₁ d₂ d₃ σ last i j i k))
    (λ p q. unanswered_out d₁ d₂ d₃ σ last inσ (and_left (fits d₁) (fits d₂ && fits d₃) w) i j i k (leb-true i j p) jl kl)
    ∙ and_placement (leb i j && leb i k) Θ 0 last unplaced (awaiting d₁ d₂ d₃ σ last i j i k)
