-- The reading of placements: a clause is broken at i, j, k as `breaksAt` has it exactly if it is in the words of document 01 and request 4, where
-- every part has a placement of its own Θ, each name inside the interval of the first part that lists it, and two placements agree if shared
-- names have the same cycle.
use Rattle.std.proofs.Common.{ℕ, suc, ◌≤◌, ◌<◌, arith, Bool, true, false, not, cond, ◌&&◌, inl, inr, ◌↔◌, ◌≡◌, refl, sym, ap₂, ◌∙◌, leb, eqb, length, leb-true, le-leb, eqb-true, eq-eqb}
use Rattle.semantics.specs.Cycles.{some_from, some_in}
use Rattle.semantics.specs.Proposition.{Trace}
use Rattle.semantics.specs.Placement.{Names, no_names, union, without, listed, Placement, unplaced, some_placement}
use Rattle.semantics.specs.Clause.{Part, ClauseType, pref, init, anti, implies, follows, triggers, on, given, shortest, unanswered, breaks_at}
use Rattle.semantics.specs.Reach.{fits, parts_fit}
use Rattle.semantics.proofs.Tests.{test, and_intro, and_left, and_right, not_intro, not_elim}
use Rattle.semantics.proofs.Cycles.{some_intro, some_elim, some_cong}
use Rattle.semantics.proofs.Placement.{Agreeing, placement_intro, placement_elim}
use Rattle.semantics.proofs.Names.{not_none, listed_is, listed_too, union_left, union_right, union_elim, without_none, listed_less, less_listed, less_unlisted, unlisted_less}
use Rattle.semantics.proofs.Joined.{on_local}

-- D on [x,y] under ν, a placement of Θ: names that no part before lists stand in [x,y], the others anywhere
pub record On (before : Names) (d : Part) (σ : Trace) (x y : ℕ) (ν : Placement) : Type 0 where
  pub over : (u : ℕ) → listed d.names u ≡ true → before u ≡ false → (x ≤ ν u) × (ν u ≤ y)
  pub ok : on d σ ν x y ≡ true

-- Ξ: D on [x,y] and on no shorter [x,z], marks unmoved
pub record Shortest (before : Names) (d : Part) (σ : Trace) (x y : ℕ) (ν : Placement) : Type 0 where
  pub here : On before d σ x y ν
  pub shorter : (z : ℕ) → x ≤ z → z < y → on d σ ν x z ≡ true → ⊥

-- names that both sets have stand on the same cycle
abbrev pub Agree : Names → Names → Placement → Placement → Type 0
Agree a b ν ν' = (u : ℕ) → listed a u ≡ true → listed b u ≡ true → ν u ≡ ν' u

-- D1 on [i,j] and, agreeing, Ξ of D3 on [s,k], but no l from s to k and placement agreeing with both give D2 on [s,l]: D1, D3, D2 is the order
pub record Unanswered (d₁ d₂ d₃ : Part) (σ : Trace) (i j s k : ℕ) : Type 0 where
  pub ν₁ : Placement
  pub ν₃ : Placement
  pub first : On no_names d₁ σ i j ν₁
  pub third : Shortest d₁.names d₃ σ s k ν₃
  pub agree : Agree d₁.names d₃.names ν₁ ν₃
  pub nobody : (l : ℕ) → s ≤ l → l ≤ k → (ν₂ : Placement) → On (union d₁.names d₃.names) d₂ σ s l ν₂
      → Agree d₁.names d₂.names ν₁ ν₂ → Agree d₃.names d₂.names ν₃ ν₂ → ⊥

abbrev pub Breaks : ClauseType → Part → Part → Part → Trace → ℕ → ℕ → ℕ → Type 0
Breaks pref d₁ d₂ d₃ σ i j k = (i ≡ 0) × (k ≡ j) × ((ν₁ : Placement) → On no_names d₁ σ 0 j ν₁ → ⊥)
Breaks init d₁ d₂ d₃ σ i j k =
    (i ≡ 0) × (k ≡ j)
    × ((ν₂ : Placement) × (On no_names d₂ σ 0 j ν₂)
    × ((l : ℕ) → l ≤ j → (ν₁ : Placement) → On d₂.names d₁ σ 0 l ν₁ → Agree d₂.names d₁.names ν₂ ν₁ → ⊥))
Breaks anti d₁ d₂ d₃ σ i j k = (i ≤ j) × (k ≡ j) × ((ν₁ : Placement) × On no_names d₁ σ i j ν₁)
Breaks implies d₁ d₂ d₃ σ i j k =
    (i ≤ j) × (k ≡ j)
    × ((ν₁ : Placement) × (On no_names d₁ σ i j ν₁)
    × ((ν₂ : Placement) → On d₁.names d₂ σ i j ν₂ → Agree d₁.names d₂.names ν₁ ν₂ → ⊥))
Breaks follows d₁ d₂ d₃ σ i j k = (i ≤ j) × (j ≤ k) × Unanswered d₁ d₂ d₃ σ i j j k
Breaks triggers d₁ d₂ d₃ σ i j k = (i ≤ j) × (i ≤ k) × Unanswered d₁ d₂ d₃ σ i j i k

-- In implies both parts have one interval, so every name of D2 lies in it, whichever part lists it first: request 4 changes nothing there.
pub implies_inside : (d₁ d₂ : Part) (σ : Trace) (i j : ℕ) (ν₁ ν₂ : Placement) → On no_names d₁ σ i j ν₁ → On d₁.names d₂ σ i j ν₂
    → Agree d₁.names d₂.names ν₁ ν₂ → (u : ℕ) → listed d₂.names u ≡ true → (i ≤ ν₂ u) × (ν₂ u ≤ j)
unfolding no_names
implies_inside d₁ d₂ σ i j ν₁ ν₂ first second agree u l =
    elim (test (d₁.names u)) [
      | inl e ↦ let h = listed_too d₂.names d₁.names u l e in rw (sym (agree u h l)) (first.over u h refl)
      | inr e ↦ second.over u l e
    ]

-- ν' on the names of the set, ν on the others
unfoldable put_over : Names → Placement → Placement → Placement
put_over names ν' ν u = cond (listed names u) (ν' u) (ν u)

over_on : (names : Names) (ν' ν : Placement) (u : ℕ) → listed names u ≡ true → put_over names ν' ν u ≡ ν' u
unfolding put_over
over_on names ν' ν u h = rw h

over_off : (names : Names) (ν' ν : Placement) (u : ℕ) → listed names u ≡ false → put_over names ν' ν u ≡ ν u
unfolding put_over
over_off names ν' ν u h = rw h

-- a placement of the set, put over one that it agrees with on the names placed before
over_agrees : (before names : Names) (x y : ℕ) (ν ν' : Placement)
    → ((u : ℕ) → listed names u ≡ true → before u ≡ false → (x ≤ ν' u) × (ν' u ≤ y))
    → ((u : ℕ) → listed names u ≡ true → before u ≡ true → ν' u ≡ ν u) → Agreeing (without names before) x y ν (put_over names ν' ν)
over_agrees before names x y ν ν' over equal =
    record {
      inside = λ u h. let r = listed_less names before u h in rw (over_on names ν' ν u r.0) (over u r.0 r.1);
      kept = kept;
    }
  where
    kept : (u : ℕ) → listed (without names before) u ≡ false → put_over names ν' ν u ≡ ν u
    kept u h =
        elim (test (listed names u)) [
          | inl l ↦ over_on names ν' ν u l ∙ equal u l (less_unlisted names before u l h)
          | inr l ↦ over_off names ν' ν u l
        ]

-- a part's own placement, chosen freely
module _ (d : Part) (σ : Trace) (fit : fits d ≡ true) (x y : ℕ) (o : x ≤ y) (i : y < length σ) (before : Names) (ν : Placement) where
  pub given_to : (ν' : Placement) → On before d σ x y ν' → ((u : ℕ) → listed d.names u ≡ true → before u ≡ true → ν' u ≡ ν u)
      → given (without d.names before) ν d σ x y ≡ true
  unfolding given
  given_to ν' w equal =
      placement_intro (without d.names before) x y ν (λ ν'. on d σ ν' x y) (put_over d.names ν' ν)
      (over_agrees before d.names x y ν ν' w.over equal)
      (on_local d σ (put_over d.names ν' ν) ν' x y fit o i (over_on d.names ν' ν) ∙ w.ok)

  pub given_from : given (without d.names before) ν d σ x y ≡ true
      → (ν' : Placement) × (On before d σ x y ν') × ((u : ℕ) → listed d.names u ≡ true → before u ≡ true → ν' u ≡ ν u)
  unfolding given
  given_from h =
      let w = placement_elim (without d.names before) x y ν (λ ν'. on d σ ν' x y) h in (
        w.to,
        record { over = λ u l b. w.agreeing.inside u (less_listed d.names before u l b); ok = w.ok },
        λ u l b. w.agreeing.kept u (unlisted_less d.names before u b),
      )

shortest_local : (d : Part) (σ : Trace) (ν ν' : Placement) (x y : ℕ) → fits d ≡ true → x ≤ y → y < length σ
    → ((u : ℕ) → listed d.names u ≡ true → ν u ≡ ν' u) → shortest d σ ν x y ≡ shortest d σ ν' x y
unfolding shortest
shortest_local d σ ν ν' x y fit o i f =
    ap₂ (λ (a b : Bool). a && not b) (on_local d σ ν ν' x y fit o i f)
    (some_cong x y (λ z. on d σ ν x z) (λ z. on d σ ν' x z) (λ z l h. on_local d σ ν ν' x z fit l (omega arith) f))

shortest_to : (before : Names) (d : Part) (σ : Trace) (ν : Placement) (x y : ℕ) → Shortest before d σ x y ν → shortest d σ ν x y ≡ true
unfolding shortest
shortest_to before d σ ν x y w =
    and_intro (on d σ ν x y) (not (some_from x y (λ z. on d σ ν x z))) w.here.ok
    (not_intro (some_from x y (λ z. on d σ ν x z)) (λ h. let v = some_elim x y (λ z. on d σ ν x z) h in w.shorter v.at v.low v.high v.ok))

shortest_from : (before : Names) (d : Part) (σ : Trace) (ν : Placement) (x y : ℕ)
    → ((u : ℕ) → listed d.names u ≡ true → before u ≡ false → (x ≤ ν u) × (ν u ≤ y)) → shortest d σ ν x y ≡ true → Shortest before d σ x y ν
unfolding shortest
shortest_from before d σ ν x y over h =
    record {
      here = record { over = over; ok = and_left (on d σ ν x y) (not (some_from x y (λ z. on d σ ν x z))) h };
      shorter = λ z l u q.
          not_elim (some_from x y (λ z. on d σ ν x z)) (and_right (on d σ ν x y) (not (some_from x y (λ z. on d σ ν x z))) h)
          (some_intro x y (λ z. on d σ ν x z) z l u q);
    }

-- the first part of a clause is placed with no name placed before
first_to : (d : Part) (σ : Trace) (fit : fits d ≡ true) (x y : ℕ) (o : x ≤ y) (i : y < length σ) (p : Placement → Bool) (ν : Placement)
    → On no_names d σ x y ν → p (put_over d.names ν unplaced) ≡ true
    → some_placement d.names x y unplaced (λ ν. on d σ ν x y && p ν) ≡ true
first_to d σ fit x y o i p ν w q =
    placement_intro d.names x y unplaced (λ ν. on d σ ν x y && p ν) (put_over d.names ν unplaced)
    (rw (without_none d.names) at (over_agrees no_names d.names x y unplaced ν w.over (λ u l b. not_none u b)))
    (and_intro (on d σ (put_over d.names ν unplaced) x y) (p (put_over d.names ν unplaced))
    (on_local d σ (put_over d.names ν unplaced) ν x y fit o i (over_on d.names ν unplaced) ∙ w.ok) q)

first_from : (d : Part) (σ : Trace) (x y : ℕ) (p : Placement → Bool) → some_placement d.names x y unplaced (λ ν. on d σ ν x y && p ν) ≡ true
    → (ν : Placement) × (On no_names d σ x y ν) × (p ν ≡ true)
first_from d σ x y p h =
    let w = placement_elim d.names x y unplaced (λ ν. on d σ ν x y && p ν) h in (
      w.to,
      record { over = λ u l b. w.agreeing.inside u l; ok = and_left (on d σ w.to x y) (p w.to) w.ok },
      and_right (on d σ w.to x y) (p w.to) w.ok,
    )

module _ (d₁ d₂ d₃ : Part) (σ : Trace) (fit₁ : fits d₁ ≡ true) (fit₂ : fits d₂ ≡ true) (fit₃ : fits d₃ ≡ true) (i j s k : ℕ) (ij : i ≤ j)
    (jn : j < length σ) (sk : s ≤ k) (kn : k < length σ) where
  abbrev Θ₁ : Names
  Θ₁ = d₁.names

  abbrev Θ₂ : Names
  Θ₂ = d₂.names

  abbrev Θ₃ : Names
  Θ₃ = d₃.names

  unmet : Placement → Bool
  unmet ν = shortest d₃ σ ν s k && not (some_in s k (λ l. given (without Θ₂ (union Θ₁ Θ₃)) ν d₂ σ s l))

  unanswered_to : Unanswered d₁ d₂ d₃ σ i j s k → unanswered d₁ d₂ d₃ σ i j s k ≡ true
  unfolding unanswered unmet
  unanswered_to w =
      first_to d₁ σ fit₁ i j ij jn (λ ν. some_placement (without Θ₃ Θ₁) s k ν unmet) w.ν₁ w.first
      (placement_intro (without Θ₃ Θ₁) s k base unmet ν (over_agrees Θ₁ Θ₃ s k base w.ν₃ w.third.here.over shared)
      (and_intro (shortest d₃ σ ν s k) (not (some_in s k (λ l. given (without Θ₂ (union Θ₁ Θ₃)) ν d₂ σ s l)))
      (shortest_local d₃ σ ν w.ν₃ s k fit₃ sk kn on₃ ∙ shortest_to Θ₁ d₃ σ w.ν₃ s k w.third)
      (not_intro (some_in s k (λ l. given (without Θ₂ (union Θ₁ Θ₃)) ν d₂ σ s l)) answered)))
    where
      base : Placement
      base = put_over Θ₁ w.ν₁ unplaced

      ν : Placement
      ν = put_over Θ₃ w.ν₃ base

      shared : (u : ℕ) → listed Θ₃ u ≡ true → Θ₁ u ≡ true → w.ν₃ u ≡ base u
      shared u l b =
          let h = listed_too Θ₃ Θ₁ u l b in
          sym (w.agree u h l) ∙ sym (over_on Θ₁ w.ν₁ unplaced u h)

      on₃ : (u : ℕ) → listed Θ₃ u ≡ true → ν u ≡ w.ν₃ u
      on₃ u h = over_on Θ₃ w.ν₃ base u h

      on₁ : (u : ℕ) → listed Θ₁ u ≡ true → ν u ≡ w.ν₁ u
      on₁ u h =
          elim (test (listed Θ₃ u)) [
            | inl l ↦ over_on Θ₃ w.ν₃ base u l ∙ sym (w.agree u h l)
            | inr l ↦ over_off Θ₃ w.ν₃ base u l ∙ over_on Θ₁ w.ν₁ unplaced u h
          ]

      answered : some_in s k (λ l. given (without Θ₂ (union Θ₁ Θ₃)) ν d₂ σ s l) ≡ true → ⊥
      answered h =
          let v = some_elim s (suc k) (λ l. given (without Θ₂ (union Θ₁ Θ₃)) ν d₂ σ s l) h in
          let g = given_from d₂ σ fit₂ s v.at v.low (omega (arith, v.high)) (union Θ₁ Θ₃) ν v.ok in
          w.nobody v.at v.low (omega (arith, v.high)) g.0 g.1
          (λ u a b. sym (on₁ u a) ∙ sym (g.2 u b (union_left Θ₁ Θ₃ u (listed_is Θ₁ u a))))
          (λ u a b. sym (on₃ u a) ∙ sym (g.2 u b (union_right Θ₁ Θ₃ u (listed_is Θ₃ u a))))

  unanswered_from : unanswered d₁ d₂ d₃ σ i j s k ≡ true → Unanswered d₁ d₂ d₃ σ i j s k
  unfolding unanswered unmet
  unanswered_from h =
      let first = first_from d₁ σ i j (λ ν. some_placement (without Θ₃ Θ₁) s k ν unmet) h in
      let w = placement_elim (without Θ₃ Θ₁) s k first.0 unmet first.2 in
      go first.0 w.to first.1 w.agreeing w.ok
    where
      go : (ν₁ ν₃ : Placement) → On no_names d₁ σ i j ν₁ → Agreeing (without Θ₃ Θ₁) s k ν₁ ν₃ → unmet ν₃ ≡ true → Unanswered d₁ d₂ d₃ σ i j s k
      go ν₁ ν₃ first a ok =
          record {
            ν₁ = ν₁;
            ν₃ = ν₃;
            first = first;
            third =
                shortest_from Θ₁ d₃ σ ν₃ s k (λ u l b. a.inside u (less_listed Θ₃ Θ₁ u l b))
                (and_left (shortest d₃ σ ν₃ s k) (not (some_in s k (λ l. given (without Θ₂ (union Θ₁ Θ₃)) ν₃ d₂ σ s l))) ok);
            agree = λ u p q. sym (shared u (listed_is Θ₁ u p));
            nobody = λ l sl lk ν₂ o₂ a₁ a₃.
                not_elim (some_in s k (λ l. given (without Θ₂ (union Θ₁ Θ₃)) ν₃ d₂ σ s l))
                (and_right (shortest d₃ σ ν₃ s k) (not (some_in s k (λ l. given (without Θ₂ (union Θ₁ Θ₃)) ν₃ d₂ σ s l))) ok)
                (some_intro s (suc k) (λ l. given (without Θ₂ (union Θ₁ Θ₃)) ν₃ d₂ σ s l) l sl (omega arith)
                (given_to d₂ σ fit₂ s l sl (omega arith) (union Θ₁ Θ₃) ν₃ ν₂ o₂
                (λ u p b. elim (union_elim Θ₁ Θ₃ u b)
                [ inl q ↦ sym (a₁ u (listed_too Θ₂ Θ₁ u p q) p) ∙ sym (shared u q) | inr q ↦ sym (a₃ u (listed_too Θ₂ Θ₃ u p q) p) ])));
          }
        where
          shared : (u : ℕ) → Θ₁ u ≡ true → ν₃ u ≡ ν₁ u
          shared u q = a.kept u (unlisted_less Θ₃ Θ₁ u q)

-- three tests in a row
all_to : (a b c : Bool) → a ≡ true → b ≡ true → c ≡ true → a && b && c ≡ true
all_to a b c p q r = and_intro (a && b) c (and_intro a b p q) r

all_from : (a b c : Bool) → a && b && c ≡ true → (a ≡ true) × (b ≡ true) × (c ≡ true)
all_from a b c h = (and_left a b (and_left (a && b) c h), and_right a b (and_left (a && b) c h), and_right (a && b) c h)

-- a second part, given the first's placement: what it agrees on is where the names of both stand
second_agrees : (Θ Θ' : Names) (ν ν' : Placement) → ((u : ℕ) → listed Θ' u ≡ true → Θ u ≡ true → ν' u ≡ put_over Θ ν unplaced u) → Agree Θ Θ' ν ν'
second_agrees Θ Θ' ν ν' f u a b = sym (over_on Θ ν unplaced u a) ∙ sym (f u b (listed_is Θ u a))

agrees_second : (Θ Θ' : Names) (ν ν' : Placement) → Agree Θ Θ' ν ν' → (u : ℕ) → listed Θ' u ≡ true → Θ u ≡ true → ν' u ≡ ν u
agrees_second Θ Θ' ν ν' f u l b = sym (f u (listed_too Θ' Θ u l b) l)

-- a part alone
alone_to : (d : Part) (σ : Trace) → fits d ≡ true → (x y : ℕ) → x ≤ y → y < length σ → (ν : Placement) → On no_names d σ x y ν
    → given d.names unplaced d σ x y ≡ true
alone_to d σ w x y o i ν h = rw (without_none d.names) at (given_to d σ w x y o i no_names unplaced ν h (λ u l b. not_none u b))

alone_from : (d : Part) (σ : Trace) → fits d ≡ true → (x y : ℕ) → x ≤ y → y < length σ → given d.names unplaced d σ x y ≡ true
    → (ν : Placement) × On no_names d σ x y ν
alone_from d σ w x y o i h =
    let v = given_from d σ w x y o i no_names unplaced (rw (without_none d.names) h) in
    (v.0, v.1)

breaks_to : (κ : ClauseType) (d₁ d₂ d₃ : Part) (σ : Trace) → parts_fit κ d₁ d₂ d₃ ≡ true → (i j k : ℕ) → j < length σ → k < length σ
    → Breaks κ d₁ d₂ d₃ σ i j k → breaks_at κ d₁ d₂ d₃ σ i j k ≡ true
unfolding parts_fit breaks_at
breaks_to pref d₁ d₂ d₃ σ w i j k jn kn (p, q, r) =
    all_to (eqb i 0) (eqb k j) (not (given d₁.names unplaced d₁ σ 0 j)) (eq-eqb i 0 p) (eq-eqb k j q)
    (not_intro (given d₁.names unplaced d₁ σ 0 j)
    (λ g. let v = alone_from d₁ σ w 0 j (omega arith) jn g in r v.0 v.1))
breaks_to init d₁ d₂ d₃ σ w i j k jn kn (p, q, r) =
    all_to (eqb i 0) (eqb k j)
    (some_placement d₂.names 0 j unplaced (λ ν. on d₂ σ ν 0 j && not (some_in 0 j (λ l. given (without d₁.names d₂.names) ν d₁ σ 0 l))))
    (eq-eqb i 0 p) (eq-eqb k j q)
    (first_to d₂ σ (and_right (fits d₁) (fits d₂) w) 0 j (omega arith) jn (λ ν. not (some_in 0 j (λ l. given (without d₁.names d₂.names) ν d₁ σ 0 l))) r.0 r.1
    (not_intro (some_in 0 j (λ l. given (without d₁.names d₂.names) (put_over d₂.names r.0 unplaced) d₁ σ 0 l))
    (λ h. let v = some_elim 0 (suc j) (λ l. given (without d₁.names d₂.names) (put_over d₂.names r.0 unplaced) d₁ σ 0 l) h in
    let g = given_from d₁ σ (and_left (fits d₁) (fits d₂) w) 0 v.at (omega arith) (omega (arith, v.high)) d₂.names
    (put_over d₂.names r.0 unplaced) v.ok in
    r.2 v.at (omega (arith, v.high)) g.0 g.1 (second_agrees d₂.names d₁.names r.0 g.0 g.2))))
breaks_to anti d₁ d₂ d₃ σ w i j k jn kn (p, q, r) =
    all_to (leb i j) (eqb k j) (given d₁.names unplaced d₁ σ i j) (le-leb i j p) (eq-eqb k j q)
    (alone_to d₁ σ w i j p jn r.0 r.1)
breaks_to implies d₁ d₂ d₃ σ w i j k jn kn (p, q, r) =
    all_to (leb i j) (eqb k j) (some_placement d₁.names i j unplaced (λ ν. on d₁ σ ν i j && not (given (without d₂.names d₁.names) ν d₂ σ i j)))
    (le-leb i j p) (eq-eqb k j q)
    (first_to d₁ σ (and_left (fits d₁) (fits d₂) w) i j p jn (λ ν. not (given (without d₂.names d₁.names) ν d₂ σ i j)) r.0 r.1
    (not_intro (given (without d₂.names d₁.names) (put_over d₁.names r.0 unplaced) d₂ σ i j)
    (λ h. let g = given_from d₂ σ (and_right (fits d₁) (fits d₂) w) i j p jn d₁.names (put_over d₁.names r.0 unplaced) h in
    r.2 g.0 g.1 (second_agrees d₁.names d₂.names r.0 g.0 g.2))))
breaks_to follows d₁ d₂ d₃ σ w i j k jn kn (p, q, r) =
    let w' = and_right (fits d₁) (fits d₂ && fits d₃) w in
    all_to (leb i j) (leb j k) (unanswered d₁ d₂ d₃ σ i j j k) (le-leb i j p) (le-leb j k q)
    (unanswered_to d₁ d₂ d₃ σ (and_left (fits d₁) (fits d₂ && fits d₃) w) (and_left (fits d₂) (fits d₃) w') (and_right (fits d₂) (fits d₃) w')
    i j j k p jn q kn r)
breaks_to triggers d₁ d₂ d₃ σ w i j k jn kn (p, q, r) =
    let w' = and_right (fits d₁) (fits d₂ && fits d₃) w in
    all_to (leb i j) (leb i k) (unanswered d₁ d₂ d₃ σ i j i k) (le-leb i j p) (le-leb i k q)
    (unanswered_to d₁ d₂ d₃ σ (and_left (fits d₁) (fits d₂ && fits d₃) w) (and_left (fits d₂) (fits d₃) w') (and_right (fits d₂) (fits d₃) w')
    i j i k p jn q kn r)

breaks_from : (κ : ClauseType) (d₁ d₂ d₃ : Part) (σ : Trace) → parts_fit κ d₁ d₂ d₃ ≡ true → (i j k : ℕ) → j < length σ → k < length σ
    → breaks_at κ d₁ d₂ d₃ σ i j k ≡ true → Breaks κ d₁ d₂ d₃ σ i j k
unfolding parts_fit breaks_at
breaks_from pref d₁ d₂ d₃ σ w i j k jn kn h =
    let a = all_from (eqb i 0) (eqb k j) (not (given d₁.names unplaced d₁ σ 0 j)) h in (
      eqb-true i 0 a.0,
      eqb-true k j a.1,
      λ ν₁ o. not_elim (given d₁.names unplaced d₁ σ 0 j) a.2
          (alone_to d₁ σ w 0 j (omega arith) jn ν₁ o),
    )
breaks_from init d₁ d₂ d₃ σ w i j k jn kn h =
    let a = all_from (eqb i 0) (eqb k j)
    (some_placement d₂.names 0 j unplaced (λ ν. on d₂ σ ν 0 j && not (some_in 0 j (λ l. given (without d₁.names d₂.names) ν d₁ σ 0 l)))) h in
    let v = first_from d₂ σ 0 j (λ ν. not (some_in 0 j (λ l. given (without d₁.names d₂.names) ν d₁ σ 0 l))) a.2 in (
      eqb-true i 0 a.0,
      eqb-true k j a.1,
      (
        v.0,
        v.1,
        λ l lj ν₁ o f. not_elim (some_in 0 j (λ l. given (without d₁.names d₂.names) v.0 d₁ σ 0 l)) v.2
            (some_intro 0 (suc j) (λ l. given (without d₁.names d₂.names) v.0 d₁ σ 0 l) l (omega arith) (omega arith)
            (given_to d₁ σ (and_left (fits d₁) (fits d₂) w) 0 l (omega arith) (omega arith) d₂.names v.0 ν₁ o
            (agrees_second d₂.names d₁.names v.0 ν₁ f))),
      ),
    )
breaks_from anti d₁ d₂ d₃ σ w i j k jn kn h =
    let a = all_from (leb i j) (eqb k j) (given d₁.names unplaced d₁ σ i j) h in
    let l = leb-true i j a.0 in
    let g = alone_from d₁ σ w i j l jn a.2 in
    (l, eqb-true k j a.1, (g.0, g.1))
breaks_from implies d₁ d₂ d₃ σ w i j k jn kn h =
    let a = all_from (leb i j) (eqb k j) (some_placement d₁.names i j unplaced (λ ν. on d₁ σ ν i j && not (given (without d₂.names d₁.names) ν d₂ σ i j))) h in
    let l = leb-true i j a.0 in
    let v = first_from d₁ σ i j (λ ν. not (given (without d₂.names d₁.names) ν d₂ σ i j)) a.2 in (
      l,
      eqb-true k j a.1,
      (
        v.0,
        v.1,
        λ ν₂ o f. not_elim (given (without d₂.names d₁.names) v.0 d₂ σ i j) v.2
            (given_to d₂ σ (and_right (fits d₁) (fits d₂) w) i j l jn d₁.names v.0 ν₂ o (agrees_second d₁.names d₂.names v.0 ν₂ f)),
      ),
    )
breaks_from follows d₁ d₂ d₃ σ w i j k jn kn h =
    let a = all_from (leb i j) (leb j k) (unanswered d₁ d₂ d₃ σ i j j k) h in
    let w' = and_right (fits d₁) (fits d₂ && fits d₃) w in
    let l = leb-true i j a.0 in
    let m = leb-true j k a.1 in (
      l,
      m,
      unanswered_from d₁ d₂ d₃ σ (and_left (fits d₁) (fits d₂ && fits d₃) w) (and_left (fits d₂) (fits d₃) w') (and_right (fits d₂) (fits d₃) w')
          i j j k l jn m kn a.2,
    )
breaks_from triggers d₁ d₂ d₃ σ w i j k jn kn h =
    let a = all_from (leb i j) (leb i k) (unanswered d₁ d₂ d₃ σ i j i k) h in
    let w' = and_right (fits d₁) (fits d₂ && fits d₃) w in
    let l = leb-true i j a.0 in
    let m = leb-true i k a.1 in (
      l,
      m,
      unanswered_from d₁ d₂ d₃ σ (and_left (fits d₁) (fits d₂ && fits d₃) w) (and_left (fits d₂) (fits d₃) w') (and_right (fits d₂) (fits d₃) w')
          i j i k l jn m kn a.2,
    )

pub breaks_reading : (κ : ClauseType) (d₁ d₂ d₃ : Part) (σ : Trace) → parts_fit κ d₁ d₂ d₃ ≡ true → (i j k : ℕ) → j < length σ → k < length σ
    → (breaks_at κ d₁ d₂ d₃ σ i j k ≡ true) ↔ Breaks κ d₁ d₂ d₃ σ i j k
breaks_reading κ d₁ d₂ d₃ σ w i j k jn kn =
    (breaks_from κ d₁ d₂ d₃ σ w i j k jn kn, breaks_to κ d₁ d₂ d₃ σ w i j k jn kn)
