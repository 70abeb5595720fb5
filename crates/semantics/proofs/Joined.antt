-- Two parts that share names: one placement of all their names over some wider interval [low,m], each name inside the interval of the first
-- part that lists it, is the same as a placement of the first part's names and then one of the names that the other has besides.
use Rattle.std.proofs.Common.{ℕ, ◌≤◌, ◌<◌, arith, Bool, true, false, cond, ◌&&◌, inl, inr, ◌≡◌, refl, sym, ap, ◌∙◌, length}
use Rattle.semantics.specs.Proposition.{Trace}
use Rattle.semantics.specs.Placement.{Names, union, without, listed, Placement, unplaced, marks, some_placement}
use Rattle.semantics.specs.Inside.{inside}
use Rattle.semantics.specs.Clause.{Part, on}
use Rattle.semantics.specs.Reach.{fits}
use Rattle.semantics.proofs.Tests.{same, test, and_intro, and_left, and_right}
use Rattle.semantics.proofs.Names.{listed_is, listed_neither, unlisted, unlisted_less, listed_rest}
use Rattle.semantics.proofs.Locality.{local}
use Rattle.semantics.proofs.Placement.{Agreeing, placement_intro, placement_elim, inside_to, inside_from}

-- a part's truth depends only on where its own names stand
pub on_local : (d : Part) (σ : Trace) (ν ν' : Placement) (x y : ℕ) → fits d ≡ true → x ≤ y → y < length σ
    → ((u : ℕ) → listed d.names u ≡ true → ν u ≡ ν' u) → on d σ ν x y ≡ on d σ ν' x y
unfolding fits on marks
on_local d σ ν ν' x y w o i f =
    local d.formula w o
    (record { inside = i; inside' = i; signals = λ k t a b. refl; marks = λ u h t a b. ap (λ (c : ℕ). lib.Dec.eqb c t) (f u h) })

-- ν on the names of the set, and none elsewhere
unfoldable restricted : Names → Placement → Placement
restricted names ν u = cond (listed names u) (ν u) 0

restricted_on : (names : Names) (ν : Placement) (u : ℕ) → listed names u ≡ true → restricted names ν u ≡ ν u
unfolding restricted
restricted_on names ν u h = rw h

restricted_off : (names : Names) (ν : Placement) (u : ℕ) → listed names u ≡ false → restricted names ν u ≡ 0
unfolding restricted
restricted_off names ν u h = rw h

-- each name inside the interval of the first part that lists it, under one placement
abbrev pub together : Part → Names → Trace → ℕ → ℕ → ℕ → ℕ → (Placement → Bool) → Placement → Bool
together d₁ Θ₃ σ i j s k q ν =
    inside d₁.names i j ν && on d₁ σ ν i j && (inside (without Θ₃ d₁.names) s k ν && q ν)

-- the first part, and then the names that the other has besides
abbrev pub in_turn : Part → Names → Trace → ℕ → ℕ → ℕ → ℕ → (Placement → Bool) → Placement → Bool
in_turn d₁ Θ₃ σ i j s k q ν = on d₁ σ ν i j && some_placement (without Θ₃ d₁.names) s k ν q

module _ (d₁ : Part) (Θ₃ : Names) (σ : Trace) (fit : fits d₁ ≡ true) (low i j s k m : ℕ) (li : low ≤ i) (ij : i ≤ j) (jm : j ≤ m)
    (ls : low ≤ s) (km : k ≤ m) (inσ : m < length σ) (q : Placement → Bool) where
  abbrev Θ₁ : Names
  Θ₁ = d₁.names

  abbrev rest : Names
  rest = without Θ₃ Θ₁

  splits : (ν : Placement) → Agreeing (union Θ₁ Θ₃) low m unplaced ν → together d₁ Θ₃ σ i j s k q ν ≡ true
      → some_placement Θ₁ i j unplaced (in_turn d₁ Θ₃ σ i j s k q) ≡ true
  unfolding unplaced
  splits ν a h =
      let first = and_left (inside Θ₁ i j ν && on d₁ σ ν i j) (inside rest s k ν && q ν) h in
      let third = and_right (inside Θ₁ i j ν && on d₁ σ ν i j) (inside rest s k ν && q ν) h in
      placement_intro Θ₁ i j unplaced (in_turn d₁ Θ₃ σ i j s k q) (restricted Θ₁ ν)
      (record {
        inside = λ u l. rw (restricted_on Θ₁ ν u l) (inside_from Θ₁ i j ν (and_left (inside Θ₁ i j ν) (on d₁ σ ν i j) first) u l);
        kept = restricted_off Θ₁ ν;
      })
      (and_intro (on d₁ σ (restricted Θ₁ ν) i j) (some_placement rest s k (restricted Θ₁ ν) q)
      (on_local d₁ σ (restricted Θ₁ ν) ν i j fit ij (omega arith) (restricted_on Θ₁ ν) ∙ and_right (inside Θ₁ i j ν) (on d₁ σ ν i j) first)
      (placement_intro rest s k (restricted Θ₁ ν) q ν
      (record { inside = inside_from rest s k ν (and_left (inside rest s k ν) (q ν) third); kept = kept })
      (and_right (inside rest s k ν) (q ν) third)))
    where
      kept : (u : ℕ) → listed rest u ≡ false → ν u ≡ restricted Θ₁ ν u
      kept u h =
          elim (test (listed Θ₁ u)) [
            | inl e ↦ sym (restricted_on Θ₁ ν u e)
            | inr e ↦ a.kept u (listed_neither Θ₁ Θ₃ u e h) ∙ sym (restricted_off Θ₁ ν u e)
          ]

  joins : (ν₁ ν : Placement) → Agreeing Θ₁ i j unplaced ν₁ → on d₁ σ ν₁ i j ≡ true → Agreeing rest s k ν₁ ν → q ν ≡ true
      → some_placement (union Θ₁ Θ₃) low m unplaced (together d₁ Θ₃ σ i j s k q) ≡ true
  joins ν₁ ν a₁ o₁ a₃ o₃ =
      placement_intro (union Θ₁ Θ₃) low m unplaced (together d₁ Θ₃ σ i j s k q) ν (record { inside = within; kept = kept })
      (and_intro (inside Θ₁ i j ν && on d₁ σ ν i j) (inside rest s k ν && q ν)
      (and_intro (inside Θ₁ i j ν) (on d₁ σ ν i j)
      (inside_to Θ₁ i j ν (λ u h. rw (shared u h) (a₁.inside u h)))
      (on_local d₁ σ ν ν₁ i j fit ij (omega arith) shared ∙ o₁))
      (and_intro (inside rest s k ν) (q ν) (inside_to rest s k ν a₃.inside) o₃))
    where
      shared : (u : ℕ) → listed Θ₁ u ≡ true → ν u ≡ ν₁ u
      shared u h = a₃.kept u (unlisted_less Θ₃ Θ₁ u (listed_is Θ₁ u h))

      within : (u : ℕ) → listed (union Θ₁ Θ₃) u ≡ true → (low ≤ ν u) × (ν u ≤ m)
      within u h =
          elim (test (listed Θ₁ u)) [
            | inl e ↦ rw (shared u e) (let r = a₁.inside u e in omega arith)
            | inr e ↦ let r = a₃.inside u (listed_rest Θ₁ Θ₃ u h e) in omega arith
          ]

      kept : (u : ℕ) → listed (union Θ₁ Θ₃) u ≡ false → ν u ≡ unplaced u
      kept u h = let off = unlisted Θ₁ Θ₃ u h in a₃.kept u off.1 ∙ a₁.kept u off.0

  pub join : some_placement d₁.names i j unplaced (in_turn d₁ Θ₃ σ i j s k q)
      ≡ some_placement (union d₁.names Θ₃) low m unplaced (together d₁ Θ₃ σ i j s k q)
  join =
      same (some_placement Θ₁ i j unplaced (in_turn d₁ Θ₃ σ i j s k q))
      (some_placement (union Θ₁ Θ₃) low m unplaced (together d₁ Θ₃ σ i j s k q))
      (λ h. let w₁ = placement_elim Θ₁ i j unplaced (in_turn d₁ Θ₃ σ i j s k q) h in
      let w₃ = placement_elim rest s k w₁.to q (and_right (on d₁ σ w₁.to i j) (some_placement rest s k w₁.to q) w₁.ok) in
      joins w₁.to w₃.to w₁.agreeing (and_left (on d₁ σ w₁.to i j) (some_placement rest s k w₁.to q) w₁.ok) w₃.agreeing w₃.ok)
      (λ h. let w = placement_elim (union Θ₁ Θ₃) low m unplaced (together d₁ Θ₃ σ i j s k q) h in splits w.to w.agreeing w.ok)
