-- Placements: `somePlacement` is document 01's "some placement over [x,y]", of the names that no part before lists.
use Rattle.std.proofs.Common.{ℕ, zero, suc, ◌≤◌, ◌<◌, arith, Bool, true, false, not, cond, ◌&&◌, ◌||◌, true≢false, ◌≡◌, refl, sym, ap, ◌∙◌, leb, ltb, eqb, leb-true, le-leb, eqb-true, ne_eqb, le-ltb}
use mathlib.Core.Bool.{false≢true}
use mathlib.Core.Path.{fun_ext}
use Rattle.semantics.specs.Cycles.{some_in}
use Rattle.semantics.specs.Placement.{Names, listed, Placement, moved, place_name, some_placement}
use Rattle.semantics.specs.Inside.{inside_name, inside}
use Rattle.semantics.proofs.Tests.{same, and_intro, and_left, and_right}
use Rattle.semantics.proofs.Cycles.{some_intro, some_elim}

-- ν' places `names` over [x,y], each on one cycle inside it; the other names stand where ν puts them
pub record Agreeing (names : Names) (x y : ℕ) (ν ν' : Placement) : Type 0 where
  pub inside : (u : ℕ) → listed names u ≡ true → (x ≤ ν' u) × (ν' u ≤ y)
  pub kept : (u : ℕ) → listed names u ≡ false → ν' u ≡ ν u

pub moved_same : (u t : ℕ) (ν : Placement) → t ≡ ν u → moved u t ν ≡ ν
unfolding moved
moved_same u t ν e = fun_ext (λ v. go v (eqb v u) refl)
  where
    go : (v : ℕ) (a : Bool) → eqb v u ≡ a → cond a t (ν v) ≡ ν v
    go v true q = e ∙ ap ν (sym (eqb-true v u q))
    go v false q = refl

-- ---- one name
name_intro : (u : ℕ) (names : Names) (x y : ℕ) (ν : Placement) (p : Placement → Bool) (t : ℕ) → (names u ≡ true → (x ≤ t) × (t ≤ y))
    → (names u ≡ false → t ≡ ν u) → p (moved u t ν) ≡ true → place_name u names x y ν p ≡ true
unfolding place_name
name_intro u names x y ν p t h k q = go (names u) h k
  where
    go : (a : Bool) → (a ≡ true → (x ≤ t) × (t ≤ y)) → (a ≡ false → t ≡ ν u) → cond a (some_in x y (λ t. p (moved u t ν))) (p ν) ≡ true
    go true h k = let l = h refl in some_intro x (suc y) (λ t. p (moved u t ν)) t (omega arith) (omega arith) q
    go false h k = rw (moved_same u t ν (k refl)) at q

record Put (u : ℕ) (names : Names) (x y : ℕ) (ν : Placement) (p : Placement → Bool) : Type 0 where
  pub on : ℕ
  pub inside : names u ≡ true → (x ≤ on) × (on ≤ y)
  pub kept : names u ≡ false → on ≡ ν u
  pub ok : p (moved u on ν) ≡ true

name_elim : (u : ℕ) (names : Names) (x y : ℕ) (ν : Placement) (p : Placement → Bool) → place_name u names x y ν p ≡ true → Put u names x y ν p
unfolding place_name
name_elim u names x y ν p h = go (names u) refl h
  where
    go : (a : Bool) → names u ≡ a → cond a (some_in x y (λ t. p (moved u t ν))) (p ν) ≡ true → Put u names x y ν p
    go true e h =
        let w = some_elim x (suc y) (λ t. p (moved u t ν)) h in
        record { on = w.at; inside = λ q. (w.low, (omega (arith, w.high))); kept = λ q. absurd (true≢false (sym e ∙ q)); ok = w.ok }
    go false e h =
        record { on = ν u; inside = λ q. absurd (true≢false (sym q ∙ e)); kept = λ q. refl; ok = rw (moved_same u (ν u) ν refl) h }

-- ---- the three names
pub far : (v : ℕ) → ltb (suc (suc (suc v))) 3 ≡ false
far v = le-ltb (suc (suc (suc v))) 3 (omega arith)

pub not_near : (u v : ℕ) → u < 3 → eqb (suc (suc (suc v))) u ≡ false
not_near u v h = ne_eqb (suc (suc (suc v))) u (λ e. omega arith)

pub placement_intro : (names : Names) (x y : ℕ) (ν : Placement) (p : Placement → Bool) (ν' : Placement)
    → Agreeing names x y ν ν' → p ν' ≡ true → some_placement names x y ν p ≡ true
unfolding listed moved some_placement
placement_intro names x y ν p ν' a q =
    name_intro 0 names x y ν (λ ν₀. place_name 1 names x y ν₀ (λ ν₁. place_name 2 names x y ν₁ p)) (ν' 0)
    (a.inside 0) (a.kept 0)
    (name_intro 1 names x y ν₀ (λ ν₁. place_name 2 names x y ν₁ p) (ν' 1) (a.inside 1) (a.kept 1)
    (name_intro 2 names x y ν₁ p (ν' 2) (a.inside 2) (a.kept 2) (rw (fun_ext all) q)))
  where
    ν₀ : Placement
    ν₀ = moved 0 (ν' 0) ν

    ν₁ : Placement
    ν₁ = moved 1 (ν' 1) ν₀

    all : (v : ℕ) → moved 2 (ν' 2) ν₁ v ≡ ν' v
    all zero = refl
    all (suc zero) = refl
    all (suc (suc zero)) = refl
    all (suc (suc (suc v))) =
        rw (not_near 2 v (omega arith), not_near 1 v (omega arith), not_near 0 v (omega arith))
        (sym (a.kept (suc (suc (suc v))) (rw (far v))))

pub record Placed (names : Names) (x y : ℕ) (ν : Placement) (p : Placement → Bool) : Type 0 where
  pub to : Placement
  pub agreeing : Agreeing names x y ν to
  pub ok : p to ≡ true

-- three names put one after the other are a placement of the set
three : (names : Names) (x y : ℕ) (ν : Placement) (t₀ t₁ t₂ : ℕ)
    → (names 0 ≡ true → (x ≤ t₀) × (t₀ ≤ y)) → (names 1 ≡ true → (x ≤ t₁) × (t₁ ≤ y)) → (names 2 ≡ true → (x ≤ t₂) × (t₂ ≤ y))
    → (names 0 ≡ false → t₀ ≡ ν 0) → (names 1 ≡ false → t₁ ≡ ν 1)
    → (names 2 ≡ false → t₂ ≡ ν 2) → Agreeing names x y ν (moved 2 t₂ (moved 1 t₁ (moved 0 t₀ ν)))
unfolding listed moved
three names x y ν t₀ t₁ t₂ i₀ i₁ i₂ k₀ k₁ k₂ = record { inside = inside; kept = kept }
  where
    ν' : Placement
    ν' = moved 2 t₂ (moved 1 t₁ (moved 0 t₀ ν))

    inside : (u : ℕ) → listed names u ≡ true → (x ≤ ν' u) × (ν' u ≤ y)
    inside zero = i₀
    inside (suc zero) = i₁
    inside (suc (suc zero)) = i₂
    inside (suc (suc (suc u))) = λ h. absurd (true≢false (sym (and_left (ltb (suc (suc (suc u))) 3) (names (suc (suc (suc u)))) h) ∙ far u))

    kept : (u : ℕ) → listed names u ≡ false → ν' u ≡ ν u
    kept zero = k₀
    kept (suc zero) = k₁
    kept (suc (suc zero)) = k₂
    kept (suc (suc (suc u))) = λ h. rw (not_near 2 u (omega arith), not_near 1 u (omega arith), not_near 0 u (omega arith))

pub placement_elim : (names : Names) (x y : ℕ) (ν : Placement) (p : Placement → Bool) → some_placement names x y ν p ≡ true
    → Placed names x y ν p
unfolding moved some_placement
placement_elim names x y ν p h =
    let w₀ = name_elim 0 names x y ν (λ ν₀. place_name 1 names x y ν₀ (λ ν₁. place_name 2 names x y ν₁ p)) h in
    let w₁ = name_elim 1 names x y (moved 0 w₀.on ν) (λ ν₁. place_name 2 names x y ν₁ p) w₀.ok in
    let w₂ = name_elim 2 names x y (moved 1 w₁.on (moved 0 w₀.on ν)) p w₁.ok in
    record {
      to = moved 2 w₂.on (moved 1 w₁.on (moved 0 w₀.on ν));
      agreeing =
          three names x y ν w₀.on w₁.on w₂.on
          w₀.inside w₁.inside w₂.inside w₀.kept w₁.kept w₂.kept;
      ok = w₂.ok;
    }

-- what follows for tests that agree on the placements in question
pub placement_same : (names : Names) (x y : ℕ) (ν : Placement) (p : Placement → Bool)
    (names' : Names) (x' y' : ℕ) (ν₂ : Placement) (q : Placement → Bool)
    → ((ν' : Placement) → Agreeing names x y ν ν' → p ν' ≡ true → Placed names' x' y' ν₂ q)
    → ((ν' : Placement) → Agreeing names' x' y' ν₂ ν' → q ν' ≡ true → Placed names x y ν p)
    → some_placement names x y ν p ≡ some_placement names' x' y' ν₂ q
placement_same names x y ν p names' x' y' ν₂ q f g =
    same (some_placement names x y ν p) (some_placement names' x' y' ν₂ q)
    (λ h. let w = placement_elim names x y ν p h in
    let r = f w.to w.agreeing w.ok in
    placement_intro names' x' y' ν₂ q r.to r.agreeing r.ok)
    (λ h. let w = placement_elim names' x' y' ν₂ q h in
    let r = g w.to w.agreeing w.ok in
    placement_intro names x y ν p r.to r.agreeing r.ok)

pub placement_cong : (names : Names) (x y : ℕ) (ν : Placement) (p q : Placement → Bool)
    → ((ν' : Placement) → Agreeing names x y ν ν' → p ν' ≡ q ν') → some_placement names x y ν p ≡ some_placement names x y ν q
placement_cong names x y ν p q f =
    placement_same names x y ν p names x y ν q
    (λ ν' a h. record { to = ν'; agreeing = a; ok = sym (f ν' a) ∙ h })
    (λ ν' a h. record { to = ν'; agreeing = a; ok = f ν' a ∙ h })

-- ---- names inside an interval
name_to : (u : ℕ) (names : Names) (x y : ℕ) (ν : Placement) → (names u ≡ true → (x ≤ ν u) × (ν u ≤ y)) → inside_name u names x y ν ≡ true
unfolding inside_name
name_to u names x y ν f = go (names u) f
  where
    go : (a : Bool) → (a ≡ true → (x ≤ ν u) × (ν u ≤ y)) → not a || leb x (ν u) && leb (ν u) y ≡ true
    go true f = and_intro (leb x (ν u)) (leb (ν u) y) (le-leb x (ν u) (f refl).0) (le-leb (ν u) y (f refl).1)
    go false f = refl

name_from : (u : ℕ) (names : Names) (x y : ℕ) (ν : Placement) → inside_name u names x y ν ≡ true → names u ≡ true → (x ≤ ν u) × (ν u ≤ y)
unfolding inside_name
name_from u names x y ν h k = go (names u) h k
  where
    go : (a : Bool) → not a || leb x (ν u) && leb (ν u) y ≡ true → a ≡ true → (x ≤ ν u) × (ν u ≤ y)
    go true h k = (leb-true x (ν u) (and_left (leb x (ν u)) (leb (ν u) y) h), leb-true (ν u) y (and_right (leb x (ν u)) (leb (ν u) y) h))
    go false h k = absurd (false≢true k)

pub inside_to : (names : Names) (x y : ℕ) (ν : Placement) → ((u : ℕ) → listed names u ≡ true → (x ≤ ν u) × (ν u ≤ y)) → inside names x y ν ≡ true
unfolding inside listed
inside_to names x y ν f =
    and_intro (inside_name 0 names x y ν) (inside_name 1 names x y ν && inside_name 2 names x y ν) (name_to 0 names x y ν (f 0))
    (and_intro (inside_name 1 names x y ν) (inside_name 2 names x y ν) (name_to 1 names x y ν (f 1)) (name_to 2 names x y ν (f 2)))

pub inside_from : (names : Names) (x y : ℕ) (ν : Placement) → inside names x y ν ≡ true → (u : ℕ) → listed names u ≡ true → (x ≤ ν u) × (ν u ≤ y)
unfolding inside listed
inside_from names x y ν h zero =
    name_from 0 names x y ν (and_left (inside_name 0 names x y ν) (inside_name 1 names x y ν && inside_name 2 names x y ν) h)
inside_from names x y ν h (suc zero) =
    name_from 1 names x y ν
    (and_left (inside_name 1 names x y ν) (inside_name 2 names x y ν)
    (and_right (inside_name 0 names x y ν) (inside_name 1 names x y ν && inside_name 2 names x y ν) h))
inside_from names x y ν h (suc (suc zero)) =
    name_from 2 names x y ν
    (and_right (inside_name 1 names x y ν) (inside_name 2 names x y ν)
    (and_right (inside_name 0 names x y ν) (inside_name 1 names x y ν && inside_name 2 names x y ν) h))
inside_from names x y ν h (suc (suc (suc u))) =
    λ l. absurd (true≢false (sym (and_left (ltb (suc (suc (suc u))) 3) (names (suc (suc (suc u)))) l) ∙ far u))
