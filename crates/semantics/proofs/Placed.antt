-- `placed`: columns with exactly one mark each on the interval are the placements over it; `once`: a name with one mark there stands in it.
use Rattle.std.proofs.Common.{ℕ, zero, suc, ◌≤◌, ◌<◌, arith, Bool, true, false, not, cond, ◌&&◌, ◌||◌, true≢false, List, inl, inr, ◌≡◌, refl, sym, ap, subst, ◌∙◌, leb, eqb, length, get_or, leb-true, le-leb, eqb-true, eq-eqb}
use Rattle.semantics.specs.Cycles.{some_in, count_in, some_column}
use Rattle.semantics.specs.Proposition.{Trace, Marks, name, holds_at}
use Rattle.semantics.specs.Formula.{Formula, conjunction, scount, equal, for_some, compared, mark, holds}
use Rattle.semantics.specs.Placement.{Names, union, listed, Placement, moved, place_name, some_placement}
use Rattle.semantics.specs.Inside.{inside_name, inside}
use Rattle.semantics.specs.Translation.{once_name, once, placed_name, placed}
use Rattle.semantics.proofs.Tests.{same, and_intro, and_left, and_right, or_elim}
use Rattle.semantics.proofs.Placement.{far, not_near}
use Rattle.semantics.proofs.Cycles.{some_intro, some_elim, One, one_intro, one_elim, column, column_at_lem, column_intro, column_elim}

-- on [x,y] the names of K are marked just where ν puts them
pub record Stands (K : Names) (x y : ℕ) (μ : Marks) (ν : Placement) : Type 0 where
  pub alike : (u : ℕ) → K u ≡ true → (t : ℕ) → x ≤ t → t ≤ y → μ u t ≡ eqb (ν u) t

pub stands_narrower : {K : Names} {x y : ℕ} {μ : Marks} {ν : Placement} (b e : ℕ) → x ≤ b → e ≤ y → Stands K x y μ ν → Stands K b e μ ν
stands_narrower b e l h s = record { alike = λ u k t p q. s.alike u k t (omega arith) (omega arith) }

pub stands_fewer : {K : Names} {x y : ℕ} {μ : Marks} {ν : Placement} (L : Names) → ((u : ℕ) → L u ≡ true → K u ≡ true) → Stands K x y μ ν
    → Stands L x y μ ν
stands_fewer L f s = record { alike = λ u k. s.alike u (f u k) }

-- a name marked at one cycle alone has exactly one mark on [x,y] if that cycle lies there
one_inside : (x y v : ℕ) (m : ℕ → Bool) → ((t : ℕ) → x ≤ t → t ≤ y → m t ≡ eqb v t) → eqb (count_in x y m) 1 ≡ (leb x v && leb v y)
one_inside x y v m f =
    same (eqb (count_in x y m) 1) (leb x v && leb v y)
    (λ h. let w = one_elim x (suc y) m (eqb-true (count_in x y m) 1 h) in
    let e = eqb-true v w.at (sym (f w.at w.low (omega (arith, w.high))) ∙ w.ok) in
    and_intro (leb x v) (leb v y) (le-leb x v (omega (arith, w.low))) (le-leb v y (omega (arith, w.high))))
    (λ h. let l = leb-true x v (and_left (leb x v) (leb v y) h) in
    let u = leb-true v y (and_right (leb x v) (leb v y) h) in
    eq-eqb (count_in x y m) 1
    (one_intro x (suc y) m
    (record {
      at = v;
      low = l;
      high = omega arith;
      ok = f v l u ∙ eq-eqb v v refl;
      alone = λ i a b q. sym (eqb-true v i (sym (f i a (omega arith)) ∙ q));
    })))

-- K with name u, if it belongs to the set
unfoldable adding : ℕ → Names → Names → Names
adding u names K v = eqb v u && names u || K v

-- a column for name u with one mark on [x,y], at t
stands_marked : {K : Names} {x y : ℕ} {μ : Marks} {ν : Placement} (u : ℕ) (names : Names) (c : List Bool) (t : ℕ) → Stands K x y μ ν
    → ((i : ℕ) → x ≤ i → i ≤ y → get_or c i false ≡ eqb t i) → Stands (adding u names K) x y (mark u c μ) (moved u t ν)
unfolding adding mark moved
stands_marked {K} {x} {y} {μ} {ν} u names c t s f = record { alike = λ v k i l h. go v (eqb v u) (names u) k i l h }
  where
    go : (v : ℕ) (a b : Bool) → a && b || K v ≡ true → (i : ℕ) → x ≤ i → i ≤ y
        → cond a (get_or c i false) (μ v i) ≡ eqb (cond a t (ν v)) i
    go v true b k i l h = f i l h
    go v false b k i l h = s.alike v k i l h

stands_adding : {K : Names} {x y : ℕ} {μ : Marks} {ν : Placement} (u : ℕ) (names : Names) → (names u ≡ true → K u ≡ true) → Stands K x y μ ν
    → Stands (adding u names K) x y μ ν
unfolding adding
stands_adding {K} u names f s =
    stands_fewer (λ v. eqb v u && names u || K v)
    (λ v k. elim (or_elim (eqb v u && names u) (K v) k)
    [ inl h ↦ rw (eqb-true v u (and_left (eqb v u) (names u) h)) (f (and_right (eqb v u) (names u) h)) | inr h ↦ h ]) s

mark_own : (u : ℕ) (c : List Bool) (μ : Marks) (t : ℕ) → mark u c μ u t ≡ get_or c t false
unfolding mark
mark_own u c μ t = rw (eq-eqb u u refl)

-- the cycle of the one mark that a column has on [x,y]
the_mark : (x y : ℕ) (m : ℕ → Bool) (w : One x (suc y) m) (i : ℕ) → x ≤ i → i ≤ y → m i ≡ eqb w.at i
the_mark x y m w i l h =
    same (m i) (eqb w.at i)
    (λ p. eq-eqb w.at i (sym (w.alone i l (omega arith) p)))
    (λ p. subst (λ (t : ℕ). m t ≡ true) (eqb-true w.at i p) w.ok)

module _ (σ : Trace) (x y : ℕ) (i : y < length σ) where
  -- a name with a column of its own
  placed_free : (u : ℕ) (names K : Names) (f : Formula) (q : Placement → Bool) (μ : Marks) (ν : Placement) → Stands K x y μ ν
      → ((μ' : Marks) (ν' : Placement) → Stands (adding u names K) x y μ' ν' → holds f σ μ' x y ≡ q ν')
      → some_column (length σ) (λ c. eqb (count_in x y (mark u c μ u)) 1 && holds f σ (mark u c μ) x y) ≡ some_in x y (λ t. q (moved u t ν))
  placed_free u names K f q μ ν s next =
      same (some_column (length σ) (λ c. eqb (count_in x y (mark u c μ u)) 1 && holds f σ (mark u c μ) x y)) (some_in x y (λ t. q (moved u t ν)))
      (λ h. let w = column_elim (length σ) (λ c. eqb (count_in x y (mark u c μ u)) 1 && holds f σ (mark u c μ) x y) h in from w.0 w.1)
      (λ h. let w = some_elim x (suc y) (λ t. q (moved u t ν)) h in to w.at w.low (omega (arith, w.high)) w.ok)
    where
      from : (c : List Bool) → eqb (count_in x y (mark u c μ u)) 1 && holds f σ (mark u c μ) x y ≡ true → some_in x y (λ t. q (moved u t ν)) ≡ true
      from c h =
          let w = one_elim x (suc y) (mark u c μ u)
          (eqb-true (count_in x y (mark u c μ u)) 1 (and_left (eqb (count_in x y (mark u c μ u)) 1) (holds f σ (mark u c μ) x y) h)) in
          some_intro x (suc y) (λ t. q (moved u t ν)) w.at w.low w.high
          (sym (next (mark u c μ) (moved u w.at ν)
          (stands_marked u names c w.at s (λ t l m. sym (mark_own u c μ t) ∙ the_mark x y (mark u c μ u) w t l m)))
          ∙ and_right (eqb (count_in x y (mark u c μ u)) 1) (holds f σ (mark u c μ) x y) h)

      to : (t : ℕ) → x ≤ t → t ≤ y → q (moved u t ν) ≡ true
          → some_column (length σ) (λ c. eqb (count_in x y (mark u c μ u)) 1 && holds f σ (mark u c μ) x y) ≡ true
      to t l h p =
          let c : List Bool = column (length σ) (eqb t) in
          let own : (j : ℕ) → x ≤ j → j ≤ y → get_or c j false ≡ eqb t j = λ j a b. column_at_lem (length σ) (eqb t) j (omega arith) in
          column_intro (length σ) (λ c. eqb (count_in x y (mark u c μ u)) 1 && holds f σ (mark u c μ) x y) (eqb t)
          (and_intro (eqb (count_in x y (mark u c μ u)) 1) (holds f σ (mark u c μ) x y)
          (one_inside x y t (mark u c μ u) (λ j a b. mark_own u c μ j ∙ own j a b)
          ∙ and_intro (leb x t) (leb t y) (le-leb x t l) (le-leb t y h))
          (next (mark u c μ) (moved u t ν) (stands_marked u names c t s own) ∙ p))

  -- one name
  placed_name_lem : (u : ℕ) (names K : Names) (f : Formula) (q : Placement → Bool) (μ : Marks) (ν : Placement) → Stands K x y μ ν
      → ((μ' : Marks) (ν' : Placement) → Stands (adding u names K) x y μ' ν' → holds f σ μ' x y ≡ q ν')
      → holds (placed_name u names f) σ μ x y ≡ place_name u names x y ν q
  unfolding placed_name place_name holds holds_at compared
  placed_name_lem u names K f q μ ν s next = go (names u) refl
    where
      go : (a : Bool) → names u ≡ a
          → holds (cond a (for_some u (conjunction (scount equal (name u) 1) f)) f) σ μ x y ≡ cond a (some_in x y (λ t. q (moved u t ν))) (q ν)
      go true e = placed_free u names K f q μ ν s next
      go false e = next μ ν (stands_adding u names (λ h. absurd (true≢false (sym h ∙ e))) s)

  -- the three names; `K` holds the names that stand already
  pub placed_holds : (names K : Names) (f : Formula) (q : Placement → Bool) (μ : Marks) (ν : Placement) → Stands K x y μ ν
      → ((μ' : Marks) (ν' : Placement) → Stands (union (listed names) K) x y μ' ν' → holds f σ μ' x y ≡ q ν')
      → holds (placed names f) σ μ x y ≡ some_placement names x y ν q
  unfolding placed some_placement union listed adding
  placed_holds names K f q μ ν s next =
      placed_name_lem 0 names K (placed_name 1 names (placed_name 2 names f))
      (λ ν₀. place_name 1 names x y ν₀ (λ ν₁. place_name 2 names x y ν₁ q)) μ ν s
      (λ μ₀ ν₀ s₀. placed_name_lem 1 names (adding 0 names K) (placed_name 2 names f) (λ ν₁. place_name 2 names x y ν₁ q) μ₀ ν₀ s₀
      (λ μ₁ ν₁ s₁. placed_name_lem 2 names (adding 1 names (adding 0 names K)) f q μ₁ ν₁ s₁
      (λ μ₂ ν₂ s₂. next μ₂ ν₂ (stands_fewer (union (listed names) K) all s₂))))
    where
      all : (u : ℕ) → union (listed names) K u ≡ true → adding 2 names (adding 1 names (adding 0 names K)) u ≡ true
      all zero h = h
      all (suc zero) h = h
      all (suc (suc zero)) h = h
      all (suc (suc (suc u))) h =
          rw (not_near 2 u (omega arith), not_near 1 u (omega arith), not_near 0 u (omega arith)) (rw (far u) at h)

-- a name that stands already has one mark on the interval if it stands in it
module _ (σ : Trace) {x y : ℕ} {K : Names} {μ : Marks} {ν : Placement} (s : Stands K x y μ ν) (names : Names) where
  once_name_lem : (u : ℕ) (f : Formula) → (names u ≡ true → K u ≡ true) → holds (once_name u names f) σ μ x y ≡ (inside_name u names x y ν && holds f σ μ x y)
  unfolding once_name inside_name holds holds_at compared
  once_name_lem u f k = go (names u) k
    where
      go : (a : Bool) → (a ≡ true → K u ≡ true)
          → holds (cond a (conjunction (scount equal (name u) 1) f) f) σ μ x y ≡ ((not a || leb x (ν u) && leb (ν u) y) && holds f σ μ x y)
      go true k = ap (λ (b : Bool). b && holds f σ μ x y) (one_inside x y (ν u) (μ u) (s.alike u (k refl)))
      go false k = refl

  pub once_holds : (f : Formula) → ((u : ℕ) → listed names u ≡ true → K u ≡ true) → holds (once names f) σ μ x y ≡ (inside names x y ν && holds f σ μ x y)
  unfolding once inside listed
  once_holds f k =
      once_name_lem 0 (once_name 1 names (once_name 2 names f)) (k 0)
      ∙ ap (λ (b : Bool). inside_name 0 names x y ν && b) (once_name_lem 1 (once_name 2 names f) (k 1))
      ∙ ap (λ (b : Bool). inside_name 0 names x y ν && (inside_name 1 names x y ν && b)) (once_name_lem 2 f (k 2))
      ∙ regroup (inside_name 0 names x y ν) (inside_name 1 names x y ν) (inside_name 2 names x y ν) (holds f σ μ x y)
    where
      regroup : (a b c d : Bool) → a && (b && (c && d)) ≡ (a && (b && c) && d)
      regroup true true c d = refl
      regroup true false c d = refl
      regroup false b c d = refl
