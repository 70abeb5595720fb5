-- Locality: whether a formula holds on [b,e] depends only on the signals at the cycles b..e and on the marks there of the names that it
-- reaches. The two traces may have any two lengths, as long as both contain [b,e].
use Rattle.std.proofs.Common.{ℕ, zero, suc, ◌+◌, ◌-◌, ◌≤◌, ◌<◌, arith, Bool, true, false, not, cond, ◌&&◌, ◌||◌, List, ◌≡◌, refl, sym, ap, ap₂, ◌∙◌, leb, eqb, length, get_or}
use Rattle.semantics.specs.Cycles.{some_in, some_column}
use Rattle.semantics.specs.Proposition.{Proposition, never, always, signal, name, negated, both_of, either_of, Trace, Marks, signal_at, holds_at}
use Rattle.semantics.specs.Formula.{Formula, point, stretch, whole, unit, chop, conjunction, disjunction, star, slen, scount, sdur, drawn, at, gap, negation, for_some}
use Rattle.semantics.specs.Formula.{Symbol, low, high, either, low_stretch, high_stretch, either_stretch, steady, compared, chain, drawn_on, mark, holds}
use Rattle.semantics.specs.Placement.{Names}
use Rattle.semantics.specs.Reach.{proposition_within, with, within}
use Rattle.semantics.proofs.Tests.{same, and_left, and_right}
use Rattle.semantics.proofs.Cycles.{some_cong, every_cong, count_cong, column, column_at_lem, column_intro, column_elim}

-- two marked traces agree on [b,e], of the names in K
pub record Alike (K : Names) (b e : ℕ) (σ : Trace) (μ : Marks) (σ' : Trace) (μ' : Marks) : Type 0 where
  pub inside : e < length σ
  pub inside' : e < length σ'
  pub signals : (k t : ℕ) → b ≤ t → t ≤ e → signal_at σ k t ≡ signal_at σ' k t
  pub marks : (u : ℕ) → K u ≡ true → (t : ℕ) → b ≤ t → t ≤ e → μ u t ≡ μ' u t

pub narrower : {K : Names} {b e : ℕ} {σ : Trace} {μ : Marks} {σ' : Trace} {μ' : Marks} (x y : ℕ) → b ≤ x → y ≤ e
    → Alike K b e σ μ σ' μ' → Alike K x y σ μ σ' μ'
narrower x y l h a =
    record {
      inside = let i = a.inside in omega arith;
      inside' = let i = a.inside' in omega arith;
      signals = λ k t p q. a.signals k t (omega arith) (omega arith);
      marks = λ u w t p q. a.marks u w t (omega arith) (omega arith);
    }

pub turned : {K : Names} {b e : ℕ} {σ : Trace} {μ : Marks} {σ' : Trace} {μ' : Marks} → Alike K b e σ μ σ' μ' → Alike K b e σ' μ' σ μ
turned a =
    record {
      inside = a.inside';
      inside' = a.inside;
      signals = λ k t p q. sym (a.signals k t p q);
      marks = λ u w t p q. sym (a.marks u w t p q);
    }

pub at_local : {K : Names} {b e : ℕ} {σ : Trace} {μ : Marks} {σ' : Trace} {μ' : Marks} (p : Proposition) → proposition_within K p ≡ true
    → Alike K b e σ μ σ' μ' → (t : ℕ) → b ≤ t → t ≤ e → holds_at p σ μ t ≡ holds_at p σ' μ' t
unfolding proposition_within holds_at
at_local never w a t l h = refl
at_local always w a t l h = refl
at_local (signal k) w a t l h = a.signals k t l h
at_local (name u) w a t l h = a.marks u w t l h
at_local (negated p) w a t l h = ap not (at_local p w a t l h)
at_local {K = K} (both_of p q) w a t l h =
    ap₂ ◌&&◌ (at_local p (and_left (proposition_within K p) (proposition_within K q) w) a t l h)
    (at_local q (and_right (proposition_within K p) (proposition_within K q) w) a t l h)
at_local {K = K} (either_of p q) w a t l h =
    ap₂ ◌||◌ (at_local p (and_left (proposition_within K p) (proposition_within K q) w) a t l h)
    (at_local q (and_right (proposition_within K p) (proposition_within K q) w) a t l h)

pub chain_cong : (n : ℕ) (link link' : ℕ → ℕ → Bool) (b e : ℕ)
    → ((x y : ℕ) → b ≤ x → x ≤ y → y ≤ e → link x y ≡ link' x y) → chain n link b e ≡ chain n link' b e
unfolding chain
chain_cong zero link link' b e f = refl
chain_cong (suc n) link link' b e f =
    ap (λ (r : Bool). eqb b e || r)
    (some_cong (suc b) (suc e) (λ i. link b i && chain n link i e) (λ i. link' b i && chain n link' i e)
    (λ i l h. ap₂ ◌&&◌ (f b i (omega arith) (omega arith) (omega arith))
    (chain_cong n link link' i e (λ x y p q r. f x y (omega arith) q r))))

drawn_cong : (s : Symbol) (p q : ℕ → Bool) (b e : ℕ) → b ≤ e → ((t : ℕ) → b ≤ t → t ≤ e → p t ≡ q t) → drawn_on s p b e ≡ drawn_on s q b e
unfolding drawn_on
drawn_cong low p q b e l f = ap (λ (r : Bool). eqb e (b + 1) && not r) (f b (omega arith) l)
drawn_cong high p q b e l f = ap (λ (r : Bool). eqb e (b + 1) && r) (f b (omega arith) l)
drawn_cong either p q b e l f = refl
drawn_cong low_stretch p q b e l f = every_cong b e (λ t. not (p t)) (λ t. not (q t)) (λ t m h. ap not (f t m (omega arith)))
drawn_cong high_stretch p q b e l f = every_cong b e p q (λ t m h. f t m (omega arith))
drawn_cong either_stretch p q b e l f = refl
drawn_cong steady p q b e l f =
    ap₂ ◌||◌ (every_cong b e (λ t. not (p t)) (λ t. not (q t)) (λ t m h. ap not (f t m (omega arith))))
    (every_cong b e p q (λ t m h. f t m (omega arith)))

-- the same column for name u on both sides, as far as both traces go
marked : {K : Names} {b e : ℕ} {σ : Trace} {μ : Marks} {σ' : Trace} {μ' : Marks} (u : ℕ) (c : List Bool) → Alike K b e σ μ σ' μ'
    → Alike (with u K) b e σ (mark u c μ) σ' (mark u (column (length σ') (λ t. get_or c t false)) μ')
unfolding with mark
marked {K} {b} {e} {σ} {μ} {σ'} {μ'} u c a =
    record { inside = a.inside; inside' = a.inside'; signals = a.signals; marks = λ v w t l h. go v (eqb v u) w t l h }
  where
    go : (v : ℕ) (same : Bool) → same || K v ≡ true → (t : ℕ) → b ≤ t → t ≤ e
        → cond same (get_or c t false) (μ v t) ≡ cond same (get_or (column (length σ') (λ t. get_or c t false)) t false) (μ' v t)
    go v true w t l h = sym (column_at_lem (length σ') (λ t. get_or c t false) t (let i = a.inside' in omega arith))
    go v false w t l h = a.marks v w t l h

pub local : {K : Names} {b e : ℕ} {σ : Trace} {μ : Marks} {σ' : Trace} {μ' : Marks} (f : Formula) → within K f ≡ true → b ≤ e
    → Alike K b e σ μ σ' μ' → holds f σ μ b e ≡ holds f σ' μ' b e
unfolding within holds
local {b = b} (point p) w o a = at_local p w a b (omega arith) o
local {b = b} {e} {σ} {μ} {σ'} {μ'} (stretch p) w o a =
    every_cong b e (holds_at p σ μ) (holds_at p σ' μ') (λ t l h. at_local p w a t l (omega arith))
local {b = b} {e} {σ} {μ} {σ'} {μ'} (whole p) w o a =
    every_cong b (suc e) (holds_at p σ μ) (holds_at p σ' μ') (λ t l h. at_local p w a t l (omega arith))
local {b = b} {e} (unit p) w o a = ap (λ (r : Bool). eqb e (b + 1) && r) (at_local p w a b (omega arith) o)
local {K} {b} {e} {σ} {μ} {σ'} {μ'} (chop f g) w o a =
    some_cong b (suc e) (λ i. holds f σ μ b i && holds g σ μ i e) (λ i. holds f σ' μ' b i && holds g σ' μ' i e)
    (λ i l h. ap₂ ◌&&◌ (local {e = i} f (and_left (within K f) (within K g) w) l (narrower b i (omega arith) (omega arith) a))
    (local {b = i} g (and_right (within K f) (within K g) w) (omega arith) (narrower i e l (omega arith) a)))
local {K} (conjunction f g) w o a =
    ap₂ ◌&&◌ (local f (and_left (within K f) (within K g) w) o a) (local g (and_right (within K f) (within K g) w) o a)
local {K} (disjunction f g) w o a =
    ap₂ ◌||◌ (local f (and_left (within K f) (within K g) w) o a) (local g (and_right (within K f) (within K g) w) o a)
local {b = b} {e} {σ} {μ} {σ'} {μ'} (star f) w o a =
    chain_cong (e - b) (holds f σ μ) (holds f σ' μ') b e (λ x y l m h. local {b = x} {e = y} f w m (narrower x y l h a))
local (slen c n) w o a = refl
local {b = b} {e} {σ} {μ} {σ'} {μ'} (scount c p n) w o a =
    ap (λ (r : ℕ). compared c r n)
    (count_cong b (suc e) (holds_at p σ μ) (holds_at p σ' μ') (λ t l h. at_local p w a t l (omega arith)))
local {b = b} {e} {σ} {μ} {σ'} {μ'} (sdur c p n) w o a =
    ap (λ (r : ℕ). compared c r n)
    (count_cong b e (holds_at p σ μ) (holds_at p σ' μ') (λ t l h. at_local p w a t l (omega arith)))
local {b = b} {e} {σ} {μ} {σ'} {μ'} (drawn s k) w o a =
    drawn_cong s (signal_at σ k) (signal_at σ' k) b e o (λ t l h. a.signals k t l h)
local {b = b} {e} (at u) w o a = ap (λ (r : Bool). eqb b e && r) (a.marks u w b (omega arith) o)
local {K} {b} {e} {σ} {μ} {σ'} {μ'} (gap u v least most) w o a =
    some_cong b (suc e)
    (λ x. μ u x && some_in x e (λ y. μ v y && (leb least (y - x) && leb (y - x) most)))
    (λ x. μ' u x && some_in x e (λ y. μ' v y && (leb least (y - x) && leb (y - x) most)))
    (λ x l h. ap₂ ◌&&◌ (a.marks u (and_left (K u) (K v) w) x l (omega arith))
    (some_cong x (suc e) (λ y. μ v y && (leb least (y - x) && leb (y - x) most)) (λ y. μ' v y && (leb least (y - x) && leb (y - x) most))
    (λ y m k. ap (λ (r : Bool). r && (leb least (y - x) && leb (y - x) most))
    (a.marks v (and_right (K u) (K v) w) y (omega arith) (omega arith)))))
local (negation f) w o a = ap not (local f w o a)
local {K} {b} {e} {σ} {μ} {σ'} {μ'} (for_some u f) w o a =
    same (some_column (length σ) (λ c. holds f σ (mark u c μ) b e)) (some_column (length σ') (λ c. holds f σ' (mark u c μ') b e))
    (λ h. let c = column_elim (length σ) (λ c. holds f σ (mark u c μ) b e) h in
    column_intro (length σ') (λ c. holds f σ' (mark u c μ') b e) (λ t. get_or c.0 t false)
    (sym (local {K = with u K} {μ = mark u c.0 μ} {μ' = mark u (column (length σ') (λ t. get_or c.0 t false)) μ'} f w o (marked u c.0 a)) ∙ c.1))
    (λ h. let c = column_elim (length σ') (λ c. holds f σ' (mark u c μ') b e) h in
    column_intro (length σ) (λ c. holds f σ (mark u c μ) b e) (λ t. get_or c.0 t false)
    (sym (local {K = with u K} {σ = σ'} {μ = mark u c.0 μ'} {σ' = σ} {μ' = mark u (column (length σ) (λ t. get_or c.0 t false)) μ} f w o (marked u c.0 (turned a))) ∙ c.1))
