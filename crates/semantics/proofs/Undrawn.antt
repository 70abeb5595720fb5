-- A drawing and the formula that tells it without drawings hold on the same intervals.
use Rattle.std.proofs.Common.{ℕ, suc, ◌+◌, ◌-◌, ◌≤◌, arith, Bool, true, false, not, ◌&&◌, ◌||◌, List, ◌≡◌, refl, ap, ap₂, ◌∙◌, leb, eqb, length, eqb-true, eq-eqb}
use mathlib.Core.Bool.{false≢true}
use mathlib.Core.Path.{fun_ext}
use lib.Dec.{leb-zero}
use Rattle.semantics.specs.Cycles.{some_in, some_column}
use Rattle.semantics.specs.Proposition.{Trace, Marks, signal_at, holds_at}
use Rattle.semantics.specs.Formula.{Formula, point, stretch, whole, unit, chop, conjunction, disjunction, star, slen, scount, sdur, drawn, at, gap, negation, for_some}
use Rattle.semantics.specs.Formula.{Symbol, low, high, either, low_stretch, high_stretch, either_stretch, steady, compared, drawn_on, mark, holds}
use Rattle.semantics.specs.Translation.{anywhere, undrawn_symbol, undrawn_mark, undrawn_gap, undrawn}
use Rattle.semantics.proofs.Tests.{same}
use Rattle.semantics.proofs.Cycles.{some_cong, some_none}
use Rattle.semantics.proofs.Locality.{chain_cong}

length_is : (b e n : ℕ) → b ≤ e → eqb (e - b) n ≡ eqb e (b + n)
length_is b e n l =
    same (eqb (e - b) n) (eqb e (b + n))
    (λ h. eq-eqb e (b + n) (let q = eqb-true (e - b) n h in omega arith))
    (λ h. eq-eqb (e - b) n (let q = eqb-true e (b + n) h in omega arith))

no_length : (b e : ℕ) → b ≤ e → eqb (e - b) 0 ≡ eqb b e
no_length b e l =
    same (eqb (e - b) 0) (eqb b e)
    (λ h. eq-eqb b e (let q = eqb-true (e - b) 0 h in omega arith))
    (λ h. eq-eqb (e - b) 0 (let q = eqb-true b e h in omega arith))

symbol_holds : (s : Symbol) (k : ℕ) (σ : Trace) (μ : Marks) (b e : ℕ) → b ≤ e
    → holds (undrawn_symbol s k) σ μ b e ≡ drawn_on s (signal_at σ k) b e
unfolding undrawn_symbol anywhere drawn_on holds holds_at compared
symbol_holds low k σ μ b e l = refl
symbol_holds high k σ μ b e l = refl
symbol_holds either k σ μ b e l = length_is b e 1 l
symbol_holds low_stretch k σ μ b e l = refl
symbol_holds high_stretch k σ μ b e l = refl
symbol_holds either_stretch k σ μ b e l = leb-zero (e - b)
symbol_holds steady k σ μ b e l = refl

mark_holds : (u : ℕ) (σ : Trace) (μ : Marks) (b e : ℕ) → b ≤ e → holds (undrawn_mark u) σ μ b e ≡ holds (at u) σ μ b e
unfolding undrawn_mark holds holds_at compared
mark_holds u σ μ b e l = ap (λ (r : Bool). r && μ u b) (no_length b e l)

and_swap : (v c : Bool) → true && c && v ≡ (v && c)
and_swap true true = refl
and_swap true false = refl
and_swap false true = refl
and_swap false false = refl

-- a test on the first cycle alone, taken out of the choice of the second
hoist : (a : Bool) (x e : ℕ) (c v : ℕ → Bool) → some_in x e (λ y. a && c y && v y) ≡ (a && some_in x e (λ y. v y && c y))
hoist true x e c v = some_cong x (suc e) (λ y. true && c y && v y) (λ y. v y && c y) (λ y l h. and_swap (v y) (c y))
hoist false x e c v = some_none x (suc e) (λ y. false && c y && v y) (λ y l h q. false≢true q)

gap_holds : (u v least most : ℕ) (σ : Trace) (μ : Marks) (b e : ℕ)
    → holds (undrawn_gap u v least most) σ μ b e ≡ holds (gap u v least most) σ μ b e
unfolding undrawn_gap anywhere holds holds_at compared
gap_holds u v least most σ μ b e =
    some_cong b (suc e)
    (λ x. leb 0 (x - b) && some_in x e (λ y. μ u x && (leb least (y - x) && leb (y - x) most) && μ v y))
    (λ x. μ u x && some_in x e (λ y. μ v y && (leb least (y - x) && leb (y - x) most)))
    (λ x l h. ap (λ (r : Bool). r && some_in x e (λ y. μ u x && (leb least (y - x) && leb (y - x) most) && μ v y)) (leb-zero (x - b))
    ∙ hoist (μ u x) x e (λ y. leb least (y - x) && leb (y - x) most) (μ v))

pub undrawn_holds : (f : Formula) (σ : Trace) (μ : Marks) (b e : ℕ) → b ≤ e → holds (undrawn f) σ μ b e ≡ holds f σ μ b e
unfolding undrawn holds
undrawn_holds (point p) σ μ b e l = refl
undrawn_holds (stretch p) σ μ b e l = refl
undrawn_holds (whole p) σ μ b e l = refl
undrawn_holds (unit p) σ μ b e l = refl
undrawn_holds (chop f g) σ μ b e l =
    some_cong b (suc e) (λ i. holds (undrawn f) σ μ b i && holds (undrawn g) σ μ i e) (λ i. holds f σ μ b i && holds g σ μ i e)
    (λ i m h. ap₂ ◌&&◌ (undrawn_holds f σ μ b i m) (undrawn_holds g σ μ i e (omega arith)))
undrawn_holds (conjunction f g) σ μ b e l = ap₂ ◌&&◌ (undrawn_holds f σ μ b e l) (undrawn_holds g σ μ b e l)
undrawn_holds (disjunction f g) σ μ b e l = ap₂ ◌||◌ (undrawn_holds f σ μ b e l) (undrawn_holds g σ μ b e l)
undrawn_holds (star f) σ μ b e l =
    chain_cong (e - b) (holds (undrawn f) σ μ) (holds f σ μ) b e (λ x y p q r. undrawn_holds f σ μ x y q)
undrawn_holds (slen c n) σ μ b e l = refl
undrawn_holds (scount c p n) σ μ b e l = refl
undrawn_holds (sdur c p n) σ μ b e l = refl
undrawn_holds (drawn s k) σ μ b e l = symbol_holds s k σ μ b e l
undrawn_holds (at u) σ μ b e l = mark_holds u σ μ b e l
undrawn_holds (gap u v least most) σ μ b e l = gap_holds u v least most σ μ b e
undrawn_holds (negation f) σ μ b e l = ap not (undrawn_holds f σ μ b e l)
undrawn_holds (for_some u f) σ μ b e l =
    ap (λ (p : List Bool → Bool). some_column (length σ) p) (fun_ext (λ c. undrawn_holds f σ (mark u c μ) b e l))
