-- Laws of sets of names.
use Rattle.std.proofs.Common.{ℕ, Bool, true, false, not, ◌&&◌, ◌||◌, true≢false, ◌⊎◌, inl, inr, ◌≡◌, refl, sym, ltb}
use mathlib.Core.Bool.{false≢true}
use mathlib.Core.Path.{fun_ext}
use Rattle.semantics.specs.Placement.{Names, no_names, union, without, listed}
use Rattle.semantics.proofs.Tests.{test, and_intro, and_left, and_right, and_true_right, or_left, or_right, or_elim}

pub not_none : {A : Type 0} (u : ℕ) → no_names u ≡ true → A
unfolding no_names
not_none u h = absurd (false≢true h)

pub listed_is : (names : Names) (u : ℕ) → listed names u ≡ true → names u ≡ true
unfolding listed
listed_is names u h = and_right (ltb u 3) (names u) h

-- a listed name of one set is a listed name of another that has it
pub listed_too : (a b : Names) (u : ℕ) → listed a u ≡ true → b u ≡ true → listed b u ≡ true
unfolding listed
listed_too a b u h k = and_intro (ltb u 3) (b u) (and_left (ltb u 3) (a u) h) k

pub union_left : (a b : Names) (u : ℕ) → a u ≡ true → union a b u ≡ true
unfolding union
union_left a b u h = or_left (a u) (b u) h

pub union_right : (a b : Names) (u : ℕ) → b u ≡ true → union a b u ≡ true
unfolding union
union_right a b u h = or_right (a u) (b u) h

pub union_elim : (a b : Names) (u : ℕ) → union a b u ≡ true → (a u ≡ true) ⊎ (b u ≡ true)
unfolding union
union_elim a b u h = or_elim (a u) (b u) h

pub listed_left : (a b : Names) (u : ℕ) → listed a u ≡ true → listed (union a b) u ≡ true
listed_left a b u h = listed_too a (union a b) u h (union_left a b u (listed_is a u h))

pub listed_right : (a b : Names) (u : ℕ) → listed b u ≡ true → listed (union a b) u ≡ true
listed_right a b u h = listed_too b (union a b) u h (union_right a b u (listed_is b u h))

-- names of one set that another lacks
pub without_none : (names : Names) → without names no_names ≡ names
unfolding without no_names
without_none names = fun_ext (λ u. and_true_right (names u))

pub listed_less : (a b : Names) (u : ℕ) → listed (without a b) u ≡ true → (listed a u ≡ true) × (b u ≡ false)
unfolding listed without
listed_less a b u h = go (ltb u 3) (a u) (b u) h
  where
    go : (l x y : Bool) → l && (x && not y) ≡ true → (l && x ≡ true) × (y ≡ false)
    go true true true h = absurd (false≢true h)
    go true true false h = (refl, refl)
    go true false y h = absurd (false≢true h)
    go false x y h = absurd (false≢true h)

pub less_listed : (a b : Names) (u : ℕ) → listed a u ≡ true → b u ≡ false → listed (without a b) u ≡ true
unfolding listed without
less_listed a b u h k = go (ltb u 3) (a u) (b u) h k
  where
    go : (l x y : Bool) → l && x ≡ true → y ≡ false → l && (x && not y) ≡ true
    go true true true h k = sym k
    go true true false h k = refl
    go true false y h k = h
    go false x y h k = h

-- one that the set lists and its rest does not is of the other
pub less_unlisted : (a b : Names) (u : ℕ) → listed a u ≡ true → listed (without a b) u ≡ false → b u ≡ true
unfolding listed without
less_unlisted a b u h k = go (ltb u 3) (a u) (b u) h k
  where
    go : (l x y : Bool) → l && x ≡ true → l && (x && not y) ≡ false → y ≡ true
    go true true true h k = refl
    go true true false h k = sym k
    go true false y h k = absurd (false≢true h)
    go false x y h k = absurd (false≢true h)

pub unlisted_less : (a b : Names) (u : ℕ) → b u ≡ true → listed (without a b) u ≡ false
unfolding listed without
unlisted_less a b u h = go (ltb u 3) (a u) (b u) h
  where
    go : (l x y : Bool) → y ≡ true → l && (x && not y) ≡ false
    go true true true h = refl
    go true true false h = sym h
    go true false y h = refl
    go false x y h = refl

-- a name that neither the first set nor the rest of the other lists is listed by none
pub listed_neither : (a b : Names) (u : ℕ) → listed a u ≡ false → listed (without b a) u ≡ false → listed (union a b) u ≡ false
unfolding listed union without
listed_neither a b u h k = go (ltb u 3) (a u) (b u) h k
  where
    go : (l x y : Bool) → l && x ≡ false → l && (y && not x) ≡ false → l && (x || y) ≡ false
    go true true y h k = h
    go true false true h k = k
    go true false false h k = refl
    go false x y h k = refl

pub unlisted : (a b : Names) (u : ℕ) → listed (union a b) u ≡ false → (listed a u ≡ false) × (listed (without b a) u ≡ false)
unfolding listed union without
unlisted a b u h = go (ltb u 3) (a u) (b u) h
  where
    go : (l x y : Bool) → l && (x || y) ≡ false → (l && x ≡ false) × (l && (y && not x) ≡ false)
    go true true y h = absurd (true≢false h)
    go true false true h = absurd (true≢false h)
    go true false false h = (refl, refl)
    go false x y h = (refl, refl)

pub listed_rest : (a b : Names) (u : ℕ) → listed (union a b) u ≡ true → listed a u ≡ false → listed (without b a) u ≡ true
unfolding listed union without
listed_rest a b u h k = go (ltb u 3) (a u) (b u) h k
  where
    go : (l x y : Bool) → l && (x || y) ≡ true → l && x ≡ false → l && (y && not x) ≡ true
    go true true y h k = absurd (true≢false k)
    go true false true h k = refl
    go true false false h k = h
    go false x y h k = h

-- a set's names are those that it has besides another's, and shared ones
pub besides : (a b K : Names) → ((u : ℕ) → listed b u ≡ true → K u ≡ true) → (u : ℕ) → listed a u ≡ true → union (listed (without a b)) K u ≡ true
besides a b K k u h =
    elim (test (b u)) [
      | inl e ↦ union_right (listed (without a b)) K u (k u (listed_too a b u h e))
      | inr e ↦ union_left (listed (without a b)) K u (less_listed a b u h e)
    ]
