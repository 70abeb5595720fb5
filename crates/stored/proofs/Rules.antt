-- Laws of rules in a row and of lists in order.
use Rattle.std.proofs.Common.{ℕ, zero, suc, ◌+◌, ◌*◌, ◌%◌, ◌^◌, ◌≤◌, ◌<◌, Bool, true, false, not, ◌&&◌, ◌||◌, List, [], ◌∷◌, ◌⊎◌, inl, inr, ◌≡◌, refl, sym, ◌∙◌, ap, ap₂, subst, one-mul, mod-eq_of_lt, add-one, add-zero, arith, eqb-true, eqb, ltb, length, get_or}
use mathlib.Core.Bool.{false≢true}
use Rattle.std.proofs.Math.Nat.{sub-zero}
use borrow.Author.Tests.{eqb-false}
use lib.Pow.{pow-lt}
use denote.Param.Members.{Mut}
use Rattle.std.specs.declared.ops.Range.{Range}
use Rattle.std.specs.declared.option.Option.{Option}
use Rattle.std.specs.Fn.{Called}
use Rattle.std.specs.Iterator.{YieldsThen}
use Rattle.std.specs.List.{FoldsTo, list_all, range_with_len}
use Rattle.std.specs.Option.{MatchOption}
use Rattle.std.proofs.iter.Yields.{nat_range_steps}
use Rattle.std.proofs.lemmas.Iterator.{YieldsList-from_range}
use Rattle.std.proofs.lemmas.Iterator.Search.{all_from_yields_List}
use Rattle.semantics.proofs.Tests.{test, and_left, and_right, and_intro, and_assoc, and_true_right}
use Rattle.stored.specs.Bytes.{every_below, in_order, lowest}

-- what is asked only if a holds
pub asked : (a b : Bool) → (not a || b) ≡ true → a ≡ true → b ≡ true
asked true b h p = h
asked false b h p = absurd (false≢true p)

pub every_at : (n : ℕ) (p : ℕ → Bool) → every_below n p ≡ true → (i : ℕ) → i < n → p i ≡ true
unfolding every_below
every_at zero p h i l = absurd (omega arith)
every_at (suc n) p h i l =
    elim (test (eqb i n)) [
      | inl e ↦ subst (λ (k : ℕ). p k ≡ true) (sym (eqb-true i n e)) (and_right (every_below n p) (p n) h)
      | inr e ↦ let ne = eqb-false i n e in every_at n p (and_left (every_below n p) (p n) h) i (omega arith)
    ]

pub every_all : (n : ℕ) (p : ℕ → Bool) → ((i : ℕ) → i < n → p i ≡ true) → every_below n p ≡ true
unfolding every_below
every_all zero p h = refl
every_all (suc n) p h = and_intro (every_below n p) (p n) (every_all n p (λ i l. h i (omega arith))) (h n (omega arith))

pub every_suc : (n : ℕ) (p : ℕ → Bool) → every_below (n + 1) p ≡ (every_below n p && p n)
unfolding every_below
every_suc n p = rw add-one

-- a test of all numbers, from its first n and the rest
pub every_number : (n : ℕ) (p : ℕ → Bool) → every_below n p ≡ true → ((k : ℕ) → n ≤ k → p k ≡ true) → (k : ℕ) → p k ≡ true
every_number n p h above k =
    elim (test (ltb k n)) [
      | inl e ↦ every_at n p h k (omega (arith, borrow.Author.Tests.ltb-true k n e))
      | inr e ↦ above k (omega (arith, borrow.Author.Tests.ltb-false k n e))
    ]

module _ {A : Type 0} where
  pub length_in_order : (n : ℕ) (f : ℕ → A) → length (in_order n f) ≡ n
  unfolding in_order
  length_in_order zero f = refl
  length_in_order (suc n) f = ap suc (length_in_order n (λ i. f (suc i)))

  pub get_or_in_order : (n : ℕ) (f : ℕ → A) (i : ℕ) (d : A) → i < n → get_or (in_order n f) i d ≡ f i
  unfolding in_order
  get_or_in_order zero f i d h = absurd (omega arith)
  get_or_in_order (suc n) f zero d h = refl
  get_or_in_order (suc n) f (suc i) d h = get_or_in_order n (λ i. f (suc i)) i d (omega arith)

-- the lowest number is 0 exactly where every rule is kept; else it is the number of a broken rule, and the rules before it are kept
pub lowest_kept : (k : ℕ) (kept : Bool) (rules : List Bool) → 0 < k → lowest k (kept ∷ rules) ≡ 0 → (kept ≡ true) × (lowest (suc k) rules ≡ 0)
unfolding lowest
lowest_kept k true rules p h = (refl, h)
lowest_kept k false rules p h = absurd (omega arith)

pub record Lowest (k : ℕ) (rules : List Bool) (r : ℕ) : Type 0 where
  pub broken : (j : ℕ) → r ≡ k + j → get_or rules j true ≡ false
  pub before : (j i : ℕ) → r ≡ k + j → i < j → get_or rules i true ≡ true
  pub range : (r ≡ 0) ⊎ ((k ≤ r) × (r < k + length rules))

pub lowest_law : (k : ℕ) (rules : List Bool) → 0 < k → Lowest k rules (lowest k rules)
unfolding lowest
lowest_law k [] p =
    record { broken = λ j e. absurd (omega arith); before = λ j i e h. absurd (omega arith); range = inl refl }
lowest_law k (false ∷ rules) p =
    record {
      broken = λ j e. let z : j ≡ 0 = omega arith in subst (λ (n : ℕ). get_or (false ∷ rules) n true ≡ false) (sym z) refl;
      before = λ j i e h. absurd (omega arith);
      range = inr (omega arith);
    }
lowest_law k (true ∷ rules) p =
    let more = lowest_law (suc k) rules (omega arith) in
    record {
      broken = broken more;
      before = before more;
      range = elim more.range [ inl e ↦ inl e | inr h ↦ let l = h.0 in let u = h.1 in inr (omega arith, omega arith) ];
    }
  where
    at_least_lem : Lowest (suc k) rules (lowest (suc k) rules) → (j : ℕ) → lowest (suc k) rules ≡ k + j → 0 < j
    at_least_lem more j e =
        elim more.range [
          | inl z ↦ absurd (omega arith)
          | inr h ↦ let l = h.0 in omega arith
        ]

    broken : Lowest (suc k) rules (lowest (suc k) rules) → (j : ℕ) → lowest (suc k) rules ≡ k + j → get_or (true ∷ rules) j true ≡ false
    broken more zero e = absurd (let z = at_least_lem more 0 e in omega arith)
    broken more (suc j) e = more.broken j (omega arith)

    before : Lowest (suc k) rules (lowest (suc k) rules) → (j i : ℕ) → lowest (suc k) rules ≡ k + j → i < j → get_or (true ∷ rules) i true ≡ true
    before more j zero e h = refl
    before more zero (suc i) e h = absurd (omega arith)
    before more (suc j) (suc i) e h = more.before j i (omega arith) (omega arith)

pub every_same : (n : ℕ) (p q : ℕ → Bool) → ((i : ℕ) → i < n → p i ≡ q i) → every_below n p ≡ every_below n q
unfolding every_below
every_same zero p q h = refl
every_same (suc n) p q h = ap₂ (λ (y z : Bool). y && z) (every_same n p q (λ i l. h i (omega arith))) (h n (omega arith))

-- a test of each number of a range: the first, then the others
every_first : (n : ℕ) (p : ℕ → Bool) → every_below (suc n) p ≡ (p 0 && every_below n (λ k. p (suc k)))
unfolding every_below
every_first zero p = sym (and_true_right (p 0))
every_first (suc n) p = ap (λ (y : Bool). y && p (suc n)) (every_first n p) ∙ sym (and_assoc (p 0) (every_below n (λ k. p (suc k))) (p (suc n)))

every_listed : (n a : ℕ) (p : ℕ → Bool) → list_all p (range_with_len a n) ≡ every_below n (λ k. p (a + k))
every_listed zero a p = unfold every_below in refl
every_listed (suc n) a p =
    ap₂ (λ (y z : Bool). y && z) (ap p (sym (add-zero a)))
    (every_listed n (a + 1) p
    ∙ every_same n (λ k. p (a + 1 + k)) (λ k. p (a + suc k)) (λ k l. let next : a + 1 + k ≡ a + suc k = omega arith in ap p next))
    ∙ sym (every_first n (λ k. p (a + k)))

-- what `all` answers over the numbers below n, where its closure tests each by p
pub every_of_all : {F : Type 0} {g : Mut F (ℕ × Unit {0}) Bool} (n : ℕ) (p : ℕ → Bool) (u : Range ℕ) (f : F) (r : Bool)
    → (xs : List ℕ) × (o : Option ℕ) × (j : F) × YieldsThen nat_range_steps (record { start = 0; end = n }) xs o u × FoldsTo (λ p x q. Called g p (x, tt) true q) f xs j × MatchOption o (r ≡ true) (λ x. (r ≡ false) × ((h : F) × Called g j (x, tt) false h))
    → ((x : ℕ) (b : Bool) (q : F) → Called g f (x, tt) b q → (q ≡ f) × (b ≡ p x)) → r ≡ every_below n p
every_of_all n p u f r ran tests =
    all_from_yields_List p u f r ran (YieldsList-from_range 0 n n refl (sub-zero n)) tests
    ∙ every_listed n 0 p
    ∙ every_same n (λ k. p (0 + k)) p (λ k l. let same : 0 + k ≡ k = omega arith in ap p same)

-- a loop that joins tests
pub every_next : (n : ℕ) (p : ℕ → Bool) (ok r : Bool) → ok ≡ every_below n p → r ≡ p n → (ok && r) ≡ every_below (n + 1) p
every_next n p ok r e f = ap₂ (λ (y z : Bool). y && z) e f ∙ sym (every_suc n p)

pub every_done : (i n : ℕ) (p : ℕ → Bool) (ok : Bool) → i ≤ n → n ≤ i → ok ≡ every_below i p → ok ≡ every_below n p
every_done i n p ok l h e = let same : i ≡ n = omega arith in e ∙ ap (λ (k : ℕ). every_below k p) same

-- a shift of 1 below the width
pub shift_one : (m : ℕ) → m < 64 → 1 * 2 ^ m % 18446744073709551616 ≡ 2 ^ m
shift_one m h =
    let fits : 2 ^ m < 2 ^ 64 = pow-lt h in
    rw one-mul (mod-eq_of_lt fits)

-- what holds of each of some numbers in a row, one by one
abbrev pub Each : (ℕ → Type 0) → ℕ → ℕ → Type 0
Each P low zero = Unit {0}
Each P low (suc many) = P low × Each P (suc low) many

pub each_between : (P : ℕ → Type 0) (low many : ℕ) → Each P low many → (k : ℕ) → low ≤ k → k < low + many → P k
each_between P low zero e k l h = absurd (omega arith)
each_between P low (suc many) e k l h =
    elim (test (eqb low k)) [
      | inl s ↦ subst P (eqb-true low k s) e.0
      | inr s ↦ let other = eqb-false low k s in each_between P (suc low) many e.1 k (omega arith) (omega arith)
    ]

-- and of each after them
pub each_from : (P : ℕ → Type 0) (low many : ℕ) → Each P low many → ((k : ℕ) → low + many ≤ k → P k) → (k : ℕ) → low ≤ k → P k
each_from P low many e past k l =
    elim (test (ltb k (low + many))) [
      | inl h ↦ each_between P low many e k l (borrow.Author.Tests.ltb-true k (low + many) h)
      | inr h ↦ past k (borrow.Author.Tests.ltb-false k (low + many) h)
    ]
