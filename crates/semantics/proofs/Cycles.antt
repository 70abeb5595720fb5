-- Laws of the tests over cycles and over columns: from a witness, to a witness, and by agreement of the tests.
use Rattle.std.proofs.Common.{ℕ, zero, suc, ◌+◌, ◌≤◌, ◌<◌, arith, le_of_suc-le-suc, not-suc-le-zero, eq-or-lt_of_le, Bool, true, false, not, cond, ◌&&◌, ◌||◌, List, [], ◌∷◌, ◌⊎◌, inl, inr, ◌≡◌, refl, sym, ap, ap₂, subst, ◌∙◌, leb, get_or, leb-true, le-leb}
use mathlib.Core.Bool.{false≢true}
use Rattle.semantics.specs.Cycles.{some_below, some_from, count_below, count_from, first_below, some_column}
use Rattle.semantics.proofs.Tests.{same, and_intro, and_left, and_right, or_left, or_right, or_elim, is_false, false_not}

-- a cycle at or after b and before e that passes
pub record Witness (b e : ℕ) (p : ℕ → Bool) : Type 0 where
  pub at : ℕ
  pub low : b ≤ at
  pub high : at < e
  pub ok : p at ≡ true

-- ---- some cycle below n
pub below_intro : (n : ℕ) (p : ℕ → Bool) (i : ℕ) → i < n → p i ≡ true → some_below n p ≡ true
unfolding some_below
below_intro zero p i h q = absurd (not-suc-le-zero h)
below_intro (suc n) p i h q =
    elim (eq-or-lt_of_le (le_of_suc-le-suc h)) [
      | inl e ↦ or_right (some_below n p) (p n) (subst (λ (k : ℕ). p k ≡ true) e q)
      | inr l ↦ or_left (some_below n p) (p n) (below_intro n p i l q)
    ]

pub below_elim : (n : ℕ) (p : ℕ → Bool) → some_below n p ≡ true → Witness 0 n p
unfolding some_below
below_elim zero p h = absurd (false≢true h)
below_elim (suc n) p h =
    elim (or_elim (some_below n p) (p n) h)
    [ inl l ↦ wider (below_elim n p l) | inr q ↦ record { at = n; low = omega arith; high = omega arith; ok = q } ]
  where
    wider : Witness 0 n p → Witness 0 (suc n) p
    wider w = record { at = w.at; low = w.low; high = omega arith; ok = w.ok }

pub below_cong : (n : ℕ) (p q : ℕ → Bool) → ((i : ℕ) → i < n → p i ≡ q i) → some_below n p ≡ some_below n q
unfolding some_below
below_cong zero p q f = refl
below_cong (suc n) p q f = ap₂ ◌||◌ (below_cong n p q (λ i l. f i (omega arith))) (f n (omega arith))

-- ---- some cycle from b up to, but without, e
pub some_intro : (b e : ℕ) (p : ℕ → Bool) (i : ℕ) → b ≤ i → i < e → p i ≡ true → some_from b e p ≡ true
unfolding some_from
some_intro b e p i l h q = below_intro e (λ i. leb b i && p i) i h (and_intro (leb b i) (p i) (le-leb b i l) q)

pub some_elim : (b e : ℕ) (p : ℕ → Bool) → some_from b e p ≡ true → Witness b e p
unfolding some_from
some_elim b e p h =
    let w = below_elim e (λ i. leb b i && p i) h in
    record {
      at = w.at;
      low = leb-true b w.at (and_left (leb b w.at) (p w.at) w.ok);
      high = w.high;
      ok = and_right (leb b w.at) (p w.at) w.ok;
    }

-- no cycle passes
pub some_none : (b e : ℕ) (p : ℕ → Bool) → ((i : ℕ) → b ≤ i → i < e → p i ≡ true → ⊥) → some_from b e p ≡ false
some_none b e p f = is_false (some_from b e p) (λ h. let w = some_elim b e p h in f w.at w.low w.high w.ok)

pub none_some : (b e : ℕ) (p : ℕ → Bool) → some_from b e p ≡ false → (i : ℕ) → b ≤ i → i < e → p i ≡ false
none_some b e p h i l u = is_false (p i) (λ q. false_not (some_from b e p) h (some_intro b e p i l u q))

-- ranges that hold the same passing cycles
pub some_same : (b e b' e' : ℕ) (p q : ℕ → Bool) → ((i : ℕ) → b ≤ i → i < e → p i ≡ true → (b' ≤ i) × (i < e') × (q i ≡ true))
    → ((i : ℕ) → b' ≤ i → i < e' → q i ≡ true → (b ≤ i) × (i < e) × (p i ≡ true)) → some_from b e p ≡ some_from b' e' q
some_same b e b' e' p q f g =
    same (some_from b e p) (some_from b' e' q)
    (λ h. let w = some_elim b e p h in let r = f w.at w.low w.high w.ok in some_intro b' e' q w.at r.0 r.1 r.2)
    (λ h. let w = some_elim b' e' q h in let r = g w.at w.low w.high w.ok in some_intro b e p w.at r.0 r.1 r.2)

pub some_cong : (b e : ℕ) (p q : ℕ → Bool) → ((i : ℕ) → b ≤ i → i < e → p i ≡ q i) → some_from b e p ≡ some_from b e q
some_cong b e p q f =
    some_same b e b e p q (λ i l h r. (l, h, sym (f i l h) ∙ r)) (λ i l h r. (l, h, f i l h ∙ r))

pub every_cong : (b e : ℕ) (p q : ℕ → Bool) → ((i : ℕ) → b ≤ i → i < e → p i ≡ q i)
    → not (some_from b e (λ i. not (p i))) ≡ not (some_from b e (λ i. not (q i)))
every_cong b e p q f = ap not (some_cong b e (λ i. not (p i)) (λ i. not (q i)) (λ i l h. ap not (f i l h)))

-- ---- counts
pub count_below_cong : (n : ℕ) (p q : ℕ → Bool) → ((i : ℕ) → i < n → p i ≡ q i) → count_below n p ≡ count_below n q
unfolding count_below
count_below_cong zero p q f = refl
count_below_cong (suc n) p q f =
    ap₂ (λ (x : ℕ) (a : Bool). x + cond a 1 0) (count_below_cong n p q (λ i h. f i (omega arith))) (f n (omega arith))

pub and_cong : (a p q : Bool) → (a ≡ true → p ≡ q) → a && p ≡ (a && q)
and_cong true p q f = f refl
and_cong false p q f = refl

pub count_cong : (b e : ℕ) (p q : ℕ → Bool) → ((i : ℕ) → b ≤ i → i < e → p i ≡ q i) → count_from b e p ≡ count_from b e q
unfolding count_from
count_cong b e p q f =
    count_below_cong e (λ i. leb b i && p i) (λ i. leb b i && q i)
    (λ i h. and_cong (leb b i) (p i) (q i) (λ l. f i (leb-true b i l) h))

-- the lowest cycle first
pub count_most : (n : ℕ) (p : ℕ → Bool) → count_below n p ≤ n
unfolding count_below
count_most zero p = omega arith
count_most (suc n) p = let rest = count_most n p in go (p n) rest
  where
    go : (b : Bool) → count_below n p ≤ n → count_below n p + cond b 1 0 ≤ suc n
    go true h = omega arith
    go false h = omega arith

pub count_first : (n : ℕ) (p : ℕ → Bool) → count_below (suc n) p ≡ cond (p 0) 1 0 + count_below n (λ i. p (suc i))
unfolding count_below
count_first zero p = omega arith
count_first (suc n) p = let h = count_first n p in omega arith

-- with more cycles no fewer pass
pub count_grows : (m n : ℕ) (p : ℕ → Bool) → n ≤ m → count_below n p ≤ count_below m p
unfolding count_below
count_grows zero n p l = let z : n ≡ 0 = omega arith in rw z (omega arith)
count_grows (suc m) n p l =
    elim (eq-or-lt_of_le l) [
      | inl e ↦ (let z = ap (λ (k : ℕ). count_below k p) e in omega arith)
      | inr d ↦ (let h = count_grows m n p (le_of_suc-le-suc d) in omega arith)
    ]

-- exactly one cycle passes
pub record One (b e : ℕ) (p : ℕ → Bool) : Type 0 where
  pub at : ℕ
  pub low : b ≤ at
  pub high : at < e
  pub ok : p at ≡ true
  pub alone : (i : ℕ) → b ≤ i → i < e → p i ≡ true → i ≡ at

pub count_none : (n : ℕ) (p : ℕ → Bool) → ((i : ℕ) → i < n → p i ≡ false) → count_below n p ≡ 0
unfolding count_below
count_none zero p f = refl
count_none (suc n) p f = rw (count_none n p (λ i h. f i (omega arith)), f n (omega arith))

none_count : (n : ℕ) (p : ℕ → Bool) → count_below n p ≡ 0 → (i : ℕ) → i < n → p i ≡ false
unfolding count_below
none_count zero p h i l = absurd (not-suc-le-zero l)
none_count (suc n) p h i l = go (p n) refl (λ z k. none_count n p z i k)
  where
    go : (a : Bool) → p n ≡ a → (count_below n p ≡ 0 → i < n → p i ≡ false) → p i ≡ false
    go true e f = absurd (let z : count_below n p + 1 ≡ 0 = rw e at h in omega arith)
    go false e f =
        let z : count_below n p + 0 ≡ 0 = rw e at h in
        elim (eq-or-lt_of_le (le_of_suc-le-suc l)) [ inl q ↦ rw q e | inr r ↦ f (omega arith) r ]

one_below : (n : ℕ) (p : ℕ → Bool) → One 0 n p → count_below n p ≡ 1
unfolding count_below
one_below zero p w = absurd (not-suc-le-zero w.high)
one_below (suc n) p w = go (eq-or-lt_of_le (le_of_suc-le-suc w.high)) (λ v. one_below n p v)
  where
    go : (w.at ≡ n) ⊎ (w.at < n) → (One 0 n p → count_below n p ≡ 1) → count_below n p + cond (p n) 1 0 ≡ 1
    go (inl e) f =
        let rest : count_below n p ≡ 0 =
        count_none n p (λ i h. is_false (p i) (λ q. let x = w.alone i (omega arith) (omega arith) q in omega arith)) in
        let here : p n ≡ true = rw e at w.ok in
        rw (rest, here)
    go (inr l) f =
        let rest = f (record {
          at = w.at;
          low = w.low;
          high = l;
          ok = w.ok;
          alone = λ i b h q. w.alone i b (omega arith) q;
        }) in
        let here : p n ≡ false = is_false (p n) (λ q. let x = w.alone n (omega arith) (omega arith) q in omega arith) in
        rw (rest, here)

below_one : (n : ℕ) (p : ℕ → Bool) → count_below n p ≡ 1 → One 0 n p
unfolding count_below
below_one zero p h = absurd (omega (arith, h))
below_one (suc n) p h = go (p n) refl (λ z. below_one n p z)
  where
    go : (a : Bool) → p n ≡ a → (count_below n p ≡ 1 → One 0 n p) → One 0 (suc n) p
    go true e f =
        let z : count_below n p + 1 ≡ 1 = rw e at h in
        record {
          at = n;
          low = omega arith;
          high = omega arith;
          ok = e;
          alone = λ i b l q.
              elim (eq-or-lt_of_le (le_of_suc-le-suc l))
              [ inl x ↦ x | inr x ↦ absurd (false_not (p i) (none_count n p (omega arith) i x) q) ];
        }
    go false e f =
        let z : count_below n p + 0 ≡ 1 = rw e at h in
        let w = f (omega arith) in
        record {
          at = w.at;
          low = w.low;
          high = omega arith;
          ok = w.ok;
          alone = λ i b l q.
              elim (eq-or-lt_of_le (le_of_suc-le-suc l))
              [ inl x ↦ absurd (false_not (p i) (rw x e) q) | inr x ↦ w.alone i b x q ];
        }

pub one_intro : (b e : ℕ) (p : ℕ → Bool) → One b e p → count_from b e p ≡ 1
unfolding count_from
one_intro b e p w =
    one_below e (λ i. leb b i && p i)
    (record {
      at = w.at;
      low = omega arith;
      high = w.high;
      ok = and_intro (leb b w.at) (p w.at) (le-leb b w.at w.low) w.ok;
      alone = λ i l h q. w.alone i (leb-true b i (and_left (leb b i) (p i) q)) h (and_right (leb b i) (p i) q);
    })

pub one_elim : (b e : ℕ) (p : ℕ → Bool) → count_from b e p ≡ 1 → One b e p
unfolding count_from
one_elim b e p h =
    let w = below_one e (λ i. leb b i && p i) h in
    record {
      at = w.at;
      low = leb-true b w.at (and_left (leb b w.at) (p w.at) w.ok);
      high = w.high;
      ok = and_right (leb b w.at) (p w.at) w.ok;
      alone = λ i l k q. w.alone i (omega arith) k (and_intro (leb b i) (p i) (le-leb b i l) q);
    }

-- ---- the least cycle that passes
pub record Least (n : ℕ) (p : ℕ → Bool) (r : ℕ) : Type 0 where
  pub high : r < n
  pub ok : p r ≡ true
  pub before : (i : ℕ) → i < r → p i ≡ false

pub first_least : (n : ℕ) (p : ℕ → Bool) → some_below n p ≡ true → Least n p (first_below n p)
unfolding first_below
first_least zero p h = absurd (not-suc-le-zero (below_elim 0 p h).high)
first_least (suc n) p h = go (p 0) refl (λ z. first_least n (λ i. p (suc i)) z)
  where
    later : Witness 0 (suc n) p → p 0 ≡ false → some_below n (λ i. p (suc i)) ≡ true
    later w e = from w.at w.high w.ok
      where
        from : (i : ℕ) → i < suc n → p i ≡ true → some_below n (λ i. p (suc i)) ≡ true
        from zero l q = absurd (false_not (p 0) e q)
        from (suc i) l q = below_intro n (λ i. p (suc i)) i (le_of_suc-le-suc l) q

    go : (a : Bool) → p 0 ≡ a → (some_below n (λ i. p (suc i)) ≡ true → Least n (λ i. p (suc i)) (first_below n (λ i. p (suc i))))
        → Least (suc n) p (cond a 0 (suc (first_below n (λ i. p (suc i)))))
    go true e f = record { high = omega arith; ok = e; before = λ i l. absurd (not-suc-le-zero l) }
    go false e f =
        let w = f (later (below_elim (suc n) p h) e) in
        record { high = omega arith; ok = w.ok; before = lower w }
      where
        lower : Least n (λ i. p (suc i)) (first_below n (λ i. p (suc i))) → (i : ℕ) → i < suc (first_below n (λ i. p (suc i))) → p i ≡ false
        lower w zero l = e
        lower w (suc i) l = w.before i (le_of_suc-le-suc l)

-- ---- columns
-- the column that a test gives
unfoldable pub column : ℕ → (ℕ → Bool) → List Bool
column zero q = []
column (suc n) q = q 0 ∷ column n (λ t. q (suc t))

pub column_at_lem : (n : ℕ) (q : ℕ → Bool) (t : ℕ) → t < n → get_or (column n q) t false ≡ q t
unfolding column
column_at_lem zero q t h = absurd (not-suc-le-zero h)
column_at_lem (suc n) q zero h = refl
column_at_lem (suc n) q (suc t) h = column_at_lem n (λ t. q (suc t)) t (le_of_suc-le-suc h)

pub column_intro : (n : ℕ) (p : List Bool → Bool) (q : ℕ → Bool) → p (column n q) ≡ true → some_column n p ≡ true
unfolding column some_column
column_intro zero p q h = h
column_intro (suc n) p q h = go (q 0) h (λ r. column_intro n r (λ t. q (suc t)))
  where
    go : (a : Bool) → p (a ∷ column n (λ t. q (suc t))) ≡ true
        → ((r : List Bool → Bool) → r (column n (λ t. q (suc t))) ≡ true → some_column n r ≡ true)
        → some_column n (λ c. p (false ∷ c)) || some_column n (λ c. p (true ∷ c)) ≡ true
    go false h f = or_left (some_column n (λ c. p (false ∷ c))) (some_column n (λ c. p (true ∷ c))) (f (λ c. p (false ∷ c)) h)
    go true h f = or_right (some_column n (λ c. p (false ∷ c))) (some_column n (λ c. p (true ∷ c))) (f (λ c. p (true ∷ c)) h)

pub column_elim : (n : ℕ) (p : List Bool → Bool) → some_column n p ≡ true → (c : List Bool) × (p c ≡ true)
unfolding some_column
column_elim zero p h = ([], h)
column_elim (suc n) p h =
    elim (or_elim (some_column n (λ c. p (false ∷ c))) (some_column n (λ c. p (true ∷ c))) h) [
      | inl l ↦ let w = column_elim n (λ c. p (false ∷ c)) l in (false ∷ w.0, w.1)
      | inr r ↦ let w = column_elim n (λ c. p (true ∷ c)) r in (true ∷ w.0, w.1)
    ]
