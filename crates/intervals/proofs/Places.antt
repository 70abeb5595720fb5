-- Laws of least places.
use Rattle.std.proofs.Common.{ℕ, suc, ◌/◌, ◌%◌, ◌≤◌, ◌<◌, min, arith, eq-or-lt_of_le, Bool, true, false, ◌&&◌, ◌||◌, inl, inr, ◌≡◌, refl, sym, ap, subst, ◌∙◌, ltb, length, ltb-true, ltb-false, lt-ltb}
use Rattle.semantics.specs.Cycles.{some_below, some_from}
use Rattle.semantics.specs.Proposition.{Trace}
use Rattle.semantics.specs.Clause.{Clause, breaks, fails}
use Rattle.semantics.specs.Verdict.{Place, first_place}
use Rattle.semantics.proofs.Tests.{same, test, is_false, false_not, and_intro, and_left, and_right, or_left, or_right, or_elim}
use Rattle.semantics.proofs.Cycles.{some_intro, some_elim, below_intro}
use Rattle.semantics.proofs.Verdict.{FirstPlace, Sooner, place_first}
use Rattle.intervals.specs.Places.{places, number, numbered, IsLeast}

pub least_ext : {bound : ℕ} {p q : ℕ → Bool} {r : ℕ} → ((x : ℕ) → x < bound → p x ≡ q x) → IsLeast bound p r → IsLeast bound q r
least_ext f l =
    record {
      most = l.most;
      found = λ h. sym (f _ h) ∙ l.found h;
      before = λ x h. sym (f x (omega (arith, l.most))) ∙ l.before x h;
    }

-- nothing passes below the bound
pub least_stay : {bound : ℕ} {p : ℕ → Bool} → ((x : ℕ) → x < bound → p x ≡ false) → IsLeast bound p bound
least_stay f = record { most = omega arith; found = λ h. absurd (omega arith); before = f }

-- the least by a second test, looked for below the least by the first
pub least_then : {bound r t : ℕ} {p q : ℕ → Bool} → IsLeast bound p r → IsLeast r q t → IsLeast bound (λ x. p x || q x) t
least_then {bound} {r} {t} {p} {q} a b =
    record {
      most = let l = a.most in let m = b.most in omega arith;
      found = λ h. elim (eq-or-lt_of_le b.most) [
        | inl e ↦ or_left (p t) (q t) (subst (λ (x : ℕ). p x ≡ true) (sym e) (a.found (omega arith)))
        | inr l ↦ or_right (p t) (q t) (b.found l)
      ];
      before = λ x l. rw (a.before x (let m = b.most in omega arith)) (b.before x l);
    }

-- the least of all, looked for below a bound
pub least_below : {bound r : ℕ} {p : ℕ → Bool} (best : ℕ) → best ≤ bound → IsLeast bound p r → IsLeast best p (min r best)
least_below {bound} {r} {p} best h l =
    elim (test (ltb r best)) [
      | inl q ↦
          let m = ltb-true r best q in
          let e : min r best ≡ r = omega arith in
          rw e (record { most = omega arith; found = λ _. l.found (omega arith); before = l.before })
      | inr q ↦
          let m = ltb-false r best q in
          let e : min r best ≡ best = omega arith in
          rw e (least_stay (λ x y. l.before x (omega arith)))
    ]

-- one more turn of a loop over cycles
pub some_step : (b e : ℕ) (p : ℕ → Bool) → b ≤ e → some_from b (suc e) p ≡ (some_from b e p || p e)
some_step b e p h =
    same (some_from b (suc e) p) (some_from b e p || p e)
    (λ q. let w = some_elim b (suc e) p q in
    let o : w.at ≤ e = omega (arith, w.high) in
    elim (eq-or-lt_of_le o) [
      | inl d ↦ or_right (some_from b e p) (p e) (subst (λ (t : ℕ). p t ≡ true) d w.ok)
      | inr l ↦ or_left (some_from b e p) (p e) (some_intro b e p w.at w.low l w.ok)
    ])
    (λ q. elim (or_elim (some_from b e p) (p e) q) [
      | inl l ↦ let w = some_elim b e p l in some_intro b (suc e) p w.at w.low (omega (arith, w.high)) w.ok
      | inr l ↦ some_intro b (suc e) p e h (omega arith) l
    ])

-- the number of a place, and back
pub decoded : (i j k : ℕ) → j < 64 → k < 64 → (number i j k / 4096 ≡ i) × (number i j k / 64 % 64 ≡ j) × (number i j k % 64 ≡ k)
decoded i j k hj hk = ((omega arith), (omega arith), (omega arith))

numbered_at : (n : ℕ) (p : ℕ → ℕ → ℕ → Bool) (i j k : ℕ) → j < 64 → k < 64
    → numbered n p (number i j k) ≡ (ltb i n && (ltb j n && ltb k n) && p i j k)
unfolding numbered
numbered_at n p i j k hj hk = let d = decoded i j k hj hk in rw (d.0, d.1, d.2)

record Named (n : ℕ) (p : ℕ → ℕ → ℕ → Bool) (x : ℕ) : Type 0 where
  pub i_below : x / 4096 < n
  pub j_below : x / 64 % 64 < n
  pub k_below : x % 64 < n
  pub ok : p (x / 4096) (x / 64 % 64) (x % 64) ≡ true

numbered_elim : (n : ℕ) (p : ℕ → ℕ → ℕ → Bool) (x : ℕ) → numbered n p x ≡ true → Named n p x
unfolding numbered
numbered_elim n p x h =
    let i = x / 4096 in
    let j = x / 64 % 64 in
    let k = x % 64 in
    let r = and_left (ltb i n && (ltb j n && ltb k n)) (p i j k) h in
    let s = and_right (ltb i n) (ltb j n && ltb k n) r in
    record {
      i_below = ltb-true i n (and_left (ltb i n) (ltb j n && ltb k n) r);
      j_below = ltb-true j n (and_left (ltb j n) (ltb k n) s);
      k_below = ltb-true k n (and_right (ltb j n) (ltb k n) s);
      ok = and_right (ltb i n && (ltb j n && ltb k n)) (p i j k) h;
    }

pub numbered_false : (n : ℕ) (p : ℕ → ℕ → ℕ → Bool) (x : ℕ)
    → (x / 4096 < n → x / 64 % 64 < n → x % 64 < n → p (x / 4096) (x / 64 % 64) (x % 64) ≡ false) → numbered n p x ≡ false
numbered_false n p x f =
    is_false (numbered n p x) (λ q.
    let v = numbered_elim n p x q in
    false_not (p (x / 4096) (x / 64 % 64) (x % 64)) (f v.i_below v.j_below v.k_below) v.ok)

pub numbered_same : (n : ℕ) (p q : ℕ → ℕ → ℕ → Bool) (x : ℕ)
    → (x / 4096 < n → x / 64 % 64 < n → x % 64 < n → p (x / 4096) (x / 64 % 64) (x % 64) ≡ q (x / 4096) (x / 64 % 64) (x % 64))
    → numbered n p x ≡ numbered n q x
unfolding numbered
numbered_same n p q x f = go (ltb (x / 4096) n) (ltb (x / 64 % 64) n) (ltb (x % 64) n) refl refl refl
  where
    go : (a b c : Bool) → ltb (x / 4096) n ≡ a → ltb (x / 64 % 64) n ≡ b → ltb (x % 64) n ≡ c
        → a && (b && c) && p (x / 4096) (x / 64 % 64) (x % 64) ≡ (a && (b && c) && q (x / 4096) (x / 64 % 64) (x % 64))
    go true true true d e g = f (ltb-true (x / 4096) n d) (ltb-true (x / 64 % 64) n e) (ltb-true (x % 64) n g)
    go true true false d e g = refl
    go true false c d e g = refl
    go false b c d e g = refl

pub numbered_fewer : (n : ℕ) (p q : ℕ → ℕ → ℕ → Bool) → ((i j k : ℕ) → p i j k ≡ false → q i j k ≡ false)
    → (x : ℕ) → numbered n p x ≡ false → numbered n q x ≡ false
unfolding numbered
numbered_fewer n p q f x = go (ltb (x / 4096) n && (ltb (x / 64 % 64) n && ltb (x % 64) n))
  where
    go : (a : Bool) → a && p (x / 4096) (x / 64 % 64) (x % 64) ≡ false → a && q (x / 4096) (x / 64 % 64) (x % 64) ≡ false
    go true h = f (x / 4096) (x / 64 % 64) (x % 64) h
    go false h = refl

-- the first place by i, then j, then k has the least number
pub first_is_least : (n : ℕ) (p : ℕ → ℕ → ℕ → Bool) (i j k : ℕ) → n ≤ 64 → FirstPlace n p i j k → IsLeast places (numbered n p) (number i j k)
first_is_least n p i j k h w =
    record {
      most = omega (arith, w.i_cycle, w.j_cycle, w.k_cycle);
      found = λ l.
          numbered_at n p i j k (omega (arith, w.j_cycle)) (omega (arith, w.k_cycle))
          ∙ and_intro (ltb i n && (ltb j n && ltb k n)) (p i j k)
          (and_intro (ltb i n) (ltb j n && ltb k n) (lt-ltb i n w.i_cycle)
          (and_intro (ltb j n) (ltb k n) (lt-ltb j n w.j_cycle) (lt-ltb k n w.k_cycle)))
          w.ok;
      before = λ x l. is_false (numbered n p x) (λ q.
          let v = numbered_elim n p x q in
          false_not (p (x / 4096) (x / 64 % 64) (x % 64))
          (w.before (x / 4096) (x / 64 % 64) (x % 64) v.j_below v.k_below
          (sooner x l (omega (arith, w.j_cycle)) (omega (arith, w.k_cycle))))
          v.ok);
    }
  where
    sooner : (x : ℕ) → x < number i j k → j < 64 → k < 64 → Sooner (x / 4096) (x / 64 % 64) (x % 64) i j k
    sooner x l hj hk =
        let a : x / 4096 ≤ i = omega arith in
        elim (eq-or-lt_of_le a) [
          | inl e ↦
              let b : x / 64 % 64 ≤ j = omega arith in
              inr (e, elim (eq-or-lt_of_le b) [ inl d ↦ inr (d, (omega arith)) | inr m ↦ inl m ])
          | inr m ↦ inl m
        ]

pub least_unique : {bound : ℕ} {p : ℕ → Bool} {r t : ℕ} → IsLeast bound p r → IsLeast bound p t → r ≡ t
least_unique {p = p} {r} {t} a b =
    elim (test (ltb r t)) [
      | inl h ↦
          let l = ltb-true r t h in
          absurd (false_not (p r) (b.before r l) (a.found (omega (arith, b.most))))
      | inr h ↦
          elim (test (ltb t r)) [
            | inl k ↦
                let l = ltb-true t r k in
                absurd (false_not (p t) (a.before t l) (b.found (omega (arith, a.most))))
            | inr k ↦ omega (arith, ltb-false r t h, ltb-false t r k)
          ]
    ]

same_place : (clause i j k i' j' k' : ℕ) → i ≡ i' → j ≡ j' → k ≡ k'
    → ◌≡◌ {A = Place} (record { clause = clause; i = i; j = j; k = k }) (record { clause = clause; i = i'; j = j'; k = k' })
same_place clause i j k i' j' k' p q r = λ t. record { clause = clause; i = p t; j = q t; k = r t }

-- what the least place of a clause says of it
module _ (c : Clause) (σ : Trace) (short : length σ ≤ 64) (r : ℕ) (l : IsLeast places (numbered (length σ) (breaks c σ)) r) where
  pub fails_least : fails c σ ≡ ltb r places
  unfolding fails
  fails_least =
      same (fails c σ) (ltb r places)
      (λ h. let w = place_first 0 (length σ) (breaks c σ) h in
      let e = least_unique l (first_is_least (length σ) (breaks c σ) _ _ _ short w) in
      lt-ltb r places (omega (arith, e, w.i_cycle, w.j_cycle, w.k_cycle)))
      (λ h. let v = numbered_elim (length σ) (breaks c σ) r (l.found (ltb-true r places h)) in
      below_intro (length σ) (λ i. some_below (length σ) (λ j. some_below (length σ) (λ k. breaks c σ i j k))) (r / 4096) v.i_below
      (below_intro (length σ) (λ j. some_below (length σ) (λ k. breaks c σ (r / 4096) j k)) (r / 64 % 64) v.j_below
      (below_intro (length σ) (λ k. breaks c σ (r / 4096) (r / 64 % 64) k) (r % 64) v.k_below v.ok)))

  pub place_least : (clause : ℕ) → r < places
      → first_place clause (length σ) (breaks c σ) ≡ record { clause = clause; i = r / 4096; j = r / 64 % 64; k = r % 64 }
  unfolding first_place fails
  place_least clause h =
      let w = place_first clause (length σ) (breaks c σ) (fails_least ∙ lt-ltb r places h) in
      let e = least_unique l (first_is_least (length σ) (breaks c σ) _ _ _ short w) in
      let d = decoded place.i place.j place.k (omega (arith, w.j_cycle)) (omega (arith, w.k_cycle)) in
      same_place clause _ _ _ _ _ _ (sym d.0 ∙ ap (λ (x : ℕ). x / 4096) (sym e)) (sym d.1 ∙ ap (λ (x : ℕ). x / 64 % 64) (sym e))
      (sym d.2 ∙ ap (λ (x : ℕ). x % 64) (sym e))
    where
      place : Place
      place = first_place clause (length σ) (breaks c σ)
