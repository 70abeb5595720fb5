-- Laws of words and rows.
use Rattle.std.proofs.Common.{ℕ, zero, suc, ◌+◌, ◌-◌, ◌^◌, ◌≤◌, ◌<◌, Bool, true, false, not, cond, ◌&&◌, ◌||◌, inl, inr, ◌≡◌, refl, sym, ap, ap₂, ◌∙◌, lt_of_lt_of_le, lt_of_le_of_lt, pow-suc, arith, leb, ltb, eqb, pow_pos, pow_mono, bit_and, bit_or, ltb-true, ltb-false, leb-true, lt-ltb, le-leb, eqb-true}
use lib.Bits.{and_le_l, and_lt, or_lt}
use borrow.Author.Tests.{eqb-false}
use Rattle.semantics.specs.Proposition.{bit}
use Rattle.rows.specs.Row.{word, row, always}
use Rattle.semantics.proofs.Tests.{same, test, false_not, both, and_left, and_right, or_left, or_right, or_elim}
use Rattle.semantics.proofs.Bits.{bit_lowest, bit_higher}
use Rattle.rows.proofs.Bits.{bit_above, bit_and_lem, bit_or_lem, bit_not, bit_nothing, same_bits}

one_bit : (c : Bool) → cond c 1 0 < 2
one_bit true = omega arith
one_bit false = omega arith

pub word_small : (n : ℕ) (p : ℕ → Bool) → word n p < 2 ^ n
unfolding word
word_small zero p = omega arith
word_small (suc n) p =
    let q = pow-suc 2 n in
    let h = word_small n (λ k. p (suc k)) in
    let d = one_bit (p 0) in
    omega arith

pub word_bit : (n : ℕ) (p : ℕ → Bool) (k : ℕ) → k < n → bit (word n p) k ≡ p k
unfolding word
word_bit zero p k l = absurd (omega arith)
word_bit (suc n) p zero l = bit_lowest (word n (λ k. p (suc k))) (p 0)
word_bit (suc n) p (suc k) l = bit_higher (word n (λ k. p (suc k))) (p 0) k ∙ word_bit n (λ k. p (suc k)) k (omega arith)

pub word_above : (n : ℕ) (p : ℕ → Bool) (k : ℕ) → n ≤ k → bit (word n p) k ≡ false
word_above n p k l = bit_above n (word n p) k (word_small n p) l

pub is_word_lem : (n a : ℕ) (p : ℕ → Bool) → a < 2 ^ n → ((k : ℕ) → k < n → bit a k ≡ p k) → a ≡ word n p
is_word_lem n a p h f = same_bits n a (word n p) h (word_small n p) (λ k l. f k l ∙ sym (word_bit n p k l))

pub word_ext : (n : ℕ) (p q : ℕ → Bool) → ((k : ℕ) → k < n → p k ≡ q k) → word n p ≡ word n q
word_ext n p q f = is_word_lem n (word n p) q (word_small n p) (λ k l. word_bit n p k l ∙ f k l)

-- what fits n bits fits w
pub wider : (n w a : ℕ) → n ≤ w → a < 2 ^ n → a < 2 ^ w
wider n w a l h = lt_of_lt_of_le h (pow_mono l)

pub word_all : (n : ℕ) (p : ℕ → Bool) (k : ℕ) → bit (word n p) k ≡ (ltb k n && p k)
word_all n p k =
    elim (test (ltb k n)) [
      | inl t ↦ word_bit n p k (ltb-true k n t) ∙ ap (λ (c : Bool). c && p k) (sym t)
      | inr t ↦ word_above n p k (ltb-false k n t) ∙ ap (λ (c : Bool). c && p k) (sym t)
    ]

-- a word of w bits that is a word of n
pub is_word_in : (w n a : ℕ) (p : ℕ → Bool) → n ≤ w → a < 2 ^ w → ((k : ℕ) → k < w → bit a k ≡ (ltb k n && p k)) → a ≡ word n p
is_word_in w n a p l h f =
    same_bits w a (word n p) h (wider n w (word n p) l (word_small n p)) (λ k m. f k m ∙ sym (word_all n p k))

pub word_and : (n : ℕ) (p q : ℕ → Bool) → bit_and (word n p) (word n q) ≡ word n (λ k. p k && q k)
word_and n p q =
    is_word_lem n (bit_and (word n p) (word n q)) (λ k. p k && q k) (and_lt n (word n p) (word n q) (word_small n p) (word_small n q))
    (λ k l. bit_and_lem (word n p) (word n q) k ∙ ap₂ (λ (x y : Bool). x && y) (word_bit n p k l) (word_bit n q k l))

pub word_or : (n : ℕ) (p q : ℕ → Bool) → bit_or (word n p) (word n q) ≡ word n (λ k. p k || q k)
word_or n p q =
    is_word_lem n (bit_or (word n p) (word n q)) (λ k. p k || q k) (or_lt n (word n p) (word n q) (word_small n p) (word_small n q))
    (λ k l. bit_or_lem (word n p) (word n q) k ∙ ap₂ (λ (x y : Bool). x || y) (word_bit n p k l) (word_bit n q k l))

-- the complement within n of w bits
pub word_not : (w n : ℕ) (p : ℕ → Bool) → n ≤ w → bit_and (word w (λ k. ltb k n)) (2 ^ w - 1 - word n p) ≡ word n (λ k. not (p k))
word_not w n p l =
    is_word_in w n (bit_and (word w (λ k. ltb k n)) (2 ^ w - 1 - word n p)) (λ k. not (p k)) l
    (lt_of_le_of_lt (and_le_l (word w (λ k. ltb k n)) (2 ^ w - 1 - word n p)) (word_small w (λ k. ltb k n)))
    (λ k m. bit_and_lem (word w (λ k. ltb k n)) (2 ^ w - 1 - word n p) k
    ∙ ap₂ (λ (x y : Bool). x && y) (word_bit w (λ k. ltb k n) k m) (bit_not w (word n p) k (wider n w (word n p) l (word_small n p)) m)
    ∙ within k)
  where
    within : (k : ℕ) → (ltb k n && not (bit (word n p) k)) ≡ (ltb k n && not (p k))
    within k =
        elim (test (ltb k n)) [
          | inl t ↦ ap (λ (c : Bool). ltb k n && not c) (word_bit n p k (ltb-true k n t))
          | inr t ↦ ap (λ (c : Bool). c && not (bit (word n p) k)) t ∙ ap (λ (c : Bool). c && not (p k)) (sym t)
        ]

-- a word grows by a bit
pub word_set : (w n : ℕ) (p : ℕ → Bool) → n < w → p n ≡ true → bit_or (word n p) (word w (eqb n)) ≡ word (n + 1) p
word_set w n p l t =
    is_word_in w (n + 1) (bit_or (word n p) (word w (eqb n))) p (omega arith)
    (or_lt w (word n p) (word w (eqb n)) (wider n w (word n p) (omega arith) (word_small n p)) (word_small w (eqb n)))
    (λ k m. bit_or_lem (word n p) (word w (eqb n)) k ∙ ap₂ (λ (x y : Bool). x || y) (word_all n p k) (word_bit w (eqb n) k m)
    ∙ same ((ltb k n && p k) || eqb n k) (ltb k (n + 1) && p k)
    (λ s. elim (or_elim (ltb k n && p k) (eqb n k) s) [
      | inl a ↦ (
          let x = ltb-true k n (and_left (ltb k n) (p k) a) in
          both (lt-ltb k (n + 1) (omega arith)) (and_right (ltb k n) (p k) a))
      | inr a ↦ (
          let x = eqb-true n k a in
          both (lt-ltb k (n + 1) (omega arith)) (ap p (sym x) ∙ t))
    ])
    (λ s. elim (test (eqb n k)) [
      | inl a ↦ or_right (ltb k n && p k) (eqb n k) a
      | inr a ↦ (
          let d = eqb-false n k a in
          let x = ltb-true k (n + 1) (and_left (ltb k (n + 1)) (p k) s) in
          or_left (ltb k n && p k) (eqb n k) (both (lt-ltb k n (omega arith)) (and_right (ltb k (n + 1)) (p k) s)))
    ]))

pub word_unset : (n : ℕ) (p : ℕ → Bool) → p n ≡ false → word n p ≡ word (n + 1) p
word_unset n p t =
    is_word_lem (n + 1) (word n p) p (wider n (n + 1) (word n p) (omega arith) (word_small n p))
    (λ k l. elim (test (eqb n k)) [
      | inl a ↦ (
          let x = eqb-true n k a in
          word_above n p k (omega arith) ∙ sym (ap p (sym x) ∙ t))
      | inr a ↦ (
          let d = eqb-false n k a in
          word_bit n p k (omega arith))
    ])

-- ---- rows

pub row_small : (n : ℕ) (h : ℕ → ℕ → Bool) (b : ℕ) → row n h b < 2 ^ n
unfolding row
row_small n h b = word_small n (λ e. leb b e && h b e)

pub row_bit : (n : ℕ) (h : ℕ → ℕ → Bool) (b e : ℕ) → bit (row n h b) e ≡ (ltb e n && (leb b e && h b e))
unfolding row
row_bit n h b e = word_all n (λ e. leb b e && h b e) e

-- inside its cycles a row is its test
pub row_at_lem : (n : ℕ) (h : ℕ → ℕ → Bool) (b e : ℕ) → b ≤ e → e < n → bit (row n h b) e ≡ h b e
row_at_lem n h b e l m = row_bit n h b e ∙ ap₂ (λ (x y : Bool). x && (y && h b e)) (lt-ltb e n m) (le-leb b e l)

-- a set bit of a row
pub record SetBit (n : ℕ) (h : ℕ → ℕ → Bool) (b e : ℕ) : Type 0 where
  pub low : b ≤ e
  pub high : e < n
  pub ok : h b e ≡ true

pub set_elim : (n : ℕ) (h : ℕ → ℕ → Bool) (b e : ℕ) → bit (row n h b) e ≡ true → SetBit n h b e
set_elim n h b e t =
    let all = sym (row_bit n h b e) ∙ t in
    let rest = and_right (ltb e n) (leb b e && h b e) all in
    record {
      low = leb-true b e (and_left (leb b e) (h b e) rest);
      high = ltb-true e n (and_left (ltb e n) (leb b e && h b e) all);
      ok = and_right (leb b e) (h b e) rest;
    }

pub set_intro : (n : ℕ) (h : ℕ → ℕ → Bool) (b e : ℕ) → SetBit n h b e → bit (row n h b) e ≡ true
set_intro n h b e s = row_at_lem n h b e s.low s.high ∙ s.ok

-- a word of w bits is a row if its set bits are those of the row
pub is_row : (w n a : ℕ) (h : ℕ → ℕ → Bool) (b : ℕ) → n ≤ w → a < 2 ^ w
    → ((e : ℕ) → e < w → bit a e ≡ true → SetBit n h b e) → ((e : ℕ) → SetBit n h b e → bit a e ≡ true) → a ≡ row n h b
is_row w n a h b l m f g =
    same_bits w a (row n h b) m (wider n w (row n h b) l (row_small n h b))
    (λ e k. same (bit a e) (bit (row n h b) e) (λ t. set_intro n h b e (f e k t)) (λ t. g e (set_elim n h b e t)))

pub row_ext : (n : ℕ) (h g : ℕ → ℕ → Bool) (b : ℕ) → ((e : ℕ) → b ≤ e → e < n → h b e ≡ g b e) → row n h b ≡ row n g b
row_ext n h g b f =
    is_row n n (row n h b) g b (omega arith) (row_small n h b)
    (λ e k t. let s = set_elim n h b e t in record { low = s.low; high = s.high; ok = sym (f e s.low s.high) ∙ s.ok })
    (λ e s. set_intro n h b e (record { low = s.low; high = s.high; ok = f e s.low s.high ∙ s.ok }))

-- the cycles from b, masked by a word that agrees with the test there
pub masked_row : (n x : ℕ) (h : ℕ → ℕ → Bool) (b : ℕ) → ((e : ℕ) → b ≤ e → e < n → bit x e ≡ h b e) → bit_and (row n always b) x ≡ row n h b
masked_row n x h b f =
    is_row n n (bit_and (row n always b) x) h b (omega arith) (lt_of_le_of_lt (and_le_l (row n always b) x) (row_small n always b))
    (λ e k t.
    let both' = sym (bit_and_lem (row n always b) x e) ∙ t in
    let s = set_elim n always b e (and_left (bit (row n always b) e) (bit x e) both') in
    record { low = s.low; high = s.high; ok = sym (f e s.low s.high) ∙ and_right (bit (row n always b) e) (bit x e) both' })
    (λ e s.
    bit_and_lem (row n always b) x e
    ∙ both (set_intro n always b e (record { low = s.low; high = s.high; ok = refl })) (f e s.low s.high ∙ s.ok))

pub row_none : (n : ℕ) (h : ℕ → ℕ → Bool) (b : ℕ) → ((e : ℕ) → b ≤ e → e < n → h b e ≡ false) → 0 ≡ row n h b
row_none n h b f =
    is_row n n 0 h b (omega arith) (pow_pos n)
    (λ e l t. absurd (false_not (bit 0 e) (bit_nothing e) t))
    (λ e s. absurd (false_not (h b e) (f e s.low s.high) s.ok))

-- no interval starts past the last cycle
pub row_past : (n : ℕ) (h : ℕ → ℕ → Bool) (b : ℕ) → n ≤ b → 0 ≡ row n h b
row_past n h b l = row_none n h b (λ e x y. absurd (omega arith))

-- rows joined by and, or
pub row_and : (n : ℕ) (h g : ℕ → ℕ → Bool) (b : ℕ) → bit_and (row n h b) (row n g b) ≡ row n (λ b e. h b e && g b e) b
unfolding row
row_and n h g b =
    word_and n (λ e. leb b e && h b e) (λ e. leb b e && g b e)
    ∙ word_ext n (λ e. (leb b e && h b e) && (leb b e && g b e)) (λ e. leb b e && (h b e && g b e)) (λ e l. share (leb b e) (h b e) (g b e))
  where
    share : (a x y : Bool) → ((a && x) && (a && y)) ≡ (a && (x && y))
    share true x y = refl
    share false x y = refl

pub row_or : (n : ℕ) (h g : ℕ → ℕ → Bool) (b : ℕ) → bit_or (row n h b) (row n g b) ≡ row n (λ b e. h b e || g b e) b
unfolding row
row_or n h g b =
    word_or n (λ e. leb b e && h b e) (λ e. leb b e && g b e)
    ∙ word_ext n (λ e. (leb b e && h b e) || (leb b e && g b e)) (λ e. leb b e && (h b e || g b e)) (λ e l. share (leb b e) (h b e) (g b e))
  where
    share : (a x y : Bool) → ((a && x) || (a && y)) ≡ (a && (x || y))
    share true x y = refl
    share false x y = refl
