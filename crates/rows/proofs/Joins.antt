-- Laws of joins: chop and star by rows.
use Rattle.std.proofs.Common.{ℕ, suc, ◌+◌, ◌-◌, ◌^◌, ◌≤◌, ◌<◌, Bool, true, not, cond, ◌&&◌, ◌||◌, inl, inr, ◌≡◌, sym, ap, ap₂, subst, ◌∙◌, add-one, arith, leb, ltb, eqb, bit_and, bit_or, bit_xor, ltb-true, lt-ltb, eqb-true, Some}
use lib.Bits.{and_le_r, or_lt, or_zero_r}
use lib.Count.{count_trailing_zeros}
use Rattle.semantics.specs.Cycles.{some_below, some_in}
use Rattle.semantics.specs.Proposition.{bit}
use Rattle.semantics.specs.Formula.{chain}
use Rattle.rows.specs.declared.cycles.Cycles.{Cycles}
use Rattle.rows.specs.Least.{GivesLeast}
use Rattle.rows.specs.Row.{word, row, joined, starred}
use Rattle.semantics.proofs.Tests.{and_comm, same, test, false_not, is_false, both, and_left, and_right, or_left, or_right, or_elim}
use Rattle.semantics.proofs.Cycles.{below_intro, below_elim, below_cong, some_intro, some_elim}
use Rattle.semantics.proofs.Chains.{chain_step}
use Rattle.rows.proofs.Bits.{bit_and_lem, bit_or_lem, bit_xor_lem, bit_nothing, same_bits, Lowest, lowest}
use Rattle.rows.proofs.Masks.{cut_bit}
use Rattle.rows.proofs.Rows.{word_small, word_bit, is_word_lem, set_intro, set_elim, is_row}

pub joined_small : (set : ℕ) (words : ℕ → ℕ) → joined set words < 2 ^ 64
unfolding joined
joined_small set words = word_small 64 (λ e. some_below 64 (λ i. bit set i && bit (words i) e))

pub joined_bit : (set : ℕ) (words : ℕ → ℕ) (e : ℕ) → e < 64 → bit (joined set words) e ≡ some_below 64 (λ i. bit set i && bit (words i) e)
unfolding joined
joined_bit set words e l = word_bit 64 (λ e. some_below 64 (λ i. bit set i && bit (words i) e)) e l

-- a joined cycle, and the word that it is from
pub record Joined (set : ℕ) (words : ℕ → ℕ) (e : ℕ) : Type 0 where
  pub from : ℕ
  pub below : from < 64
  pub chosen : bit set from ≡ true
  pub has : bit (words from) e ≡ true

pub joined_elim : (set : ℕ) (words : ℕ → ℕ) (e : ℕ) → e < 64 → bit (joined set words) e ≡ true → Joined set words e
joined_elim set words e l t =
    let f = below_elim 64 (λ i. bit set i && bit (words i) e) (sym (joined_bit set words e l) ∙ t) in
    record {
      from = f.at;
      below = f.high;
      chosen = and_left (bit set f.at) (bit (words f.at) e) f.ok;
      has = and_right (bit set f.at) (bit (words f.at) e) f.ok;
    }

pub joined_intro : (set : ℕ) (words : ℕ → ℕ) (e : ℕ) → e < 64 → Joined set words e → bit (joined set words) e ≡ true
joined_intro set words e l j =
    joined_bit set words e l
    ∙ below_intro 64 (λ i. bit set i && bit (words i) e) j.from j.below (both j.chosen j.has)

pub joined_none : (words : ℕ → ℕ) → joined 0 words ≡ 0
joined_none words =
    same_bits 64 (joined 0 words) 0 (joined_small 0 words) (omega arith)
    (λ e l. is_false (bit (joined 0 words) e) (λ t.
    let j = joined_elim 0 words e l t in
    false_not (bit 0 j.from) (bit_nothing j.from) j.chosen) ∙ sym (bit_nothing e))

-- a turn of the loop over set bits: the lowest one's word is joined, and the bit cleared
pub join_turn : (whole out left : ℕ) (words : ℕ → ℕ) → out < 2 ^ 64 → 0 < left → left < 2 ^ 64
    → words (count_trailing_zeros 64 left) < 2 ^ 64 → whole ≡ bit_or out (joined left words)
    → whole ≡ bit_or (bit_or out (words (count_trailing_zeros 64 left))) (joined (bit_and left (left - 1)) words)
join_turn whole out left words ho hz hl hw inv =
    inv ∙ same_bits 64 (bit_or out (joined left words)) (bit_or (bit_or out (words t)) (joined rest words))
    (or_lt 64 out (joined left words) ho (joined_small left words))
    (or_lt 64 (bit_or out (words t)) (joined rest words) (or_lt 64 out (words t) ho hw) (joined_small rest words))
    (λ e l. bit_or_lem out (joined left words) e ∙ turn e l
    ∙ sym (bit_or_lem (bit_or out (words t)) (joined rest words) e ∙ ap (λ (c : Bool). c || bit (joined rest words) e) (bit_or_lem out (words t) e)))
  where
    t : ℕ
    t = count_trailing_zeros 64 left

    rest : ℕ
    rest = bit_and left (left - 1)

    low : Lowest 64 left (count_trailing_zeros 64 left)
    low = lowest 64 left hz hl

    kept : (i : ℕ) → bit rest i ≡ (bit left i && not (eqb i t))
    kept i = bit_and_lem left (left - 1) i ∙ low.cleared i

    turn : (e : ℕ) → e < 64 → (bit out e || bit (joined left words) e) ≡ ((bit out e || bit (words t) e) || bit (joined rest words) e)
    turn e l =
        same (bit out e || bit (joined left words) e) ((bit out e || bit (words t) e) || bit (joined rest words) e)
        (λ s. elim (or_elim (bit out e) (bit (joined left words) e) s) [
          | inl a ↦ or_left (bit out e || bit (words t) e) (bit (joined rest words) e) (or_left (bit out e) (bit (words t) e) a)
          | inr a ↦ (
              let j = joined_elim left words e l a in
              elim (test (eqb j.from t)) [
                | inl q ↦ or_left (bit out e || bit (words t) e) (bit (joined rest words) e)
                    (or_right (bit out e) (bit (words t) e) (ap (λ (i : ℕ). bit (words i) e) (sym (eqb-true j.from t q)) ∙ j.has))
                | inr q ↦ or_right (bit out e || bit (words t) e) (bit (joined rest words) e)
                    (joined_intro rest words e l
                    (record { from = j.from; below = j.below; chosen = kept j.from ∙ both j.chosen (ap not q); has = j.has }))
              ])
        ])
        (λ s. elim (or_elim (bit out e || bit (words t) e) (bit (joined rest words) e) s) [
          | inl a ↦ elim (or_elim (bit out e) (bit (words t) e) a) [
            | inl x ↦ or_left (bit out e) (bit (joined left words) e) x
            | inr x ↦ or_right (bit out e) (bit (joined left words) e)
                (joined_intro left words e l (record { from = t; below = low.below; chosen = low.set; has = x }))
          ]
          | inr a ↦ (
              let j = joined_elim rest words e l a in
              or_right (bit out e) (bit (joined left words) e)
              (joined_intro left words e l
              (record { from = j.from; below = j.below; chosen = and_left (bit left j.from) (not (eqb j.from t)) (sym (kept j.from) ∙ j.chosen); has = j.has })))
        ])

-- the loop's end: nothing is left

-- the same, for the next cycle of a set
pub join_next : (whole out i : ℕ) (s t : Cycles) (words : ℕ → ℕ) → out < 2 ^ 64 → s.0 < 2 ^ 64 → GivesLeast s (Some i) t → words i < 2 ^ 64
    → whole ≡ bit_or out (joined s.0 words) → (t.0 < 2 ^ 64) × (whole ≡ bit_or (bit_or out (words i)) (joined t.0 words))
join_next whole out i s t words ho hs g hw inv =
    rw (g.2, g.1)
    (omega (arith, and_le_r s.0 (s.0 - 1)), join_turn whole out s.0 words ho g.0 hs (subst (λ (k : ℕ). words k < 2 ^ 64) g.1 hw) inv)

pub join_end : (set out left : ℕ) (words : ℕ → ℕ) → left ≡ 0 → joined set words ≡ bit_or out (joined left words) → out ≡ joined set words
join_end set out left words none inv =
    sym (inv ∙ ap (λ (x : ℕ). bit_or out (joined x words)) none ∙ ap (bit_or out) (joined_none words) ∙ or_zero_r out)

-- a set that has all of an earlier one: what was joined for that one, and what the set has besides
pub join_new : (set before : ℕ) (words : ℕ → ℕ) → bit_and before set ≡ before
    → bit_or (joined before words) (joined (bit_xor set before) words) ≡ joined set words
join_new set before words all =
    same_bits 64 (bit_or (joined before words) (joined new words)) (joined set words)
    (or_lt 64 (joined before words) (joined new words) (joined_small before words) (joined_small new words))
    (joined_small set words)
    (λ e l. bit_or_lem (joined before words) (joined new words) e
    ∙ same (bit (joined before words) e || bit (joined new words) e) (bit (joined set words) e)
    (λ s. elim (or_elim (bit (joined before words) e) (bit (joined new words) e) s) [
      | inl a ↦ (
          let j = joined_elim before words e l a in
          joined_intro set words e l (record { from = j.from; below = j.below; chosen = old j.from j.chosen; has = j.has }))
      | inr a ↦ (
          let j = joined_elim new words e l a in
          joined_intro set words e l
          (record { from = j.from; below = j.below; chosen = either j.from (sym (bit_xor_lem set before j.from) ∙ j.chosen); has = j.has }))
    ])
    (λ s.
    let j = joined_elim set words e l s in
    elim (test (bit before j.from)) [
      | inl a ↦ or_left (bit (joined before words) e) (bit (joined new words) e)
          (joined_intro before words e l (record { from = j.from; below = j.below; chosen = a; has = j.has }))
      | inr a ↦ or_right (bit (joined before words) e) (bit (joined new words) e)
          (joined_intro new words e l
          (record {
            from = j.from;
            below = j.below;
            chosen = bit_xor_lem set before j.from ∙ ap₂ (λ (x y : Bool). cond x (not y) y) j.chosen a;
            has = j.has;
          }))
    ]))
  where
    new : ℕ
    new = bit_xor set before

    old : (i : ℕ) → bit before i ≡ true → bit set i ≡ true
    old i t = and_right (bit before i) (bit set i) (sym (bit_and_lem before set i) ∙ ap (λ (x : ℕ). bit x i) all ∙ t)

    either : (i : ℕ) → cond (bit set i) (not (bit before i)) (bit before i) ≡ true → bit set i ≡ true
    either i t =
        elim (test (bit set i)) [
          | inl s ↦ s
          | inr s ↦ old i (ap (λ (x : Bool). cond x (not (bit before i)) (bit before i)) (sym s) ∙ t)
        ]

-- ---- chop

-- rows joined from the rows of two tests: document 01's chop
pub chop_row : (n : ℕ) (h g : ℕ → ℕ → Bool) (words : ℕ → ℕ) (b : ℕ) → n ≤ 64 → ((i : ℕ) → i < n → words i ≡ row n g i)
    → joined (row n h b) words ≡ row n (λ b e. some_in b e (λ i. h b i && g i e)) b
chop_row n h g words b l f =
    is_row 64 n (joined (row n h b) words) (λ b e. some_in b e (λ i. h b i && g i e)) b l (joined_small (row n h b) words)
    (λ e m t.
    let j = joined_elim (row n h b) words e m t in
    let p = set_elim n h b j.from j.chosen in
    let q = set_elim n g j.from e (ap (λ (x : ℕ). bit x e) (sym (f j.from p.high)) ∙ j.has) in
    let x = p.low in
    let y = q.low in
    record {
      low = omega arith;
      high = q.high;
      ok = some_intro b (suc e) (λ i. h b i && g i e) j.from p.low (omega arith) (both p.ok q.ok);
    })
    (λ e s.
    let x = s.high in
    let r = some_elim b (suc e) (λ i. h b i && g i e) s.ok in
    let y = r.high in
    joined_intro (row n h b) words e (omega arith)
    (record {
      from = r.at;
      below = omega arith;
      chosen = set_intro n h b r.at (record { low = r.low; high = omega arith; ok = and_left (h b r.at) (g r.at e) r.ok });
      has = ap (λ (x : ℕ). bit x e) (f r.at (omega arith))
          ∙ set_intro n g r.at e (record { low = omega arith; high = s.high; ok = and_right (h b r.at) (g r.at e) r.ok });
    }))

-- ---- star

-- document 01's star, as a test on intervals
abbrev pub star_of : (ℕ → ℕ → Bool) → ℕ → ℕ → Bool
star_of h b e = chain (e - b) h b e

-- cycle b and a join over the later links
pub starred_is : (links : ℕ) (words : ℕ → ℕ) (b : ℕ)
    → bit_or (word 64 (eqb b)) (joined (bit_and links (2 ^ 64 - 1 - word 64 (λ e. ltb e (b + 1)))) words) ≡ starred links words b
unfolding starred
starred_is links words b =
    is_word_lem 64 (bit_or (word 64 (eqb b)) (joined later words)) (λ e. eqb b e || some_below 64 (λ i. (ltb b i && bit links i) && bit (words i) e))
    (or_lt 64 (word 64 (eqb b)) (joined later words) (word_small 64 (eqb b)) (joined_small later words))
    (λ e l. bit_or_lem (word 64 (eqb b)) (joined later words) e
    ∙ ap₂ (λ (x y : Bool). x || y) (word_bit 64 (eqb b) e l)
    (joined_bit later words e l
    ∙ below_cong 64 (λ i. bit later i && bit (words i) e) (λ i. (ltb b i && bit links i) && bit (words i) e) (λ i m. one e i m)))
  where
    later : ℕ
    later = bit_and links (2 ^ 64 - 1 - word 64 (λ e. ltb e (b + 1)))

    one : (e i : ℕ) → i < 64 → (bit later i && bit (words i) e) ≡ ((ltb b i && bit links i) && bit (words i) e)
    one e i m =
        ap (λ (c : Bool). c && bit (words i) e)
        (cut_bit 64 links (b + 1) i m ∙ and_comm (bit links i) (leb (b + 1) i) ∙ ap (λ (k : ℕ). leb k i && bit links i) (add-one b))

-- the row of star at b from the row of its formula there and the later rows of star
pub star_row : (n : ℕ) (h : ℕ → ℕ → Bool) (words : ℕ → ℕ) (b : ℕ) → n ≤ 64 → b < n
    → ((i : ℕ) → b < i → i < n → words i ≡ row n (star_of h) i) → starred (row n h b) words b ≡ row n (star_of h) b
unfolding starred
star_row n h words b l k f =
    is_row 64 n (word 64 test') (star_of h) b l (word_small 64 test')
    (λ e m t. elim (or_elim (eqb b e) (some_below 64 (λ i. (ltb b i && bit (row n h b) i) && bit (words i) e)) (sym (word_bit 64 test' e m) ∙ t)) [
      | inl a ↦ (
          let q = eqb-true b e a in
          record { low = omega arith; high = omega arith; ok = chain_step h b e (omega arith) ∙ or_left (eqb b e) (some_in (suc b) e (λ i. h b i && chain (e - i) h i e)) a })
      | inr a ↦ (
          let r = below_elim 64 (λ i. (ltb b i && bit (row n h b) i) && bit (words i) e) a in
          let i = r.at in
          let first = and_left (ltb b i && bit (row n h b) i) (bit (words i) e) r.ok in
          let lt = ltb-true b i (and_left (ltb b i) (bit (row n h b) i) first) in
          let p = set_elim n h b i (and_right (ltb b i) (bit (row n h b) i) first) in
          let q = set_elim n (star_of h) i e (ap (λ (x : ℕ). bit x e) (sym (f i lt p.high)) ∙ and_right (ltb b i && bit (row n h b) i) (bit (words i) e) r.ok) in
          let y = q.low in
          record {
            low = omega arith;
            high = q.high;
            ok = chain_step h b e (omega arith)
                ∙ or_right (eqb b e) (some_in (suc b) e (λ i. h b i && chain (e - i) h i e))
                (some_intro (suc b) (suc e) (λ i. h b i && chain (e - i) h i e) i lt (omega arith) (both p.ok q.ok));
          })
    ])
    (λ e s.
    let x = s.high in
    word_bit 64 test' e (omega arith)
    ∙ elim (or_elim (eqb b e) (some_in (suc b) e (λ i. h b i && chain (e - i) h i e)) (sym (chain_step h b e s.low) ∙ s.ok)) [
      | inl a ↦ or_left (eqb b e) (some_below 64 (λ i. (ltb b i && bit (row n h b) i) && bit (words i) e)) a
      | inr a ↦ (
          let r = some_elim (suc b) (suc e) (λ i. h b i && chain (e - i) h i e) a in
          let i = r.at in
          let lo = r.low in
          let hi = r.high in
          or_right (eqb b e) (some_below 64 (λ i. (ltb b i && bit (row n h b) i) && bit (words i) e))
          (below_intro 64 (λ i. (ltb b i && bit (row n h b) i) && bit (words i) e) i (omega arith)
          (both
          (both (lt-ltb b i r.low)
          (set_intro n h b i (record { low = omega arith; high = omega arith; ok = and_left (h b i) (chain (e - i) h i e) r.ok })))
          (ap (λ (x : ℕ). bit x e) (f i r.low (omega arith))
          ∙ set_intro n (star_of h) i e (record { low = omega arith; high = s.high; ok = and_right (h b i) (chain (e - i) h i e) r.ok })))))
    ])
  where
    test' : ℕ → Bool
    test' e = eqb b e || some_below 64 (λ i. (ltb b i && bit (row n h b) i) && bit (words i) e)
