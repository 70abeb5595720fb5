-- The words that the search reads off three rows.
use Rattle.std.proofs.Common.{ℕ, suc, ◌-◌, ◌^◌, ◌≤◌, ◌<◌, arith, lt_of_le_of_lt, eq-or-lt_of_le, Bool, true, false, not, ◌&&◌, true≢false, inl, inr, ◌≡◌, refl, sym, ap, subst, ◌∙◌, bit_and, leb, ltb, eqb, pow_pos, leb-true, leb-false, le-leb, ltb-true, lt-ltb, eqb-true, eq-eqb, ne_eqb}
use mathlib.Core.Bool.{false≢true}
use lib.Bits.{and_le_l}
use lib.Count.{count_trailing_zeros}
use lib.Dec.{leb-zero}
use Rattle.semantics.specs.Cycles.{some_below, some_from, some_in}
use Rattle.semantics.specs.Proposition.{bit}
use Rattle.semantics.specs.Clause.{ClauseType, pref, init, anti, implies, follows, triggers}
use Rattle.semantics.proofs.Tests.{same, test, is_false, false_not, and_left, and_right, and_intro, and_comm, and_false, and_false_left, and_false_right, and_true_right, not_intro, not_elim}
use Rattle.semantics.proofs.Cycles.{below_intro, below_elim, below_cong, some_elim}
use Rattle.rows.specs.Row.{word, row, always}
use Rattle.rows.proofs.Bits.{bit_and_lem, bit_not, bit_above, bit_nothing}
use Rattle.rows.proofs.Rows.{word_small, word_bit, is_word_in, is_word_lem, masked_row}
use Rattle.rows.proofs.Masks.{cut_bit, none_lower}
use Rattle.rows.proofs.Cuts.{before_bit}
use Rattle.intervals.specs.Search.{premised, missed}
use Rattle.intervals.specs.Rows.{starting, ending, unreplied, Next}

abbrev cut : ℕ → ℕ → ℕ
cut set b = bit_and set (2 ^ 64 - 1 - word 64 (λ e. ltb e b))

cut_small : (set b : ℕ) → set < 2 ^ 64 → cut set b < 2 ^ 64
cut_small set b h = lt_of_le_of_lt (and_le_l set (2 ^ 64 - 1 - word 64 (λ e. ltb e b))) h

pub next_is : (set j : ℕ) → set < 2 ^ 64 → j ≤ 64 → Next set j (count_trailing_zeros 64 (cut set j))
next_is set j h l = go (count_trailing_zeros 64 (cut set j)) (λ e m. none_lower 64 (cut set j) e (cut_small set j h) m)
  where
    go : (r : ℕ) → ((e : ℕ) → e ≤ 64 → leb e r ≡ not (some_below e (bit (cut set j)))) → Next set j r
    go r f =
        record {
          low = leb-true j r (f j l ∙ not_intro (some_below j (bit (cut set j))) (λ s.
              let w = below_elim j (bit (cut set j)) s in
              let k = leb-true j w.at (and_right (bit set w.at) (leb j w.at) (sym (cut_bit 64 set j w.at (omega (arith, w.high))) ∙ w.ok)) in
              omega (arith, w.high)));
          ok = λ m. ok m;
          between = λ x a b. is_false (bit set x) (λ q. between x a b q);
        }
      where
        ok : r < 64 → bit set r ≡ true
        ok m =
            elim (test (some_below (suc r) (bit (cut set j)))) [
              | inl s ↦
                  let w = below_elim (suc r) (bit (cut set j)) s in
                  let o : w.at ≤ r = omega (arith, w.high) in
                  elim (eq-or-lt_of_le o) [
                    | inl e ↦
                        subst (λ (x : ℕ). bit set x ≡ true) e
                        (and_left (bit set w.at) (leb j w.at) (sym (cut_bit 64 set j w.at (omega arith)) ∙ w.ok))
                    | inr k ↦
                        absurd (not_elim (some_below r (bit (cut set j))) (sym (f r (omega arith)) ∙ le-leb r r (omega arith))
                        (below_intro r (bit (cut set j)) w.at k w.ok))
                  ]
              | inr s ↦ let k = leb-true (suc r) r (f (suc r) m ∙ ap not s) in absurd (omega arith)
            ]

        between : (x : ℕ) → j ≤ x → x < r → bit set x ≡ true → ⊥
        between x a b q =
            elim (test (leb (suc x) 64)) [
              | inl m ↦
                  let k = leb-true (suc x) 64 m in
                  not_elim (some_below (suc x) (bit (cut set j))) (sym (f (suc x) k) ∙ le-leb (suc x) r b)
                  (below_intro (suc x) (bit (cut set j)) x (omega arith)
                  (cut_bit 64 set j x k ∙ and_intro (bit set x) (leb j x) q (le-leb j x a)))
              | inr m ↦ false_not (bit set x) (bit_above 64 set x h (omega (arith, leb-false (suc x) 64 m))) q
            ]

-- some answer from s up to e
cut_some : (answers s e : ℕ) → e ≤ 64 → some_below e (bit (cut answers s)) ≡ some_from s e (bit answers)
unfolding some_from
cut_some answers s e l =
    below_cong e (bit (cut answers s)) (λ i. leb s i && bit answers i)
    (λ i h. cut_bit 64 answers s i (omega arith) ∙ and_comm (bit answers i) (leb s i))

-- none at all, where what is left up to k is nothing
pub none_is : (set s k : ℕ) → set < 2 ^ 64 → k < 64 → eqb (bit_and (cut set s) (word 64 (λ e. leb e k))) 0 ≡ not (some_in s k (bit set))
none_is set s k small h = ap (λ (x : ℕ). eqb x 0) left ∙ nothing ∙ ap not (cut_some set s (suc k) h)
  where
    upto : (e : ℕ) → leb e k ≡ ltb e (suc k)
    upto e =
        same (leb e k) (ltb e (suc k)) (λ q. let l = leb-true e k q in lt-ltb e (suc k) (omega arith))
        (λ q. let l = ltb-true e (suc k) q in le-leb e k (omega arith))

    left : bit_and (cut set s) (word 64 (λ e. leb e k)) ≡ word (suc k) (bit (cut set s))
    left =
        is_word_in 64 (suc k) (bit_and (cut set s) (word 64 (λ e. leb e k))) (bit (cut set s)) h
        (lt_of_le_of_lt (and_le_l (cut set s) (word 64 (λ e. leb e k))) (cut_small set s small))
        (λ e l. bit_and_lem (cut set s) (word 64 (λ e. leb e k)) e ∙ ap (λ (r : Bool). bit (cut set s) e && r) (word_bit 64 (λ e. leb e k) e l ∙ upto e)
        ∙ and_comm (bit (cut set s) e) (ltb e (suc k)))

    nothing : eqb (word (suc k) (bit (cut set s))) 0 ≡ not (some_below (suc k) (bit (cut set s)))
    nothing =
        same (eqb (word (suc k) (bit (cut set s))) 0) (not (some_below (suc k) (bit (cut set s))))
        (λ q. not_intro (some_below (suc k) (bit (cut set s))) (λ w.
        let v = below_elim (suc k) (bit (cut set s)) w in
        false_not (bit (cut set s) v.at)
        (sym (word_bit (suc k) (bit (cut set s)) v.at v.high) ∙ ap (λ (x : ℕ). bit x v.at) (eqb-true (word (suc k) (bit (cut set s))) 0 q) ∙ bit_nothing v.at)
        v.ok))
        (λ q. eq-eqb (word (suc k) (bit (cut set s))) 0
        (sym (is_word_lem (suc k) 0 (bit (cut set s)) (pow_pos (suc k))
        (λ e l. bit_nothing e ∙ sym (is_false (bit (cut set s) e) (λ w. not_elim (some_below (suc k) (bit (cut set s))) q (below_intro (suc k) (bit (cut set s)) e l w)))))))

-- a word cut to n cycles
limited : (n x : ℕ) (p : ℕ → Bool) → n ≤ 64 → ((e : ℕ) → e < n → bit x e ≡ p e) → bit_and (word 64 (λ e. ltb e n)) x ≡ word n p
limited n x p l f =
    is_word_in 64 n (bit_and (word 64 (λ e. ltb e n)) x) p l
    (lt_of_le_of_lt (and_le_l (word 64 (λ e. ltb e n)) x) (word_small 64 (λ e. ltb e n)))
    (λ e h. bit_and_lem (word 64 (λ e. ltb e n)) x e ∙ ap (λ (r : Bool). r && bit x e) (word_bit 64 (λ e. ltb e n) e h) ∙ under e (ltb e n) refl)
  where
    under : (e : ℕ) (r : Bool) → ltb e n ≡ r → r && bit x e ≡ (r && p e)
    under e true q = f e (ltb-true e n q)
    under e false q = refl

no_starts : (n : ℕ) (p : ℕ → Bool) → ((e : ℕ) → p e ≡ false) → 0 ≡ word n p
no_starts n p f = is_word_lem n 0 p (pow_pos n) (λ e h. bit_nothing e ∙ sym (f e))

-- a row from i on: what anti, follows and triggers start from, and where Ξ of D3 ends
pub first_starts : (n i first : ℕ) → bit_and (row n always i) first ≡ word n (λ j. leb i j && bit first j)
unfolding row
first_starts n i first = masked_row n first (λ i j. bit first j) i (λ e a b. refl)

module _ (n i first answers : ℕ) (l : n ≤ 64) (h : answers < 2 ^ 64) where
  pub pref_starts : i ≡ 0 → bit_and (word 64 (λ e. ltb e n)) (2 ^ 64 - 1 - answers) ≡ word n (starting pref i (bit first) (bit answers))
  unfolding starting
  pref_starts z =
      limited n (2 ^ 64 - 1 - answers) (λ j. eqb i 0 && not (bit answers j)) l
      (λ e m. bit_not 64 answers e h (omega arith) ∙ ap (λ (r : Bool). r && not (bit answers e)) (sym (eq-eqb i 0 z)))

  pub pref_none : (i ≡ 0 → ⊥) → 0 ≡ word n (starting pref i (bit first) (bit answers))
  unfolding starting
  pref_none z = no_starts n (λ j. eqb i 0 && not (bit answers j)) (λ e. ap (λ (r : Bool). r && not (bit answers e)) (ne_eqb i 0 z))

  pub init_starts : i ≡ 0
      → bit_and (word 64 (λ e. ltb e n)) (bit_and first (word 64 (λ e. not (some_below (suc e) (bit answers))))) ≡ word n (starting init i (bit first) (bit answers))
  unfolding starting some_from
  init_starts z =
      limited n (bit_and first (word 64 (λ e. not (some_below (suc e) (bit answers))))) (λ j. eqb i 0 && (bit first j && not (some_in 0 j (bit answers)))) l
      (λ e m. bit_and_lem first (word 64 (λ e. not (some_below (suc e) (bit answers)))) e
      ∙ ap (λ (r : Bool). bit first e && r)
      (before_bit answers e (omega arith)
      ∙ ap not (below_cong (suc e) (bit answers) (λ t. leb 0 t && bit answers t) (λ t a. ap (λ (r : Bool). r && bit answers t) (sym (leb-zero t)))))
      ∙ ap (λ (r : Bool). r && (bit first e && not (some_in 0 e (bit answers)))) (sym (eq-eqb i 0 z)))

  pub init_none : (i ≡ 0 → ⊥) → 0 ≡ word n (starting init i (bit first) (bit answers))
  unfolding starting
  init_none z =
      no_starts n (λ j. eqb i 0 && (bit first j && not (some_in 0 j (bit answers))))
      (λ e. ap (λ (r : Bool). r && (bit first e && not (some_in 0 e (bit answers)))) (ne_eqb i 0 z))

  pub implies_starts : bit_and (row n always i) (bit_and first (2 ^ 64 - 1 - answers)) ≡ word n (starting implies i (bit first) (bit answers))
  unfolding row starting
  implies_starts =
      masked_row n (bit_and first (2 ^ 64 - 1 - answers)) (λ i j. bit first j && not (bit answers j)) i
      (λ e a b. bit_and_lem first (2 ^ 64 - 1 - answers) e ∙ ap (λ (r : Bool). bit first e && r) (bit_not 64 answers e h (omega arith)))

pub only_end : (n j : ℕ) → j < n → n ≤ 64 → word 64 (eqb j) ≡ word n (λ k. eqb k j)
only_end n j l h =
    is_word_in 64 n (word 64 (eqb j)) (λ k. eqb k j) h (word_small 64 (eqb j))
    (λ k m. word_bit 64 (eqb j) k m ∙ same (eqb j k) (ltb k n && eqb k j)
    (λ q. let e = eqb-true j k q in and_intro (ltb k n) (eqb k j) (lt-ltb k n (omega arith)) (eq-eqb k j (omega arith)))
    (λ q. let e = eqb-true k j (and_right (ltb k n) (eqb k j) q) in eq-eqb j k (omega arith)))

-- ---- unanswered, as the search takes it apart
turned : (a b c : Bool) → a && b && c ≡ (a && c && b)
turned true b c = and_comm b c
turned false b c = refl

turned_in : (a b c d e : Bool) → a && b && (c && (d && e)) ≡ (a && c && ((b && d) && e))
turned_in true true c d e = refl
turned_in true false c d e = sym (and_false c)
turned_in false b c d e = refl

no_premise : (a b c d : Bool) → (a ≡ true → c ≡ false) → a && b && (c && d) ≡ false
no_premise true b c d f = and_false_right b (c && d) (and_false_left c d (f refl))
no_premise false b c d f = refl

pub missed_is : (κ : ClauseType) (first third answers : ℕ → ℕ → Bool) (i j k : ℕ)
    → missed κ first third answers i j k ≡ (starting κ i (first i) (answers i) j && (ending κ i j third k && unreplied κ i j answers k))
unfolding missed starting ending unreplied
missed_is pref first third answers i j k = go (eqb i 0) refl
  where
    go : (z : Bool) → eqb i 0 ≡ z → z && eqb k j && not (answers 0 j) ≡ (z && not (answers i j) && (eqb k j && true))
    go true q = rw (eqb-true i 0 q, and_true_right (eqb k j)) (and_comm (eqb k j) (not (answers 0 j)))
    go false q = refl
missed_is init first third answers i j k = go (eqb i 0) refl
  where
    go : (z : Bool) → eqb i 0 ≡ z
        → z && eqb k j && (first 0 j && not (some_in 0 j (answers 0))) ≡ (z && (first i j && not (some_in 0 j (answers i))) && (eqb k j && true))
    go true q = rw (eqb-true i 0 q, and_true_right (eqb k j)) (and_comm (eqb k j) (first 0 j && not (some_in 0 j (answers 0))))
    go false q = refl
missed_is anti first third answers i j k = rw (and_true_right (eqb k j)) (turned (leb i j) (eqb k j) (first i j))
missed_is implies first third answers i j k = rw (and_true_right (eqb k j)) (turned (leb i j) (eqb k j) (first i j && not (answers i j)))
missed_is follows first third answers i j k = turned_in (leb i j) (leb j k) (first i j) (third j k) (not (some_in j k (answers j)))
missed_is triggers first third answers i j k = turned_in (leb i j) (leb i k) (first i j) (third i k) (not (some_in i k (answers i)))

-- ---- without any interval of the premise, none is open
pub missed_premise : (κ : ClauseType) (first third answers : ℕ → ℕ → Bool) (n i j k : ℕ) → premised κ ≡ true → j < n
    → ((b e : ℕ) → b ≤ e → e < n → first b e ≡ false) → missed κ first third answers i j k ≡ false
unfolding premised missed
missed_premise pref first third answers n i j k p h f = absurd (false≢true p)
missed_premise init first third answers n i j k p h f =
    and_false_right (eqb i 0 && eqb k j) (first 0 j && not (some_in 0 j (answers 0))) (and_false_left (first 0 j) _ (f 0 j (omega arith) h))
missed_premise anti first third answers n i j k p h f =
    ap (λ (r : Bool). leb i j && eqb k j && r) (sym (and_true_right (first i j)))
    ∙ no_premise (leb i j) (eqb k j) (first i j) true (λ q. f i j (leb-true i j q) h)
missed_premise implies first third answers n i j k p h f =
    no_premise (leb i j) (eqb k j) (first i j) (not (answers i j)) (λ q. f i j (leb-true i j q) h)
missed_premise follows first third answers n i j k p h f =
    no_premise (leb i j) (leb j k) (first i j) (third j k && not (some_in j k (answers j))) (λ q. f i j (leb-true i j q) h)
missed_premise triggers first third answers n i j k p h f =
    no_premise (leb i j) (leb i k) (first i j) (third i k && not (some_in i k (answers i))) (λ q. f i j (leb-true i j q) h)

-- ---- where no interval is open without any answer, none is with some
unmoved : (a c m : Bool) → a && (c && true) ≡ false → a && (c && m) ≡ false
unmoved true true m h = absurd (true≢false h)
unmoved true false m h = refl
unmoved false c m h = refl

deeper : (a c d m : Bool) → a && (c && (d && true)) ≡ false → a && (c && (d && m)) ≡ false
deeper a true d m h = unmoved a d m h
deeper a false d m h = h

none_some : (x y : ℕ) → not (some_in x y (λ e. false)) ≡ true
none_some x y = not_intro (some_in x y (λ e. false)) (λ q. let w = some_elim x (suc y) (λ e. false) q in false≢true w.ok)

pub missed_fewer : (κ : ClauseType) (first third answers : ℕ → ℕ → Bool) (i j k : ℕ)
    → missed κ first third (λ b e. false) i j k ≡ false → missed κ first third answers i j k ≡ false
unfolding missed
missed_fewer pref first third answers i j k h = and_false_left (eqb i 0 && eqb k j) (not (answers 0 j)) (sym (and_true_right (eqb i 0 && eqb k j)) ∙ h)
missed_fewer init first third answers i j k h =
    unmoved (eqb i 0 && eqb k j) (first 0 j) (not (some_in 0 j (answers 0)))
    (sym (ap (λ (x : Bool). (eqb i 0 && eqb k j) && (first 0 j && x)) (none_some 0 j)) ∙ h)
missed_fewer anti first third answers i j k h = h
missed_fewer implies first third answers i j k h = unmoved (leb i j && eqb k j) (first i j) (not (answers i j)) h
missed_fewer follows first third answers i j k h =
    deeper (leb i j && leb j k) (first i j) (third j k) (not (some_in j k (answers j)))
    (sym (ap (λ (x : Bool). (leb i j && leb j k) && (first i j && (third j k && x))) (none_some j k)) ∙ h)
missed_fewer triggers first third answers i j k h =
    deeper (leb i j && leb i k) (first i j) (third i k) (not (some_in i k (answers i)))
    (sym (ap (λ (x : Bool). (leb i j && leb i k) && (first i j && (third i k && x))) (none_some i k)) ∙ h)
