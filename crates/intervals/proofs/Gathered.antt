-- The rows that are gathered for one placement.
use Rattle.std.proofs.Common.{ℕ, ◌+◌, ◌-◌, ◌^◌, ◌≤◌, ◌<◌, min, max, arith, eq-or-lt_of_le, inl, inr, Bool, true, false, not, cond, ◌&&◌, ◌||◌, List, ◌≡◌, refl, sym, ap, ap₂, subst, ◌∙◌, bit_and, bit_or, leb, ltb, length, get_or, set, length-set, get_or-set_same, get_or-set_other, leb-true, leb-false, le-leb}
use borrow.Author.Tests.{lt-leb}
use Rattle.semantics.specs.Proposition.{bit}
use Rattle.semantics.specs.Placement.{Names, Placement}
use Rattle.semantics.specs.Inside.{inside_name, inside}
use Rattle.semantics.proofs.Tests.{same, test, false_not, and_left, and_right, and_intro, and_comm, and_false, and_false_right, or_left, or_right, or_false}
use Rattle.rows.specs.Row.{word}
use Rattle.rows.proofs.Bits.{bit_or_lem}
use Rattle.rows.proofs.Masks.{cut_bit}
use Rattle.tables.specs.Table.{row_at}
use Rattle.intervals.specs.Rows.{test_of}
use Rattle.intervals.specs.Gather.{first_name, last_name, cut_to, gathered, Adds, Ends}

-- ---- names inside an interval, by the first and the last of them
min_test : (b x y : ℕ) → leb b (min x y) ≡ (leb b x && leb b y)
min_test b x y =
    same (leb b (min x y)) (leb b x && leb b y)
    (λ q. let l = leb-true b (min x y) q in and_intro (leb b x) (leb b y) (le-leb b x (omega arith)) (le-leb b y (omega arith)))
    (λ q. let l = leb-true b x (and_left (leb b x) (leb b y) q) in
    let m = leb-true b y (and_right (leb b x) (leb b y) q) in
    le-leb b (min x y) (omega arith))

max_test : (e x y : ℕ) → leb (max x y) e ≡ (leb x e && leb y e)
max_test e x y =
    same (leb (max x y) e) (leb x e && leb y e)
    (λ q. let l = leb-true (max x y) e q in and_intro (leb x e) (leb y e) (le-leb x e (omega arith)) (le-leb y e (omega arith)))
    (λ q. let l = leb-true x e (and_left (leb x e) (leb y e) q) in
    let m = leb-true y e (and_right (leb x e) (leb y e) q) in
    le-leb (max x y) e (omega arith))

-- one name
low_name : (c : Bool) (b p : ℕ) → b < 64 → leb b (cond c p 63) ≡ (not c || leb b p)
low_name true b p h = refl
low_name false b p h = le-leb b 63 (omega arith)

high_name : (c : Bool) (e p : ℕ) → leb (cond c p 0) e ≡ (not c || leb p e)
high_name true e p = refl
high_name false e p = le-leb 0 e (omega arith)

split : (n x y : Bool) → n || x && y ≡ ((n || x) && (n || y))
split true x y = refl
split false x y = refl

regroup : (a0 b0 a1 b1 a2 b2 : Bool) → (a0 && b0) && ((a1 && b1) && (a2 && b2)) ≡ (((a0 && a1) && (a2 && true)) && ((b0 && b1) && b2))
regroup true true true b1 true b2 = refl
regroup true false true b1 true b2 = refl
regroup true b0 true b1 false b2 = and_false_right b0 (b1 && false) (and_false b1)
regroup true b0 false b1 a2 b2 = and_false b0
regroup false b0 a1 b1 a2 b2 = refl

pub names_inside : (names : Names) (ν : Placement) (b e : ℕ) → b < 64 → inside names b e ν ≡ (leb b (first_name names ν) && leb (last_name names ν) e)
unfolding inside inside_name first_name last_name
names_inside names ν b e h =
    let p0 : ℕ = ν 0 in
    let p1 : ℕ = ν 1 in
    let p2 : ℕ = ν 2 in
    let c0 : ℕ = cond (names 0) p0 63 in
    let c1 : ℕ = cond (names 1) p1 63 in
    let c2 : ℕ = cond (names 2) p2 63 in
    let d0 : ℕ = cond (names 0) p0 0 in
    let d1 : ℕ = cond (names 1) p1 0 in
    let d2 : ℕ = cond (names 2) p2 0 in
    let first : leb b (min (min c0 c1) (min c2 63)) ≡ (((not (names 0) || leb b p0) && (not (names 1) || leb b p1)) && ((not (names 2) || leb b p2) && true)) =
    min_test b (min c0 c1) (min c2 63)
    ∙ ap₂ (λ (x y : Bool). x && y)
    (min_test b c0 c1 ∙ ap₂ (λ (x y : Bool). x && y) (low_name (names 0) b p0 h) (low_name (names 1) b p1 h))
    (min_test b c2 63 ∙ ap₂ (λ (x y : Bool). x && y) (low_name (names 2) b p2 h) (le-leb b 63 (omega arith))) in
    let last : leb (max (max d0 d1) d2) e ≡ (((not (names 0) || leb p0 e) && (not (names 1) || leb p1 e)) && (not (names 2) || leb p2 e)) =
    max_test e (max d0 d1) d2
    ∙ ap₂ (λ (x y : Bool). x && y)
    (max_test e d0 d1 ∙ ap₂ (λ (x y : Bool). x && y) (high_name (names 0) e p0) (high_name (names 1) e p1))
    (high_name (names 2) e p2) in
    ap₂ (λ (x y : Bool). x && y) (split (not (names 0)) (leb b p0) (leb p0 e))
    (ap₂ (λ (x y : Bool). x && y) (split (not (names 1)) (leb b p1) (leb p1 e)) (split (not (names 2)) (leb b p2) (leb p2 e)))
    ∙ regroup (not (names 0) || leb b p0) (not (names 0) || leb p0 e) (not (names 1) || leb b p1) (not (names 1) || leb p1 e) (not (names 2) || leb b p2) (not (names 2) || leb p2 e)
    ∙ sym (ap₂ (λ (x y : Bool). x && y) first last)

pub first_most : (names : Names) (ν : Placement) → first_name names ν < 64
unfolding first_name
first_most names ν =
    let c0 : ℕ = cond (names 0) (ν 0) 63 in
    let c1 : ℕ = cond (names 1) (ν 1) 63 in
    let c2 : ℕ = cond (names 2) (ν 2) 63 in
    most c0 c1 c2
  where
    most : (x y z : ℕ) → min (min x y) (min z 63) < 64
    most x y z = omega arith

-- row b, cut if asked, with some ends alone
abbrev pub cut_row : List ℕ → ℕ → Bool → ℕ → ℕ → ℕ
cut_row words root short ends b = bit_and (cut_to short (row_at words root b)) ends

-- what is gathered from row b
module _ (words : List ℕ) (root names : ℕ) (short : Bool) (ν : Placement) where
  added_row : ℕ → ℕ
  added_row = cut_row words root short (2 ^ 64 - 1 - word 64 (λ e. ltb e (last_name (bit names) ν)))

  added_bit : (b e : ℕ) → b ≤ first_name (bit names) ν → b < 64 → e < 64 → bit (added_row b) e ≡ gathered words root names short ν b e
  unfolding gathered added_row
  added_bit b e l h m =
      cut_bit 64 (cut_to short (row_at words root b)) (last_name (bit names) ν) e m
      ∙ and_comm (bit (cut_to short (row_at words root b)) e) (leb (last_name (bit names) ν) e)
      ∙ ap (λ (x : Bool). (x && leb (last_name (bit names) ν) e) && bit (cut_to short (row_at words root b)) e) (sym (le-leb b (first_name (bit names) ν) l))
      ∙ ap (λ (x : Bool). x && bit (cut_to short (row_at words root b)) e) (sym (names_inside (bit names) ν b e h))

  -- no interval from a later row holds the first name
  none_later : (b e : ℕ) → first_name (bit names) ν < b → b < 64 → gathered words root names short ν b e ≡ false
  unfolding gathered
  none_later b e l h =
      ap (λ (x : Bool). x && bit (cut_to short (row_at words root b)) e)
      (names_inside (bit names) ν b e h ∙ ap (λ (x : Bool). x && leb (last_name (bit names) ν) e) (lt-leb b (first_name (bit names) ν) l))

-- the rows below b have been added to, the others not yet; `all` has the ends of what was added
pub record Added (before after : List ℕ) (f : ℕ → ℕ) (all b : ℕ) : Type 0 where
  pub long : length after ≡ 64
  pub done : (i : ℕ) → i < b → get_or after i 0 ≡ bit_or (get_or before i 0) (f i)
  pub rest : (i : ℕ) → b ≤ i → get_or after i 0 ≡ get_or before i 0
  pub ends : (i e : ℕ) → i < b → bit (f i) e ≡ true → bit all e ≡ true

pub added_none : (before : List ℕ) (f : ℕ → ℕ) → length before ≡ 64 → Added before before f 0 0
added_none before f h = record { long = h; done = λ i l. absurd (omega arith); rest = λ i l. refl; ends = λ i e l. absurd (omega arith) }

pub added_turn : (before after : List ℕ) (f : ℕ → ℕ) (all b v w : ℕ) → b < 64 → Added before after f all b → w ≡ f b → v ≡ bit_or (get_or after b 0) w
    → Added before (set after b v) f (bit_or all w) (b + 1)
added_turn before after f all b v w h a u e =
    record {
      long = length-set after b v ∙ a.long;
      done = λ i l. elim (eq-or-lt_of_le (upto i l)) [
        | inl q ↦
            rw q (get_or-set_same after b v 0 (omega (arith, a.long)) ∙ e ∙ ap₂ bit_or (a.rest b (omega arith)) u)
        | inr k ↦ get_or-set_other after b i v 0 (omega arith) ∙ a.done i k
      ];
      rest = λ i l. get_or-set_other after b i v 0 (omega arith) ∙ a.rest i (omega arith);
      ends = λ i x l q. bit_or_lem all w x ∙ elim (eq-or-lt_of_le (upto i l)) [
        | inl s ↦ or_right (bit all x) (bit w x) (ap (λ (z : ℕ). bit z x) u ∙ subst (λ (z : ℕ). bit (f z) x ≡ true) s q)
        | inr k ↦ or_left (bit all x) (bit w x) (a.ends i x k q)
      ];
    }
  where
    upto : (i : ℕ) → i < b + 1 → i ≤ b
    upto i l = omega arith

module _ (before after words : List ℕ) (root names : ℕ) (short : Bool) (ν : Placement) (n ends all high : ℕ) (few : n ≤ 64)
    (is : ends ≡ 2 ^ 64 - 1 - word 64 (λ e. ltb e (last_name (bit names) ν))) (upto : high ≡ min (first_name (bit names) ν + 1) n)
    (cut : Added before after (cut_row words root short ends) all high) where
  a : Added before after (added_row words root names short ν) all (min (first_name (bit names) ν + 1) n)
  unfolding added_row
  a = subst (λ (z : ℕ). Added before after (cut_row words root short z) all (min (first_name (bit names) ν + 1) n)) is
      (subst (λ (z : ℕ). Added before after (cut_row words root short ends) all z) upto cut)

  pub added_all : Adds n before after (gathered words root names short ν)
  unfolding test_of
  added_all =
      record {
        adds = λ b e l h. elim (test (leb b (first_name (bit names) ν))) [
          | inl q ↦
              let m = leb-true b (first_name (bit names) ν) q in
              ap (λ (x : ℕ). bit x e) (a.done b (omega arith))
              ∙ bit_or_lem (get_or before b 0) (added_row words root names short ν b) e
              ∙ ap (λ (r : Bool). bit (get_or before b 0) e || r) (added_bit words root names short ν b e m (omega arith) (omega arith))
          | inr q ↦
              let m = leb-false b (first_name (bit names) ν) q in
              ap (λ (x : ℕ). bit x e) (a.rest b (omega arith))
              ∙ sym (or_false (bit (get_or before b 0) e))
              ∙ ap (λ (r : Bool). bit (get_or before b 0) e || r) (sym (none_later words root names short ν b e (omega arith) (omega arith)))
        ];
      }

  pub added_ends : Ends n (gathered words root names short ν) all
  added_ends =
      record {
        ends = λ b e l h q. elim (test (leb b (first_name (bit names) ν))) [
          | inl p ↦
              let m = leb-true b (first_name (bit names) ν) p in
              a.ends b e (omega arith) (added_bit words root names short ν b e m (omega arith) (omega arith) ∙ q)
          | inr p ↦
              let m = leb-false b (first_name (bit names) ν) p in
              absurd (false_not (gathered words root names short ν b e) (none_later words root names short ν b e (omega arith) (omega arith)) q)
        ];
      }
