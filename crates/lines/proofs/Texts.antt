-- Laws of texts that are put into bytes: decimal digits, words, lines.
use Rattle.std.proofs.Common.{ℕ, zero, suc, ◌+◌, ◌*◌, ◌/◌, ◌%◌, ◌≤◌, ◌<◌, Bool, true, false, List, [], ◌∷◌, ◌++◌, append_assoc, append-nil, inl, inr, ◌≡◌, refl, sym, ◌∙◌, ap, ap₂, subst, arith, lt-ltb, le-ltb, ltb-true, ltb-false, ltb, length, get_or, set, take, drop, replicate, length-append, take-append-drop, take_all, take-suc, get_or-drop}
use lib.ListN.{length-replicate, get_or-replicate, get_or-eq_default}
use borrow.Rule.Slice.PartMut.{put_mid}
use lib.Seq.{sets, length-sets, sets-eq}
use Rattle.std.proofs.lemmas.Slice.{put_mid-paste}
use Rattle.semantics.proofs.Tests.{test}
use Rattle.stored.specs.Tree.{pick}
use Rattle.stored.proofs.Written.{sets_then, drop_after, get_or_put}
use Rattle.lines.proofs.Copies.{copied_all}
use Rattle.lines.specs.Lines.{digits_of, decimal_of, spaced, line_with, ThreeDigits, refused_word, refused_text, padded, Put}

-- ---- decimal digits
digits_enough : (f g n : ℕ) → n < f → n < g → digits_of f n ≡ digits_of g n
unfolding digits_of pick
digits_enough zero g n p q = absurd (omega arith)
digits_enough (suc f) zero n p q = absurd (omega arith)
digits_enough (suc f) (suc g) n p q = go (ltb n 10) refl (λ h. digits_enough f g (n / 10) (omega arith) (omega arith))
  where
    go : (t : Bool) → ltb n 10 ≡ t → (10 ≤ n → digits_of f (n / 10) ≡ digits_of g (n / 10))
        → pick t ((48 + n) ∷ []) (digits_of f (n / 10) ++ ((48 + n % 10) ∷ [])) ≡ pick t ((48 + n) ∷ []) (digits_of g (n / 10) ++ ((48 + n % 10) ∷ []))
    go true e h = refl
    go false e h = ap (λ (l : List ℕ). l ++ ((48 + n % 10) ∷ [])) (h (ltb-false n 10 e))

pub decimal_one : (n : ℕ) → n < 10 → (48 + n) ∷ [] ≡ decimal_of n
unfolding decimal_of digits_of pick
decimal_one n h = rw (lt-ltb n 10 h)

pub decimal_more : (n : ℕ) → 10 ≤ n → decimal_of (n / 10) ++ ((48 + n % 10) ∷ []) ≡ decimal_of n
unfolding decimal_of digits_of pick
decimal_more n h =
    rw (le-ltb n 10 h) (ap (λ (l : List ℕ). l ++ ((48 + n % 10) ∷ [])) (digits_enough (suc (n / 10)) n (n / 10) (omega arith) (omega arith)))

pub decimal_length : (n : ℕ) → 10 ≤ n → length (decimal_of n) ≡ length (decimal_of (n / 10)) + 1
decimal_length n h = sym (ap length (decimal_more n h)) ∙ length-append (decimal_of (n / 10)) ((48 + n % 10) ∷ [])

pub decimal_some : (n : ℕ) → 1 ≤ length (decimal_of n)
decimal_some n = go (ltb n 10) refl
  where
    go : (t : Bool) → ltb n 10 ≡ t → 1 ≤ length (decimal_of n)
    go true e = let one = ap length (decimal_one n (ltb-true n 10 e)) in omega arith
    go false e = let more = decimal_length n (ltb-false n 10 e) in omega arith

-- how many digits a number has at most
decimal_two : (n : ℕ) → n < 100 → length (decimal_of n) ≤ 2
decimal_two n h = go (ltb n 10) refl
  where
    go : (t : Bool) → ltb n 10 ≡ t → length (decimal_of n) ≤ 2
    go true e = let one = ap length (decimal_one n (ltb-true n 10 e)) in omega arith
    go false e =
        let more = decimal_length n (ltb-false n 10 e) in
        let less : n / 10 < 10 = omega arith in
        let one = ap length (decimal_one (n / 10) less) in
        omega arith

decimal_three : (n : ℕ) → n < 1000 → length (decimal_of n) ≤ 3
decimal_three n h = go (ltb n 10) refl
  where
    go : (t : Bool) → ltb n 10 ≡ t → length (decimal_of n) ≤ 3
    go true e = let one = ap length (decimal_one n (ltb-true n 10 e)) in omega arith
    go false e =
        let more = decimal_length n (ltb-false n 10 e) in
        let less : n / 10 < 100 = omega arith in
        let two = decimal_two (n / 10) less in
        omega arith

-- ---- texts put after one another
pub put_then : {x y z : List ℕ} {at r e : ℕ} {a b : List ℕ} → Put x y at r a → Put y z r e b → Put x z at e (a ++ b)
put_then {x} {y} {z} {at} {r} {e} {a} {b} p q =
    record {
      bytes =
          q.bytes
          ∙ ap₂ (λ (l : List ℕ) (k : ℕ). sets l k b) p.bytes p.end
          ∙ sets_then x at a b;
      end = let long = length-append a b in omega (arith, p.end, q.end);
    }

pub put_size : {x y : List ℕ} {at r : ℕ} {text : List ℕ} → Put x y at r text → length y ≡ length x
put_size {x} {at = at} {text = text} p = ap length p.bytes ∙ length-sets x at text

-- a number, digit by digit
pub put_one : (x : List ℕ) (at n : ℕ) → n < 10 → Put x (set x at (48 + n)) at (at + 1) (decimal_of n)
put_one x at n h =
    let one = decimal_one n h in
    record { bytes = ap (λ (l : List ℕ). sets x at l) one; end = let size = ap length one in omega arith }

pub put_last : {x y : List ℕ} {at r : ℕ} (n : ℕ) → 10 ≤ n → Put x y at r (decimal_of (n / 10)) → Put x (set y r (48 + n % 10)) at (r + 1) (decimal_of n)
put_last {x} {y} {at} {r} n h p =
    subst (λ (l : List ℕ). Put x (set y r (48 + n % 10)) at (r + 1) l) (decimal_more n h)
    (put_then p (record { bytes = refl; end = refl }))

-- bytes y copied over the part of x that has k bytes from `at` on
pub put_part : (x y w : List ℕ) (at k : ℕ) → y ≡ w → length w ≡ k → at + length w ≤ length x → put_mid at k x y ≡ sets x at w
put_part x y w at k same long fits =
    put_mid-paste at k x y w (length w) same long refl
    ∙ ap (λ (l : List ℕ). take at x ++ l ++ drop (at + length w) x) (take_all (length w) w (omega arith))
    ∙ sym (sets-eq w x at fits)

-- a text put at the start of zeros
pub padded_put : (n : ℕ) (l : List ℕ) → length l ≤ n → sets (replicate n 0) 0 l ≡ padded n l
unfolding padded
padded_put n l h =
    let blank = length-replicate {A = ℕ} n 0 in
    copied_all (λ k. get_or l k 0) n (sets (replicate n 0) 0 l) n (omega arith) (length-sets (replicate n 0) 0 l ∙ blank)
    (λ k m.
    elim (test (ltb k (length l))) [
      | inl e ↦ (
          let here : 0 + k ≡ k = omega arith in
          ap (λ (j : ℕ). get_or (sets (replicate n 0) 0 l) j 0) (sym here)
          ∙ get_or_put (replicate n 0) 0 l k (omega arith) (ltb-true k (length l) e))
      | inr e ↦ (
          let past : length l ≤ k = ltb-false k (length l) e in
          let here : k + 0 ≡ k = omega arith in
          ap (λ (j : ℕ). get_or (sets (replicate n 0) 0 l) j 0) (sym here)
          ∙ sym (get_or-drop k (sets (replicate n 0) 0 l) 0 0)
          ∙ ap (λ (t : List ℕ). get_or t 0 0) (drop_after (replicate n 0) 0 l k (omega arith))
          ∙ get_or-drop k (replicate n 0) 0 0
          ∙ ap (λ (j : ℕ). get_or (replicate n 0) j 0) here
          ∙ get_or-replicate n k 0 0 m
          ∙ sym (get_or-eq_default l 0 past))
    ])

-- an array of zeros into which a text was put
pub put_padded : {x y : List ℕ} {r : ℕ} {text : List ℕ} (n : ℕ) → x ≡ replicate n 0 → Put x y 0 r text → r ≤ n → (y ≡ padded n text) × (r ≡ length text) × (r ≤ length y)
put_padded {x} {y} {r} {text} n e p most =
    let size = put_size p ∙ ap length e ∙ length-replicate {A = ℕ} n 0 in
    let end : r ≡ length text = omega (arith, p.end) in
    (p.bytes ∙ ap (λ (l : List ℕ). sets l 0 text) e ∙ padded_put n text (omega arith), end, omega arith)

-- ---- lines
spaced_append : (a b : List ℕ) → spaced (a ++ b) ≡ spaced a ++ spaced b
unfolding spaced
spaced_append [] b = refl
spaced_append (n ∷ a) b =
    ap (λ (l : List ℕ). (32 ∷ decimal_of n) ++ l) (spaced_append a b) ∙ sym (append_assoc (32 ∷ decimal_of n) (spaced a) (spaced b))

-- one number more
spaced_more : (numbers : List ℕ) (t : ℕ) → t < length numbers → spaced (take t numbers) ++ (32 ∷ decimal_of (get_or numbers t 0)) ≡ spaced (take (t + 1) numbers)
unfolding spaced
spaced_more numbers t h =
    let next : suc t ≡ t + 1 = omega arith in
    ap (λ (l : List ℕ). spaced (take t numbers) ++ l) (sym (append-nil (32 ∷ decimal_of (get_or numbers t 0))))
    ∙ sym (spaced_append (take t numbers) (get_or numbers t 0 ∷ []))
    ∙ ap spaced (sym (take-suc numbers t 0 h) ∙ ap (λ (j : ℕ). take j numbers) next)

spaced_room : (numbers : List ℕ) (t : ℕ) → length (spaced (take t numbers)) ≤ length (spaced numbers)
spaced_room numbers t =
    let whole = ap length (sym (ap spaced (take-append-drop t numbers)) ∙ spaced_append (take t numbers) (drop t numbers)) in
    let parts = length-append (spaced (take t numbers)) (spaced (drop t numbers)) in
    omega arith

pub line_length : (word numbers : List ℕ) → length (line_with word numbers) ≡ length word + length (spaced numbers) + 1
unfolding line_with
line_length word numbers =
    let front = length-append word (spaced numbers) in
    let whole = length-append (word ++ spaced numbers) (10 ∷ []) in
    omega arith

-- the next number has room where the line has
pub number_room : (word numbers : List ℕ) (t size : ℕ) → t < length numbers → length (line_with word numbers) ≤ size
    → length word + length (spaced (take t numbers)) + 1 + length (decimal_of (get_or numbers t 0)) < size
number_room word numbers t size h fits =
    let whole = line_length word numbers in
    let more = ap length (spaced_more numbers t h) in
    let parts = length-append (spaced (take t numbers)) (32 ∷ decimal_of (get_or numbers t 0)) in
    let room = spaced_room numbers (t + 1) in
    omega arith

pub newline_room : (word numbers : List ℕ) (t size : ℕ) → length (line_with word numbers) ≤ size → length word + length (spaced (take t numbers)) < size
newline_room word numbers t size fits = omega (arith, line_length word numbers, spaced_room numbers t)

-- a number below 1,000 takes four bytes at most
spaced_cons : (n : ℕ) (numbers : List ℕ) → n < 1000 → length (spaced (n ∷ numbers)) ≤ 4 + length (spaced numbers)
unfolding spaced
spaced_cons n numbers h =
    let few = decimal_three n h in
    let parts = length-append (32 ∷ decimal_of n) (spaced numbers) in
    omega arith

spaced_few : (numbers : List ℕ) → ThreeDigits numbers → length (spaced numbers) ≤ 4 * length numbers
unfolding spaced
spaced_few [] h = omega arith
spaced_few (n ∷ numbers) h = omega (arith, spaced_cons n numbers h.0, spaced_few numbers h.1)

pub line_most : (word numbers : List ℕ) → ThreeDigits numbers → length (line_with word numbers) ≤ length word + 4 * length numbers + 1
line_most word numbers h = omega (arith, line_length word numbers, spaced_few numbers h)

pub line_fits : (word numbers : List ℕ) (size : ℕ) → (length word + 4 * length numbers < size) × ThreeDigits numbers → length (line_with word numbers) ≤ size
line_fits word numbers size h = omega (arith, line_most word numbers h.1, h.0)

pub refused_length : (number : ℕ) → number < 1000 → length (refused_text number) ≤ 24
unfolding refused_text
refused_length number h = omega (arith, line_most refused_word (number ∷ []) (h, omega arith))

-- the line so far, from the front of x on: its word and t of its numbers
module _ {x y : List ℕ} {r : ℕ} (word numbers : List ℕ) (t : ℕ) (put : Put x y 0 r (word ++ spaced (take t numbers))) where
  module _ (pre : (length word + 4 * length numbers < length x) × ThreeDigits numbers) where
    pub number_fits : t < length numbers → r + 1 + length (decimal_of (get_or numbers t 0)) < length y
    number_fits h =
        omega (
          arith,
          put.end,
          put_size put,
          length-append word (spaced (take t numbers)),
          number_room word numbers t (length x) h (line_fits word numbers (length x) pre),
        )

    pub newline_fits : r < length y
    newline_fits =
        omega (
          arith,
          put.end,
          put_size put,
          length-append word (spaced (take t numbers)),
          newline_room word numbers t (length x) (line_fits word numbers (length x) pre),
        )

  pub put_number : {z : List ℕ} {e : ℕ} → t < length numbers → Put (set y r 32) z (r + 1) e (decimal_of (get_or numbers t 0))
      → Put x z 0 e (word ++ spaced (take (t + 1) numbers))
  put_number h next =
      let more = put_then put (put_then {a = 32 ∷ []} (record { bytes = refl; end = refl }) next) in
      rw (← spaced_more numbers t h, ← append_assoc word (spaced (take t numbers))) more

  pub put_newline : length numbers ≤ t → Put x (set y r 10) 0 (r + 1) (line_with word numbers)
  unfolding line_with
  put_newline all = put_then (rw (take_all t numbers all) at put) (record { bytes = refl; end = refl })
