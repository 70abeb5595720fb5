-- The number that digits stand for, read one digit at a time and capped.
use Rattle.std.proofs.Common.{ℕ, suc, ◌+◌, ◌-◌, ◌*◌, ◌≤◌, ◌<◌, Bool, true, false, cond, List, [], ◌∷◌, ◌≡◌, refl, add-one, arith, leb-true, leb-false, ne_eqb, leb, length, get_or, drop, drop_of_length-le, drop-cons, Option, Some, None}
use borrow.Author.Tests.{lt-leb}
use Rattle.semantics.proofs.Tests.{and_left, and_right}
use Rattle.grammar.specs.Token.{Token, outside, is_blank, is_digit, digits, number_from, numbered}
use Rattle.lexer.specs.Lexed.{with_digit, told, Small}

module _ (b : ℕ) (h : is_digit b ≡ true) where
  pub digit_low : 48 ≤ b
  unfolding is_digit
  digit_low = leb-true 48 b (and_left (leb 48 b) (leb b 57) h)

  pub digit_high : b ≤ 57
  unfolding is_digit
  digit_high = leb-true b 57 (and_right (leb 48 b) (leb b 57) h)

-- a digit is no blank
pub digit_no_blank : (b : ℕ) → is_digit b ≡ true → is_blank b ≡ false
unfolding is_blank
digit_no_blank b h = let low = digit_low b h in rw (ne_eqb b 9 (omega arith), ne_eqb b 32 (omega arith))

-- more digits make no number less
number_grows : (text : List ℕ) (high : ℕ) → high ≤ number_from high text
unfolding number_from
number_grows [] high = omega arith
number_grows (b ∷ text) high = go (is_digit b) (number_grows text (high * 10 + (b - 48)))
  where
    go : (more : Bool) → high * 10 + (b - 48) ≤ number_from (high * 10 + (b - 48)) text
        → high ≤ cond more (number_from (high * 10 + (b - 48)) text) high
    go true h = omega arith
    go false h = omega arith

over : (n : ℕ) → 65535 < n → numbered n ≡ outside
unfolding numbered
over n h = rw (lt-leb n 65535 h)

pub with_digit_small : (value : Option ℕ) (b : ℕ) → Small (with_digit value b)
unfolding with_digit
with_digit_small None b = tt
with_digit_small (Some n) b = go (leb (n * 10 + (b - 48)) 65535) refl
  where
    go : (small : Bool) → leb (n * 10 + (b - 48)) 65535 ≡ small → Small (cond small (Some (n * 10 + (b - 48))) None)
    go true e = leb-true (n * 10 + (b - 48)) 65535 e
    go false e = tt

-- what the number read so far becomes by the digits that a text begins with
unfoldable pub read_on : Option ℕ → List ℕ → Token
read_on None text = outside
read_on (Some n) text = numbered (number_from n text)

read_digit : (value : Option ℕ) (b : ℕ) (text : List ℕ) → is_digit b ≡ true → read_on value (b ∷ text) ≡ read_on (with_digit value b) text
unfolding read_on with_digit number_from
read_digit None b text h = refl
read_digit (Some n) b text h = rw h (go (leb (n * 10 + (b - 48)) 65535) refl)
  where
    go : (small : Bool) → leb (n * 10 + (b - 48)) 65535 ≡ small
        → numbered (number_from (n * 10 + (b - 48)) text) ≡ read_on (cond small (Some (n * 10 + (b - 48))) None) text
    go true e = refl
    go false e =
        let high : 65535 < n * 10 + (b - 48) = leb-false (n * 10 + (b - 48)) 65535 e in
        over (number_from (n * 10 + (b - 48)) text) (omega (arith, number_grows text (n * 10 + (b - 48))))

module _ (text : List ℕ) (i : ℕ) where
  -- a digit
  pub digits_more : i < length text → is_digit (get_or text i 0) ≡ true → digits (drop i text) ≡ 1 + digits (drop (i + 1) text)
  unfolding digits
  digits_more h e = rw (drop-cons text i 0 h, e, add-one) (omega arith)

  pub number_more : (value : Option ℕ) → i < length text → is_digit (get_or text i 0) ≡ true
      → read_on value (drop i text) ≡ read_on (with_digit value (get_or text i 0)) (drop (i + 1) text)
  number_more value h e = rw (drop-cons text i 0 h, add-one) (read_digit value (get_or text i 0) (drop (suc i) text) e)

  -- no digit
  pub digits_none : i < length text → is_digit (get_or text i 0) ≡ false → digits (drop i text) ≡ 0
  unfolding digits
  digits_none h e = rw (drop-cons text i 0 h, e)

  pub number_done : (value : Option ℕ) → i < length text → is_digit (get_or text i 0) ≡ false → read_on value (drop i text) ≡ told value
  unfolding read_on told number_from
  number_done None h e = refl
  number_done (Some n) h e = rw (drop-cons text i 0 h, e)

  -- the end of the text
  pub digits_end : length text ≤ i → digits (drop i text) ≡ 0
  unfolding digits
  digits_end h = rw (drop_of_length-le text h)

  pub number_end : (value : Option ℕ) → length text ≤ i → read_on value (drop i text) ≡ told value
  unfolding read_on told number_from
  number_end None h = refl
  number_end (Some n) h = rw (drop_of_length-le text h)
