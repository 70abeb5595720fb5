-- The class of a byte: what it says of the byte, and which spellings begin with a byte of it.
use Rattle.std.proofs.Common.{ℕ, ◌<◌, Bool, true, false, cond, not, ◌&&◌, true≢false, List, [], ◌∷◌, inl, inr, ◌≡◌, refl, sym, ap, ◌∙◌, arith, eqb-true, eq-eqb, ne_eqb, eqb, length, get_or, Option, None}
use borrow.Author.Tests.{lt-leb}
use Rattle.semantics.proofs.Tests.{test}
use Rattle.grammar.specs.Brackets.{open_after}
use Rattle.grammar.specs.Token.{Spelling, spellings, is_blank, is_digit, is_line_end, begins, spelling_of}
use Rattle.grammar.specs.Class.{letter_class, digit_class, blank_class, bracket_class, joiner_class, line_end_class, is_letter, is_bracket, is_joiner, class_of}
use Rattle.grammar.proofs.Sorted.{sorting, given}
use Rattle.classes.specs.declared.Class.{Class}
use Rattle.classes.specs.Mark.{mark_of}
use Rattle.classes.proofs.Marks.{same_mark}
use Rattle.lexer.specs.declared.spellings.Spelling.{Spelling as Row}
use Rattle.lexer.specs.Lexed.{meant}
use Rattle.lexer.specs.Rows.{is_of, starts_as, those, first_row, spelt_by, has_number, all_numbered, Found}
use Rattle.lexer.proofs.Digits.{digit_high}
use Rattle.lexer.proofs.Rows.{first_row_long}

-- ---- what a class says of its byte
-- where a test is false, its class is not given
untested : (l d k r j e : Bool)
    → (d ≡ false → eqb (given l d k r j e) digit_class ≡ false)
    × (k ≡ false → eqb (given l d k r j e) blank_class ≡ false)
    × (e ≡ false → eqb (given l d k r j e) line_end_class ≡ false)
untested true d k r j e = (λ _. refl, λ _. refl, λ _. refl)
untested false true k r j e = (λ h. absurd (true≢false h), λ _. refl, λ _. refl)
untested false false true r j e = (λ _. refl, λ h. absurd (true≢false h), λ _. refl)
untested false false false true j e = (λ _. refl, λ _. refl, λ _. refl)
untested false false false false true e = (λ _. refl, λ _. refl, λ _. refl)
untested false false false false false true = (λ _. refl, λ _. refl, λ h. absurd (true≢false h))
untested false false false false false false = (λ _. refl, λ _. refl, λ _. refl)

either_way : (q : Bool) (c x : ℕ) → (q ≡ true → c ≡ x) → (q ≡ false → eqb c x ≡ false) → q ≡ eqb c x
either_way true c x same other = sym (eq-eqb c x (same refl))
either_way false c x same other = sym (other refl)

module _ (b : ℕ) where
  digit_given : is_digit b ≡ true → class_of b ≡ digit_class
  unfolding class_of is_letter
  digit_given h = let high = digit_high b h in rw (h, lt-leb 97 b (omega arith))

  blank_given : is_blank b ≡ true → class_of b ≡ blank_class
  unfolding sorting
  blank_given h =
      elim (test (eqb b 9)) [
        | inl e ↦ rw (eqb-true b 9 e)
        | inr e ↦ rw (eqb-true b 32 (rw e at h))
      ]

  line_end_given : is_line_end b ≡ true → class_of b ≡ line_end_class
  unfolding sorting
  line_end_given h = rw (eqb-true b 10 h)

  not_given : (is_digit b ≡ false → eqb (class_of b) digit_class ≡ false)
      × (is_blank b ≡ false → eqb (class_of b) blank_class ≡ false)
      × (is_line_end b ≡ false → eqb (class_of b) line_end_class ≡ false)
  unfolding class_of
  not_given = untested (is_letter b) (is_digit b) (is_blank b) (is_bracket b) (is_joiner b) (is_line_end b)

  pub digit_class_lem : is_digit b ≡ eqb (class_of b) digit_class
  digit_class_lem = either_way (is_digit b) (class_of b) digit_class digit_given not_given.0

  pub blank_class_lem : is_blank b ≡ eqb (class_of b) blank_class
  blank_class_lem = either_way (is_blank b) (class_of b) blank_class blank_given not_given.1

  pub line_end_class_lem : is_line_end b ≡ eqb (class_of b) line_end_class
  line_end_class_lem = either_way (is_line_end b) (class_of b) line_end_class line_end_given not_given.2

-- the class that was asked for a byte, and the test that it stands for
module _ (q : ℕ → Bool) (c : Class) (says : (b : ℕ) → q b ≡ eqb (class_of b) (mark_of c)) (r : Class) (b : ℕ) (e : mark_of r ≡ class_of b) where
  pub told : r ≡ c → q b ≡ true
  told h = says b ∙ eq-eqb (class_of b) (mark_of c) (sym e ∙ ap mark_of h)

  pub untold : (r ≡ c → ⊥) → q b ≡ false
  untold h = says b ∙ ne_eqb (class_of b) (mark_of c) (λ s. h (same_mark r c (e ∙ s)))

-- a byte that is no bracket opens and closes none
module _ (b : ℕ) (other : class_of b ≡ bracket_class → ⊥) where
  not_this : (c : ℕ) → class_of c ≡ bracket_class → eqb b c ≡ false
  not_this c e = ne_eqb b c (λ s. other (ap class_of s ∙ e))

  pub unbracketed : (depth : ℕ) → open_after depth b ≡ depth
  unfolding sorting open_after
  unbracketed depth = rw (not_this 40 refl, not_this 41 refl)

-- ---- the spellings that begin with a byte of a class
-- what they, and the rows that have them, are computed by
unfoldable pub choosing : ℕ
unfolding sorting is_of starts_as those spelt_by all_numbered has_number meant
choosing = 0

-- a text that begins with a byte that passes the test
module _ (p : ℕ → Bool) (b : ℕ) (text : List ℕ) (h : p b ≡ true) where
  passed_over : (word : List ℕ) → starts_as p word ≡ false → begins word (b ∷ text) ≡ false
  unfolding starts_as begins
  passed_over [] e = absurd (true≢false e)
  passed_over (x ∷ word) e = rw (ne_eqb x b (λ s. true≢false (sym h ∙ sym (ap p s) ∙ e)))

  those_found : (xs : List Spelling) → spelling_of (those p xs) (b ∷ text) ≡ spelling_of xs (b ∷ text)
  unfolding those spelling_of
  those_found [] = refl
  those_found (x ∷ more) = go (starts_as p x.bytes) refl (those_found more)
    where
      go : (t : Bool) → starts_as p x.bytes ≡ t → spelling_of (those p more) (b ∷ text) ≡ spelling_of more (b ∷ text)
          → spelling_of (cond t (x ∷ those p more) (those p more)) (b ∷ text) ≡ cond (begins x.bytes (b ∷ text)) x (spelling_of more (b ∷ text))
      go true e same = ap (λ (s : Spelling). cond (begins x.bytes (b ∷ text)) x s) same
      go false e same = rw (passed_over x.bytes e) same

-- so only those are looked through
found_among : (p : ℕ → Bool) (text : List ℕ) (r : Option Row) → 0 < length text → p (get_or text 0 0) ≡ true → Found (those p spellings) text r
    → Found spellings text r
found_among p [] r long h found = absurd (omega arith)
found_among p (b ∷ text) r long h found = rw (← those_found p b text h spellings) found

-- a class whose bytes begin no spelling
unfoldable pub begins_none : ℕ → Bool
begins_none k = not (eqb k letter_class) && not (eqb k bracket_class) && not (eqb k joiner_class) && not (eqb k line_end_class)

none_such : those (λ b. begins_none (class_of b)) spellings ≡ []
unfolding choosing begins_none
none_such = refl

module _ (text : List ℕ) (class : Class) (long : 0 < length text) (e : mark_of class ≡ class_of (get_or text 0 0)) where
  -- the rows of this class are the spellings that begin with a byte of it
  pub found_of : (c : Class) (rows : List Row) (r : Option Row) → class ≡ c → r ≡ first_row rows text → spelt_by rows ≡ those (is_of (mark_of c)) spellings
      → all_numbered rows ≡ true → Found spellings text r
  unfolding is_of
  found_of c rows r h first all numbered =
      found_among (is_of (mark_of c)) text r long (eq-eqb (class_of (get_or text 0 0)) (mark_of c) (sym e ∙ ap mark_of h)) (rw (first, ← all) (first_row_long rows text long numbered))

  pub none_of : begins_none (mark_of class) ≡ true → Found spellings text None
  unfolding spelling_of
  none_of h = found_among (λ b. begins_none (class_of b)) text None long (rw (← e) h) (rw none_such refl)
