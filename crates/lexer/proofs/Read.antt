-- A token read at a place, and blanks before it.
use Rattle.std.proofs.Common.{ℕ, suc, ◌+◌, ◌-◌, ◌≤◌, ◌<◌, true, false, true≢false, List, [], ◌∷◌, ◌≡◌, refl, sym, ap, ◌∙◌, arith, le-leb, length, get_or, take, drop, length-drop, drop_of_length-le, drop-cons, take_all, get_or-drop, Option, Some, None}
use Rattle.grammar.specs.Token.{Token, Spelling, spelling_of, spellings, is_blank, is_digit, numbered, tokens, tokens_past}
use Rattle.grammar.specs.Class.{class_of}
use Rattle.lexer.specs.declared.Lexed.{Lexed}
use Rattle.lexer.specs.declared.Token.{Token as Lexeme}
use Rattle.lexer.specs.declared.Token.TheVariants.{Number, Outside, End}
use Rattle.lexer.specs.Lexed.{meant, is_end, leads, Bounded, Means, Skipped, Munched, Next, told, Small}
use Rattle.lexer.specs.declared.numbers.Numeral.{Numeral}
use Rattle.lexer.specs.declared.spellings.Spelling.{Spelling as Row}
use Rattle.lexer.specs.Rows.{Found}
use Rattle.lexer.proofs.Digits.{digits_more}
use Rattle.lexer.proofs.Tokens.{all_spelt, spelling_long, spelling_fits, number_at, spelling_at}

-- a token of the grammar at this place, up to the place `after`
pub token_read : (text : List ℕ) (at after : ℕ) (t : Lexeme) (g : Token) → Means t g → tokens (drop at text) ≡ g ∷ tokens (drop after text)
    → at < after → after ≤ length text → Next text at (record { token = t; at = after })
unfolding leads
token_read text at after t g means e onward within =
    record {
      read = rw (means.goes, means.same) e;
      within = within;
      onward = λ _. onward;
      finished = λ end. absurd (true≢false (sym end ∙ means.goes));
      bounded = means.bounded;
    }

-- the token of a number, and of one that is too large
pub number_means : (value : Option ℕ) (n : ℕ) → value ≡ Some n → Small value → Means (Number n) (told value)
unfolding told numbered meant is_end
number_means value n e small =
    let h : n ≤ 65535 = rw e at small in
    rw e (record { same = rw (le-leb n 65535 h); goes = refl; bounded = h })

pub none_means : Means Outside (told None)
unfolding told meant is_end
none_means = record { same = refl; goes = refl; bounded = tt }

-- the number whose first digit stands at this place
pub number_read : (text : List ℕ) (at : ℕ) (r : Numeral) (t : Lexeme) → at < length text → is_digit (get_or text at 0) ≡ true
    → Munched text at r → Means t (told r.value) → Next text at (record { token = t; at = r.at })
number_read text at r t h e munched means =
    token_read text at r.at t (told r.value) means
    (number_at text at h e ∙ rw (munched.value, munched.past))
    (omega (arith, munched.past, digits_more text at h e))
    munched.within

-- the rest of a text from this place on, and the class of its first byte
module _ (text : List ℕ) (at : ℕ) where
  rest : take (length text - at) (drop at text) ≡ drop at text
  rest = take_all (length text - at) (drop at text) (omega (arith, length-drop at text))

  pub found_rest : (r : Option Row) → Found spellings (take (length text - at) (drop at text)) r → Found spellings (drop at text) r
  found_rest r found = rw rest at found

  pub rest_class : (class : ℕ) → at < length text → class ≡ class_of (get_or text at 0)
      → (0 < length (take (length text - at) (drop at text))) × (class ≡ class_of (get_or (take (length text - at) (drop at text)) 0 0))
  rest_class class h e =
      let here : at + 0 ≡ at = omega arith in
      rw (rest, get_or-drop at text 0 0, here) (omega (arith, length-drop at text), e)

-- the word or sign that starts at this place, or the byte there, which is outside
module _ (text : List ℕ) (at : ℕ) (h : at < length text) where
  first : Spelling
  first = spelling_of spellings (drop at text)

  first_fits : at + length first.bytes ≤ length text
  unfolding first
  first_fits =
      let fits = rw (← drop-cons text at 0 h) at (spelling_fits spellings (get_or text at 0) (drop (suc at) text)) in
      omega (arith, fits, length-drop (suc at) text)

  first_read : (t : Lexeme) → is_blank (get_or text at 0) ≡ false → is_digit (get_or text at 0) ≡ false → Means t first.token
      → Next text at (record { token = t; at = at + length first.bytes })
  unfolding first all_spelt
  first_read t e d means =
      token_read text at (at + length first.bytes) t first.token means (spelling_at text at h e d)
      (omega (arith, spelling_long spellings refl (drop at text)))
      first_fits

  pub row_read : (r : Row) → Found spellings (drop at text) (Some r) → is_blank (get_or text at 0) ≡ false → is_digit (get_or text at 0) ≡ false
      → Next text at (record { token = r.2; at = at + 1 + length r.1.now })
  unfolding first
  row_read r found e d =
      let read = rw (← found.bytes) at (first_read r.2 e d found.token) in
      let end : at + 1 + length r.1.now ≡ at + suc (length r.1.now) = omega arith in
      rw end read

  pub outside_read : Found spellings (drop at text) None → is_blank (get_or text at 0) ≡ false → is_digit (get_or text at 0) ≡ false
      → Next text at (record { token = Outside; at = at + 1 })
  unfolding first meant is_end
  outside_read found e d = rw (← found) at (first_read Outside e d (rw (← found) (record { same = refl; goes = refl; bounded = tt })))

-- blanks from `at` to `start`
module _ (text : List ℕ) (at start : ℕ) (skipped : Skipped text at start) where
  pub after_blanks : (r : Lexed) → Next text start r → Next text at r
  after_blanks r next =
      record {
        read = skipped.same ∙ next.read;
        within = next.within;
        onward = λ goes. let less = next.onward goes in omega arith;
        finished = next.finished;
        bounded = next.bounded;
      }

  pub end_read : length text ≤ start → Next text at (record { token = End; at = length text })
  unfolding leads is_end tokens tokens_past
  end_read h =
      record {
        read = skipped.same ∙ ap tokens (drop_of_length-le text h);
        within = omega arith;
        onward = λ goes. absurd (true≢false goes);
        finished = λ _. refl;
        bounded = tt;
      }

-- what a caller learns of the token that it was told
module _ (text : List ℕ) (at : ℕ) (r : Lexed) (next : Next text at r) where
  pub token_told : (t : Lexeme) → r.token ≡ t → is_end t ≡ false
      → (tokens (drop at text) ≡ meant t ∷ tokens (drop r.at text)) × (at < r.at) × Bounded t
  unfolding leads
  token_told t e goes = (next.read ∙ rw (e, goes), next.onward (rw e goes), rw e at next.bounded)

  pub end_told : is_end r.token ≡ true → (tokens (drop at text) ≡ []) × (r.at ≡ length text)
  unfolding leads
  end_told e = (next.read ∙ rw e, next.finished e)
