-- The tokens of a text from a place on: a blank passed over, a number, a word or sign.
use Rattle.std.proofs.Common.{ℕ, zero, suc, ◌+◌, ◌-◌, ◌≤◌, ◌<◌, Bool, true, false, cond, ◌&&◌, true≢false, List, [], ◌∷◌, ◌≡◌, refl, sym, ap, ◌∙◌, add-one, arith, ltb-true, ltb, eqb, length, get_or, drop, drop-cons, drop-drop}
use Rattle.semantics.proofs.Tests.{and_left, and_right}
use Rattle.lexer.proofs.Digits.{digit_no_blank}
use Rattle.grammar.specs.Token.{Token, Spelling, spellings, is_blank, is_digit, begins, spelling_of, digits, number_from, numbered, tokens_past, tokens}

-- to pass over k bytes is to read from the k-th on
pub tokens_past_lem : (k : ℕ) (text : List ℕ) → tokens_past k text ≡ tokens (drop k text)
unfolding tokens tokens_past
tokens_past_lem zero text = refl
tokens_past_lem (suc k) [] = refl
tokens_past_lem (suc k) (b ∷ text) = tokens_past_lem k text

-- every spelling has a byte
unfoldable pub all_spelt : List Spelling → Bool
all_spelt [] = true
all_spelt (x ∷ more) = ltb 0 (length x.bytes) && all_spelt more

-- what holds of the one and of the other holds of the one chosen
chosen : (P : Spelling → Type 0) (found : Bool) (x y : Spelling) → (found ≡ true → P x) → P y → P (cond found x y)
chosen P true x y first later = first refl
chosen P false x y first later = later

pub spelling_long : (xs : List Spelling) → all_spelt xs ≡ true → (text : List ℕ) → 0 < length (spelling_of xs text).bytes
unfolding all_spelt spelling_of
spelling_long [] h text = omega arith
spelling_long (x ∷ more) h text =
    chosen (λ s. 0 < length s.bytes) (begins x.bytes text) x (spelling_of more text)
    (λ _. ltb-true 0 (length x.bytes) (and_left (ltb 0 (length x.bytes)) (all_spelt more) h))
    (spelling_long more (and_right (ltb 0 (length x.bytes)) (all_spelt more) h) text)

begins_fits : (word text : List ℕ) → begins word text ≡ true → length word ≤ length text
unfolding begins
begins_fits [] text h = omega arith
begins_fits (x ∷ word) [] h = absurd (true≢false (sym h))
begins_fits (x ∷ word) (b ∷ text) h = let shorter = begins_fits word text (and_right (eqb x b) (begins word text) h) in omega arith

pub spelling_fits : (xs : List Spelling) (b : ℕ) (text : List ℕ) → length (spelling_of xs (b ∷ text)).bytes ≤ length (b ∷ text)
unfolding spelling_of
spelling_fits [] b text = omega arith
spelling_fits (x ∷ more) b text =
    chosen (λ s. length s.bytes ≤ suc (length text)) (begins x.bytes (b ∷ text)) x (spelling_of more (b ∷ text))
    (begins_fits x.bytes (b ∷ text)) (spelling_fits more b text)

-- a text that begins with b
module _ (b : ℕ) (text : List ℕ) where
  blank : is_blank b ≡ true → tokens (b ∷ text) ≡ tokens text
  unfolding tokens tokens_past
  blank h = rw h

  number : is_digit b ≡ true → tokens (b ∷ text) ≡ numbered (number_from 0 (b ∷ text)) ∷ tokens (drop (digits (b ∷ text)) (b ∷ text))
  unfolding tokens tokens_past digits
  number h = rw (digit_no_blank b h, h) (ap (λ (ts : List Token). numbered (number_from 0 (b ∷ text)) ∷ ts) (tokens_past_lem (digits text) text))

  spelling : (long : 0 < length (spelling_of spellings (b ∷ text)).bytes) → is_blank b ≡ false → is_digit b ≡ false
      → tokens (b ∷ text) ≡ (spelling_of spellings (b ∷ text)).token ∷ tokens (drop (length (spelling_of spellings (b ∷ text)).bytes) (b ∷ text))
  unfolding tokens tokens_past
  spelling long h d =
      rw (h, d)
      (ap (λ (ts : List Token). (spelling_of spellings (b ∷ text)).token ∷ ts)
      (tokens_past_lem (length (spelling_of spellings (b ∷ text)).bytes - 1) text ∙ past (length (spelling_of spellings (b ∷ text)).bytes) long))
    where
      past : (n : ℕ) → 0 < n → tokens (drop (n - 1) text) ≡ tokens (drop n (b ∷ text))
      past zero h = absurd (omega arith)
      past (suc n) h = let e : suc n - 1 ≡ n = omega arith in rw e

-- the same at a place of a text
module _ (text : List ℕ) (at : ℕ) (h : at < length text) where
  here : drop at text ≡ get_or text at 0 ∷ drop (suc at) text
  here = drop-cons text at 0 h

  pub blank_at : is_blank (get_or text at 0) ≡ true → tokens (drop at text) ≡ tokens (drop (at + 1) text)
  blank_at e = ap tokens here ∙ blank (get_or text at 0) (drop (suc at) text) e ∙ rw add-one refl

  pub number_at : is_digit (get_or text at 0) ≡ true
      → tokens (drop at text) ≡ numbered (number_from 0 (drop at text)) ∷ tokens (drop (at + digits (drop at text)) text)
  number_at e =
      rw (← drop-drop (digits (drop at text)) at text) (rw here (number (get_or text at 0) (drop (suc at) text) e))

  pub spelling_at : is_blank (get_or text at 0) ≡ false → is_digit (get_or text at 0) ≡ false
      → tokens (drop at text)
      ≡ (spelling_of spellings (drop at text)).token ∷ tokens (drop (at + length (spelling_of spellings (drop at text)).bytes) text)
  unfolding all_spelt
  spelling_at e d =
      rw (← drop-drop (length (spelling_of spellings (drop at text)).bytes) at text)
      (rw here (spelling (get_or text at 0) (drop (suc at) text) (spelling_long spellings refl (get_or text at 0 ∷ drop (suc at) text)) e d))
