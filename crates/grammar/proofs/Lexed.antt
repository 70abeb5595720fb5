-- Of the tokens of a text: which round brackets they have, and which numbers.
use Rattle.std.proofs.Common.{ℕ, zero, suc, ◌-◌, arith, Bool, true, false, not, cond, ◌&&◌, ◌||◌, List, [], ◌∷◌, inl, inr, ◌≡◌, refl, sym, ap, ◌∙◌, leb, ltb, eqb, length, eqb-true, ne_eqb, leb-true}
use borrow.Author.Tests.{not-true}
use Rattle.semantics.proofs.Tests.{both, and_left, and_right, or_elim, false_not}
use Rattle.grammar.specs.Token.{Token, plain, signalled, named, number, outside, open_round, close_round, Spelling, spelt, spellings, is_blank, is_digit, begins, spelling_of, digits, number_from, numbered, tokens_past, tokens}
use Rattle.grammar.specs.Brackets.{open_after, deeper, too_deep}
use Rattle.grammar.proofs.Tests.{or_false_left, or_false_right, or_both_false}

-- what holds of each spelling in the table that a text may begin with, and of an outside byte, holds of the spelling found
abbrev every_spelling : (Spelling → Bool) → List Spelling → Bool
every_spelling ok [] = true
every_spelling ok (x ∷ more) = ok x && every_spelling ok more

found : (ok : Spelling → Bool) (P : Spelling → Type 0) (text : List ℕ) → P (spelt (0 ∷ []) outside)
    → ((x : Spelling) → ok x ≡ true → begins x.bytes text ≡ true → P x) → (xs : List Spelling)
    → every_spelling ok xs ≡ true → P (spelling_of xs text)
unfolding spelling_of
found ok P text none each [] good = none
found ok P text none each (x ∷ more) good =
    go (begins x.bytes text) refl (found ok P text none each more (and_right (ok x) (every_spelling ok more) good))
  where
    go : (b : Bool) → begins x.bytes text ≡ b → P (spelling_of more text) → P (cond b x (spelling_of more text))
    go true e p = each x (and_left (ok x) (every_spelling ok more) good) e
    go false e p = p

-- a byte or a token that is no round bracket leaves as many open as before
abbrev bracket : ℕ → Bool
bracket b = eqb b 40 || eqb b 41

abbrev quiet : Token → Bool
quiet (plain m) = not (eqb m open_round || eqb m close_round)
quiet (signalled i) = true
quiet (named u) = true
quiet (number x) = true
quiet outside = true

-- round brackets open after a token
unfoldable pub open_past : ℕ → Token → ℕ
open_past n (plain m) = cond (eqb m open_round) (suc n) (cond (eqb m close_round) (n - 1) n)
open_past n (signalled i) = n
open_past n (named u) = n
open_past n (number x) = n
open_past n outside = n

unfoldable pub deeper_tokens : ℕ → ℕ → List Token → Bool
deeper_tokens limit n [] = false
deeper_tokens limit n (t ∷ ts) = ltb limit (open_past n t) || deeper_tokens limit (open_past n t) ts

unbracketed : (n b : ℕ) → bracket b ≡ false → open_after n b ≡ n
unfolding open_after
unbracketed n b e = rw (or_false_left (eqb b 40) (eqb b 41) e, or_false_right (eqb b 40) (eqb b 41) e)

quiet_past : (n : ℕ) (t : Token) → quiet t ≡ true → open_past n t ≡ n
unfolding open_past
quiet_past n (plain m) e =
    let neither = not-true (eqb m open_round || eqb m close_round) e in
    rw (or_false_left (eqb m open_round) (eqb m close_round) neither, or_false_right (eqb m open_round) (eqb m close_round) neither)
quiet_past n (signalled i) e = refl
quiet_past n (named u) e = refl
quiet_past n (number x) e = refl
quiet_past n outside e = refl

-- the first bytes of a text are no round brackets
abbrev inert : ℕ → List ℕ → Bool
inert zero text = true
inert (suc past) [] = true
inert (suc past) (b ∷ text) = not (bracket b) && inert past text

abbrev no_brackets : List ℕ → Bool
no_brackets [] = true
no_brackets (b ∷ bs) = not (bracket b) && no_brackets bs

-- no spelling has a round bracket after its first byte, and a token that is one begins with one
abbrev begins_bracket : List ℕ → Bool
begins_bracket [] = false
begins_bracket (b ∷ bs) = bracket b

abbrev rest_unbracketed : List ℕ → Bool
rest_unbracketed [] = false
rest_unbracketed (b ∷ bs) = no_brackets bs

begins_inert : (bs text : List ℕ) → begins bs text ≡ true → no_brackets bs ≡ true → inert (length bs) text ≡ true
unfolding begins
begins_inert [] text e good = refl
begins_inert (b ∷ bs) [] e good = refl
begins_inert (b ∷ bs) (c ∷ text) e good =
    both (ap (λ x. not (bracket x)) (sym (eqb-true b c (and_left (eqb b c) (begins bs text) e))) ∙ and_left (not (bracket b)) (no_brackets bs) good)
    (begins_inert bs text (and_right (eqb b c) (begins bs text) e) (and_right (not (bracket b)) (no_brackets bs) good))

begun_inert : (bs : List ℕ) (b : ℕ) (text : List ℕ) → rest_unbracketed bs ≡ true → begins bs (b ∷ text) ≡ true → inert (length bs - 1) text ≡ true
unfolding begins
begun_inert [] b text good e = refl
begun_inert (c ∷ bs) b text good e =
    let less : suc (length bs) - 1 ≡ length bs = omega arith in
    rw less (begins_inert bs text (and_right (eqb c b) (begins bs text) e) good)

spelled_inert : (b : ℕ) (text : List ℕ) → inert (length (spelling_of spellings (b ∷ text)).bytes - 1) text ≡ true
spelled_inert b text =
    found (λ x. rest_unbracketed x.bytes) (λ x. inert (length x.bytes - 1) text ≡ true) (b ∷ text) refl
    (λ x good e. begun_inert x.bytes b text good e) spellings refl

begun_bracket : (bs : List ℕ) (b : ℕ) (text : List ℕ) → begins_bracket bs ≡ true → begins bs (b ∷ text) ≡ true → bracket b ≡ true
unfolding begins
begun_bracket [] b text p e = absurd (false_not false refl p)
begun_bracket (c ∷ bs) b text p e = ap bracket (sym (eqb-true c b (and_left (eqb c b) (begins bs text) e))) ∙ p

spelled_quiet : (b : ℕ) (text : List ℕ) → bracket b ≡ false → quiet (spelling_of spellings (b ∷ text)).token ≡ true
spelled_quiet b text other =
    found (λ x. quiet x.token || begins_bracket x.bytes) (λ x. quiet x.token ≡ true) (b ∷ text) refl
    (λ x good e. elim (or_elim (quiet x.token) (begins_bracket x.bytes) good) [
      | inl q ↦ q
      | inr p ↦ absurd (false_not (bracket b) other (begun_bracket x.bytes b text p e))
    ]) spellings refl

-- a spelled token opens or closes what its first byte does
spelled_open : (n b : ℕ) (text : List ℕ) → open_past n (spelling_of spellings (b ∷ text)).token ≡ open_after n b
unfolding open_past open_after spelling_of begins
spelled_open n b text = go (eqb b 40) (eqb b 41) refl refl
  where
    go : (o c : Bool) → eqb b 40 ≡ o → eqb b 41 ≡ c → open_past n (spelling_of spellings (b ∷ text)).token ≡ open_after n b
    go true c e e' = rw (eqb-true b 40 e)
    go false true e e' = rw (eqb-true b 41 e')
    go false false e e' =
        let other = or_both_false (eqb b 40) (eqb b 41) e e' in
        quiet_past n (spelling_of spellings (b ∷ text)).token (spelled_quiet b text other) ∙ sym (unbracketed n b other)

blank_unbracketed : (b : ℕ) → is_blank b ≡ true → bracket b ≡ false
unfolding is_blank
blank_unbracketed b e =
    elim (or_elim (eqb b 9) (eqb b 32) e) [ inl p ↦ ap bracket (eqb-true b 9 p) | inr p ↦ ap bracket (eqb-true b 32 p) ]

digit_unbracketed : (b : ℕ) → is_digit b ≡ true → bracket b ≡ false
unfolding is_digit
digit_unbracketed b e =
    let low = leb-true 48 b (and_left (leb 48 b) (leb b 57) e) in
    or_both_false (eqb b 40) (eqb b 41) (ne_eqb b 40 (λ p. absurd (omega arith))) (ne_eqb b 41 (λ p. absurd (omega arith)))

digits_inert : (text : List ℕ) → inert (digits text) text ≡ true
unfolding digits
digits_inert [] = refl
digits_inert (b ∷ text) = go (is_digit b) refl (digits_inert text)
  where
    go : (d : Bool) → is_digit b ≡ d → inert (digits text) text ≡ true → inert (cond d (suc (digits text)) 0) (b ∷ text) ≡ true
    go true e r = both (ap not (digit_unbracketed b e)) r
    go false e r = refl

numbered_quiet : (x : ℕ) → quiet (numbered x) ≡ true
unfolding numbered
numbered_quiet x = go (leb x 65535)
  where
    go : (c : Bool) → quiet (cond c (number x) outside) ≡ true
    go true = refl
    go false = refl

-- no deeper in bytes, no deeper in tokens
deep_token : (limit n b : ℕ) (text : List ℕ) (t : Token) (ts : List Token) → open_past n t ≡ open_after n b → deeper limit n (b ∷ text) ≡ false
    → (deeper limit (open_after n b) text ≡ false → deeper_tokens limit (open_after n b) ts ≡ false) → deeper_tokens limit n (t ∷ ts) ≡ false
unfolding deeper deeper_tokens
deep_token limit n b text t ts e shallow more =
    rw e
    (or_both_false (ltb limit (open_after n b)) (deeper_tokens limit (open_after n b) ts)
    (or_false_left (ltb limit (open_after n b)) (deeper limit (open_after n b) text) shallow)
    (more (or_false_right (ltb limit (open_after n b)) (deeper limit (open_after n b) text) shallow)))

deep_byte : (limit n b : ℕ) (text : List ℕ) → bracket b ≡ false → deeper limit n (b ∷ text) ≡ false → deeper limit n text ≡ false
unfolding deeper
deep_byte limit n b text other shallow =
    ap (λ m. deeper limit m text) (sym (unbracketed n b other))
    ∙ or_false_right (ltb limit (open_after n b)) (deeper limit (open_after n b) text) shallow

deep_tokens : (limit n past : ℕ) (text : List ℕ) → inert past text ≡ true → deeper limit n text ≡ false
    → deeper_tokens limit n (tokens_past past text) ≡ false
unfolding tokens_past deeper_tokens
deep_tokens limit n past [] quiet shallow = refl
deep_tokens limit n (suc past) (b ∷ text) quiet shallow =
    deep_tokens limit n past text (and_right (not (bracket b)) (inert past text) quiet)
    (deep_byte limit n b text (not-true (bracket b) (and_left (not (bracket b)) (inert past text) quiet)) shallow)
deep_tokens limit n zero (b ∷ text) quiet shallow =
    go (is_blank b) (is_digit b) refl refl
    (λ m past calm shallow. deep_tokens limit m past text calm shallow)
  where
    word : Spelling
    word = spelling_of spellings (b ∷ text)

    go : (blank digit : Bool) → is_blank b ≡ blank → is_digit b ≡ digit
        → ((m past : ℕ) → inert past text ≡ true → deeper limit m text ≡ false → deeper_tokens limit m (tokens_past past text) ≡ false)
        → deeper_tokens limit n
        (cond blank (tokens_past 0 text)
        (cond digit (numbered (number_from 0 (b ∷ text)) ∷ tokens_past (digits text) text) (word.token ∷ tokens_past (length word.bytes - 1) text)))
        ≡ false
    go true digit e e' more = more n 0 refl (deep_byte limit n b text (blank_unbracketed b e) shallow)
    go false true e e' more =
        deep_token limit n b text (numbered (number_from 0 (b ∷ text))) (tokens_past (digits text) text)
        (quiet_past n (numbered (number_from 0 (b ∷ text))) (numbered_quiet (number_from 0 (b ∷ text)))
        ∙ sym (unbracketed n b (digit_unbracketed b e')))
        shallow (more (open_after n b) (digits text) (digits_inert text))
    go false false e e' more =
        deep_token limit n b text word.token (tokens_past (length word.bytes - 1) text) (spelled_open n b text)
        shallow (more (open_after n b) (length word.bytes - 1) (spelled_inert b text))

pub shallow_tokens : (text : List ℕ) → too_deep text ≡ false → deeper_tokens 32 0 (tokens text) ≡ false
unfolding too_deep tokens
shallow_tokens text shallow = deep_tokens 32 0 0 text refl shallow

-- the numbers that tokens carry
unfoldable pub small_token : Token → Bool
small_token (plain m) = true
small_token (signalled i) = ltb i 16
small_token (named u) = ltb u 3
small_token (number x) = leb x 65535
small_token outside = true

unfoldable pub small_tokens : List Token → Bool
small_tokens [] = true
small_tokens (t ∷ ts) = small_token t && small_tokens ts

numbered_small : (x : ℕ) → small_token (numbered x) ≡ true
unfolding numbered small_token
numbered_small x = go (leb x 65535) refl
  where
    go : (c : Bool) → leb x 65535 ≡ c → small_token (cond c (number x) outside) ≡ true
    go true e = e
    go false e = refl

spelled_small : (text : List ℕ) → small_token (spelling_of spellings text).token ≡ true
unfolding small_token
spelled_small text = found (λ x. small_token x.token) (λ x. small_token x.token ≡ true) text refl (λ x good e. good) spellings refl

small_past : (past : ℕ) (text : List ℕ) → small_tokens (tokens_past past text) ≡ true
unfolding tokens_past small_tokens
small_past past [] = refl
small_past (suc past) (b ∷ text) = small_past past text
small_past zero (b ∷ text) = go (is_blank b) (is_digit b) (λ past. small_past past text)
  where
    word : Spelling
    word = spelling_of spellings (b ∷ text)

    go : (blank digit : Bool) → ((past : ℕ) → small_tokens (tokens_past past text) ≡ true)
        → small_tokens
        (cond blank (tokens_past 0 text)
        (cond digit (numbered (number_from 0 (b ∷ text)) ∷ tokens_past (digits text) text) (word.token ∷ tokens_past (length word.bytes - 1) text)))
        ≡ true
    go true digit more = more 0
    go false true more = both (numbered_small (number_from 0 (b ∷ text))) (more (digits text))
    go false false more = both (spelled_small (b ∷ text)) (more (length word.bytes - 1))

pub small_tokens_lem : (text : List ℕ) → small_tokens (tokens text) ≡ true
unfolding tokens
small_tokens_lem text = small_past 0 text
