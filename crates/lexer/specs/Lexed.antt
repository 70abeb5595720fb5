-- What the lexer reads from a place of a text.
use Rattle.std.specs.Prelude.{ℕ, ◌+◌, ◌-◌, ◌*◌, ◌≤◌, ◌<◌, Bool, true, false, cond, List, [], ◌∷◌, ◌≡◌, Option, Some, None, leb, length, get_or, drop}
use Rattle.grammar.specs.Token.{Token, plain, signalled, named, number, outside, is_blank, digits, number_from, numbered, tokens}
use Rattle.lexer.specs.declared.Lexed.{Lexed}
use Rattle.lexer.specs.declared.Token.{Token as Lexeme}
use Rattle.lexer.specs.declared.Token.TheVariants.{Plain, Signal, Name, Number, Outside, End}
use Rattle.lexer.specs.declared.numbers.Numeral.{Numeral}

-- the grammar's token; the end is none
unfoldable pub meant : Lexeme → Token
meant (Plain k) = plain k
meant (Signal k) = signalled k
meant (Name u) = named u
meant (Number n) = number n
meant Outside = outside
meant End = outside

unfoldable pub is_end : Lexeme → Bool
is_end (Plain k) = false
is_end (Signal k) = false
is_end (Name u) = false
is_end (Number n) = false
is_end Outside = false
is_end End = true

-- a token and the rest; nothing at the end
unfoldable pub leads : Lexeme → List Token → List Token
leads t rest = cond (is_end t) [] (meant t ∷ rest)

-- how large a token's number can be
abbrev pub Bounded : Lexeme → Type 0
Bounded (Plain k) = k ≤ 36
Bounded (Signal k) = k < 16
Bounded (Name u) = u < 3
Bounded (Number n) = n ≤ 65535
Bounded Outside = Unit
Bounded End = Unit

-- a token that is not the end means this one of the grammar
pub record Means (t : Lexeme) (g : Token) : Type 0 where
  pub same : meant t ≡ g
  pub goes : is_end t ≡ false
  pub bounded : Bounded t

-- a number with one more digit, none where it is more than 65,535
unfoldable pub with_digit : Option ℕ → ℕ → Option ℕ
with_digit None b = None
with_digit (Some n) b = cond (leb (n * 10 + (b - 48)) 65535) (Some (n * 10 + (b - 48))) None

-- the token of a number, of none where it is more than 65,535
unfoldable pub told : Option ℕ → Token
told None = outside
told (Some n) = numbered n

abbrev pub Small : Option ℕ → Type 0
Small None = Unit
Small (Some n) = n ≤ 65535

-- only blanks lie between, and r has none
pub record Skipped (text : List ℕ) (at r : ℕ) : Type 0 where
  pub same : tokens (drop at text) ≡ tokens (drop r text)
  pub onward : at ≤ r
  pub filled : r < length text → is_blank (get_or text r 0) ≡ false

-- the number at this place, and the place after its digits
pub record Munched (text : List ℕ) (at : ℕ) (r : Numeral) : Type 0 where
  pub value : numbered (number_from 0 (drop at text)) ≡ told r.value
  pub small : Small r.value
  pub past : at + digits (drop at text) ≡ r.at
  pub within : r.at ≤ length text

-- the token at or after this place, and the place after it
pub record Next (text : List ℕ) (at : ℕ) (r : Lexed) : Type 0 where
  pub read : tokens (drop at text) ≡ leads r.token (tokens (drop r.at text))
  pub within : r.at ≤ length text
  pub onward : is_end r.token ≡ false → at < r.at
  pub finished : is_end r.token ≡ true → r.at ≡ length text
  pub bounded : Bounded r.token
