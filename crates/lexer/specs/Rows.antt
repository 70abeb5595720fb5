-- The lexer's tables of spellings: rows of a word or sign and its token.
use Rattle.std.specs.Prelude.{ℕ, Bool, true, false, cond, ◌&&◌, List, [], ◌∷◌, ◌≡◌, Option, Some, None, leb, ltb, eqb}
use Rattle.std.specs.Borrow.{Bor}
use Rattle.std.specs.List.{starts_with, find}
use Rattle.std.specs.Option.{option_map}
use Rattle.grammar.specs.Class.{class_of}
use Rattle.grammar.specs.Token.{Spelling, spelt, outside, spelling_of}
use Rattle.lexer.specs.declared.Token.{Token as Lexeme}
use Rattle.lexer.specs.declared.Token.TheVariants.{Plain, Signal, Name, Number, Outside, End}
use Rattle.lexer.specs.declared.spellings.Spelling.{Spelling as Row}
use Rattle.lexer.specs.Lexed.{meant, Means}

-- a byte of this class
unfoldable pub is_of : ℕ → ℕ → Bool
is_of class b = eqb (class_of b) class

-- the spellings whose first byte passes a test
unfoldable pub starts_as : (ℕ → Bool) → List ℕ → Bool
starts_as p [] = true
starts_as p (b ∷ word) = p b

unfoldable pub those : (ℕ → Bool) → List Spelling → List Spelling
those p [] = []
those p (x ∷ more) = cond (starts_as p x.bytes) (x ∷ those p more) (those p more)

-- the first row with this first byte whose other bytes the text begins with
unfoldable pub row_with : List Row → ℕ → List ℕ → Option Row
row_with rows b text = find (λ x. eqb x.0 b && starts_with eqb text x.1.now) rows

-- the first row whose word or sign the text begins with
unfoldable pub first_row : List Row → List ℕ → Option Row
first_row rows [] = None
first_row rows (b ∷ text) = row_with rows b text

-- the row that is lent
abbrev pub lent : Option (Bor Row) → Option Row
lent r = option_map (λ x. x.now) r

-- the rows as spellings of the grammar
unfoldable pub spelt_by : List Row → List Spelling
spelt_by [] = []
spelt_by (x ∷ rows) = spelt (x.0 ∷ x.1.now) (meant x.2) ∷ spelt_by rows

-- each row has the token of a word, a sign, a signal or a name
unfoldable pub has_number : Lexeme → Bool
has_number (Plain k) = leb k 36
has_number (Signal k) = ltb k 16
has_number (Name u) = ltb u 3
has_number (Number n) = false
has_number Outside = false
has_number End = false

unfoldable pub all_numbered : List Row → Bool
all_numbered [] = true
all_numbered (x ∷ rows) = has_number x.2 && all_numbered rows

-- a row has the bytes and the token of a spelling, and no row says that a byte is outside
pub record Spells (r : Row) (x : Spelling) : Type 0 where
  pub bytes : r.0 ∷ r.1.now ≡ x.bytes
  pub token : Means r.2 x.token

abbrev pub IsRow : Option Row → Spelling → Type 0
IsRow None x = spelt (0 ∷ []) outside ≡ x
IsRow (Some r) x = Spells r x

-- r is the first spelling of the table that the text begins with
abbrev pub Found : List Spelling → List ℕ → Option Row → Type 0
Found table text r = IsRow r (spelling_of table text)
