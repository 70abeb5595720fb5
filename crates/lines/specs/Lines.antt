-- Texts: numbers in decimal, lines of a word and numbers, and bytes that hold a text.
use Rattle.std.specs.Prelude.{ℕ, zero, suc, ◌+◌, ◌/◌, ◌%◌, ◌<◌, List, [], ◌∷◌, ◌++◌, ◌≡◌, ltb, length, get_or}
use Rattle.std.proofs.lemmas.List.Edits.{sets}
use Rattle.stored.specs.Bytes.{in_order}
use Rattle.stored.specs.Tree.{pick}

-- the last digits of a number, at most so many, the highest first
unfoldable pub digits_of : ℕ → ℕ → List ℕ
digits_of zero number = []
digits_of (suc most) number = pick (ltb number 10) ((48 + number) ∷ []) (digits_of most (number / 10) ++ ((48 + number % 10) ∷ []))

-- a number in decimal
unfoldable pub decimal_of : ℕ → List ℕ
decimal_of number = digits_of (suc number) number

-- each number after a space
unfoldable pub spaced : List ℕ → List ℕ
spaced [] = []
spaced (number ∷ more) = (32 ∷ decimal_of number) ++ spaced more

-- the line of a word and numbers
unfoldable pub line_with : List ℕ → List ℕ → List ℕ
line_with word numbers = word ++ spaced numbers ++ (10 ∷ [])

-- numbers of three digits at most
abbrev pub ThreeDigits : List ℕ → Type 0
ThreeDigits [] = 0 < 1000
ThreeDigits (number ∷ more) = (number < 1000) × ThreeDigits more

abbrev pub refused_word : List ℕ
refused_word = 82 ∷ 69 ∷ 70 ∷ 85 ∷ 83 ∷ 69 ∷ 68 ∷ []

-- "REFUSED number"
unfoldable pub refused_text : ℕ → List ℕ
refused_text number = line_with refused_word (number ∷ [])

-- an array of n bytes with a text at its start, zero past its end
unfoldable pub padded : ℕ → List ℕ → List ℕ
padded n l = in_order n (λ k. get_or l k 0)

-- bytes x became y: from `at` on they are the text, up to r; the others stay
pub record Put (x y : List ℕ) (at r : ℕ) (text : List ℕ) : Type 0 where
  pub bytes : y ≡ sets x at text
  pub end : r ≡ at + length text
