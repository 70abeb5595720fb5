-- Request 2: the class of a byte.
use Rattle.std.specs.Prelude.{ℕ, zero, suc, Bool, cond, ◌&&◌, List, [], ◌∷◌, leb}
use Prim.Native.Char.{code}
use Prim.Native.String.{String, len, char_at}
use Rattle.grammar.specs.Token.{is_blank, is_digit, is_line_end}
use Rattle.grammar.specs.Spelled.{is_among}

-- the n bytes of a text from its byte k on
unfoldable pub bytes_from : String → ℕ → ℕ → List ℕ
bytes_from text zero k = []
bytes_from text (suc n) k = code (char_at text k) ∷ bytes_from text n (suc k)

unfoldable pub bytes_of : String → List ℕ
bytes_of text = bytes_from text (len text) 0

-- The seven classes, each by the byte that stands for it in the table.
abbrev pub letter_class : ℕ
letter_class = code "a"

abbrev pub digit_class : ℕ
digit_class = code "0"

abbrev pub blank_class : ℕ
blank_class = code "_"

abbrev pub bracket_class : ℕ
bracket_class = code "("

abbrev pub joiner_class : ℕ
joiner_class = code "&"

abbrev pub line_end_class : ℕ
line_end_class = code "$"

abbrev pub other_class : ℕ
other_class = code "."

unfoldable pub is_letter : ℕ → Bool
is_letter b = leb (code "a") b && leb b (code "z")

unfoldable pub is_bracket : ℕ → Bool
is_bracket b = is_among b (bytes_of "()[]{}<>")

unfoldable pub is_joiner : ℕ → Bool
is_joiner b = is_among b (bytes_of "|&^!*=:,")

unfoldable pub class_of : ℕ → ℕ
class_of b =
    cond (is_letter b)
    letter_class
    (cond (is_digit b)
    digit_class
    (cond (is_blank b)
    blank_class
    (cond (is_bracket b)
    bracket_class
    (cond (is_joiner b)
    joiner_class
    (cond (is_line_end b)
    line_end_class
    other_class)))))

-- the classes of the n bytes from b on
unfoldable pub classes_from : ℕ → ℕ → List ℕ
classes_from zero b = []
classes_from (suc n) b = class_of b ∷ classes_from n (suc b)

-- the table: the class of each byte
unfoldable pub class_table : List ℕ
class_table = classes_from 256 0
