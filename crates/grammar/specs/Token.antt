-- Request 1: the words, numbers and signs of a text.
use Rattle.std.specs.Prelude.{ℕ, zero, suc, ◌+◌, ◌-◌, ◌*◌, Bool, true, false, cond, ◌&&◌, ◌||◌, List, [], ◌∷◌, leb, eqb, length}
use Rattle.semantics.specs.Formula.{Comparison, below, at_most, equal, at_least, above}

pub data Token : Type 0 where
  -- a word, a sign or the end of a line, by its number below
  plain : ℕ → Token
  -- s0 to s15, u0 to u2
  signalled : ℕ → Token
  named : ℕ → Token
  -- decimal, at most 65,535
  number : ℕ → Token
  -- anything else
  outside : Token

abbrev pub line_end : ℕ
line_end = 0

abbrev pub assume_word : ℕ
assume_word = 1

abbrev pub require_word : ℕ
require_word = 2

-- the word of a clause's type: type 1 to 6
abbrev pub type_word : ℕ → ℕ
type_word t = 2 + t

abbrev pub true_word : ℕ
true_word = 9

abbrev pub false_word : ℕ
false_word = 10

abbrev pub slen_word : ℕ
slen_word = 11

abbrev pub scount_word : ℕ
scount_word = 12

abbrev pub sdur_word : ℕ
sdur_word = 13

abbrev pub draw_word : ℕ
draw_word = 14

abbrev pub at_word : ℕ
at_word = 15

abbrev pub gap_word : ℕ
gap_word = 16

-- <, <=, =, >=, >
abbrev pub comparison_sign : Comparison → ℕ
comparison_sign below = 17
comparison_sign at_most = 18
comparison_sign equal = 19
comparison_sign at_least = 20
comparison_sign above = 21

abbrev pub open_round : ℕ
open_round = 22

abbrev pub close_round : ℕ
close_round = 23

abbrev pub open_square : ℕ
open_square = 24

abbrev pub close_square : ℕ
close_square = 25

abbrev pub open_squares : ℕ
open_squares = 26

abbrev pub close_squares : ℕ
close_squares = 27

abbrev pub open_braces : ℕ
open_braces = 28

abbrev pub close_braces : ℕ
close_braces = 29

abbrev pub or_sign : ℕ
or_sign = 30

abbrev pub and_sign : ℕ
and_sign = 31

abbrev pub chop_sign : ℕ
chop_sign = 32

abbrev pub not_sign : ℕ
not_sign = 33

abbrev pub star_sign : ℕ
star_sign = 34

abbrev pub colon_sign : ℕ
colon_sign = 35

abbrev pub comma_sign : ℕ
comma_sign = 36

pub record Spelling : Type 0 where
  pub bytes : List ℕ
  pub token : Token

abbrev pub spelt : List ℕ → Token → Spelling
spelt bytes token = record { bytes = bytes; token = token }

-- Each word and sign with its bytes. The first spelling that a text begins with is the one read, so a longer one stands before
-- those it begins with.
abbrev pub spellings : List Spelling
spellings =
    spelt (10 ∷ []) (plain line_end)
    -- assume, require
    ∷ spelt (97 ∷ 115 ∷ 115 ∷ 117 ∷ 109 ∷ 101 ∷ []) (plain assume_word)
    ∷ spelt (114 ∷ 101 ∷ 113 ∷ 117 ∷ 105 ∷ 114 ∷ 101 ∷ []) (plain require_word)
    -- pref, init, anti, implies, follows, triggers
    ∷ spelt (112 ∷ 114 ∷ 101 ∷ 102 ∷ []) (plain (type_word 1))
    ∷ spelt (105 ∷ 110 ∷ 105 ∷ 116 ∷ []) (plain (type_word 2))
    ∷ spelt (97 ∷ 110 ∷ 116 ∷ 105 ∷ []) (plain (type_word 3))
    ∷ spelt (105 ∷ 109 ∷ 112 ∷ 108 ∷ 105 ∷ 101 ∷ 115 ∷ []) (plain (type_word 4))
    ∷ spelt (102 ∷ 111 ∷ 108 ∷ 108 ∷ 111 ∷ 119 ∷ 115 ∷ []) (plain (type_word 5))
    ∷ spelt (116 ∷ 114 ∷ 105 ∷ 103 ∷ 103 ∷ 101 ∷ 114 ∷ 115 ∷ []) (plain (type_word 6))
    -- true, false, slen, scount, sdur, draw, at, gap
    ∷ spelt (116 ∷ 114 ∷ 117 ∷ 101 ∷ []) (plain true_word)
    ∷ spelt (102 ∷ 97 ∷ 108 ∷ 115 ∷ 101 ∷ []) (plain false_word)
    ∷ spelt (115 ∷ 108 ∷ 101 ∷ 110 ∷ []) (plain slen_word)
    ∷ spelt (115 ∷ 99 ∷ 111 ∷ 117 ∷ 110 ∷ 116 ∷ []) (plain scount_word)
    ∷ spelt (115 ∷ 100 ∷ 117 ∷ 114 ∷ []) (plain sdur_word)
    ∷ spelt (100 ∷ 114 ∷ 97 ∷ 119 ∷ []) (plain draw_word)
    ∷ spelt (97 ∷ 116 ∷ []) (plain at_word)
    ∷ spelt (103 ∷ 97 ∷ 112 ∷ []) (plain gap_word)
    -- s10 to s15, s0 to s9
    ∷ spelt (115 ∷ 49 ∷ 48 ∷ []) (signalled 10)
    ∷ spelt (115 ∷ 49 ∷ 49 ∷ []) (signalled 11)
    ∷ spelt (115 ∷ 49 ∷ 50 ∷ []) (signalled 12)
    ∷ spelt (115 ∷ 49 ∷ 51 ∷ []) (signalled 13)
    ∷ spelt (115 ∷ 49 ∷ 52 ∷ []) (signalled 14)
    ∷ spelt (115 ∷ 49 ∷ 53 ∷ []) (signalled 15)
    ∷ spelt (115 ∷ 48 ∷ []) (signalled 0)
    ∷ spelt (115 ∷ 49 ∷ []) (signalled 1)
    ∷ spelt (115 ∷ 50 ∷ []) (signalled 2)
    ∷ spelt (115 ∷ 51 ∷ []) (signalled 3)
    ∷ spelt (115 ∷ 52 ∷ []) (signalled 4)
    ∷ spelt (115 ∷ 53 ∷ []) (signalled 5)
    ∷ spelt (115 ∷ 54 ∷ []) (signalled 6)
    ∷ spelt (115 ∷ 55 ∷ []) (signalled 7)
    ∷ spelt (115 ∷ 56 ∷ []) (signalled 8)
    ∷ spelt (115 ∷ 57 ∷ []) (signalled 9)
    -- u0, u1, u2
    ∷ spelt (117 ∷ 48 ∷ []) (named 0)
    ∷ spelt (117 ∷ 49 ∷ []) (named 1)
    ∷ spelt (117 ∷ 50 ∷ []) (named 2)
    -- [[ ]] {{ }} <= >= are each one sign
    ∷ spelt (91 ∷ 91 ∷ []) (plain open_squares)
    ∷ spelt (93 ∷ 93 ∷ []) (plain close_squares)
    ∷ spelt (123 ∷ 123 ∷ []) (plain open_braces)
    ∷ spelt (125 ∷ 125 ∷ []) (plain close_braces)
    ∷ spelt (60 ∷ 61 ∷ []) (plain (comparison_sign at_most))
    ∷ spelt (62 ∷ 61 ∷ []) (plain (comparison_sign at_least))
    -- < = >
    ∷ spelt (60 ∷ []) (plain (comparison_sign below))
    ∷ spelt (61 ∷ []) (plain (comparison_sign equal))
    ∷ spelt (62 ∷ []) (plain (comparison_sign above))
    -- ( ) [ ]
    ∷ spelt (40 ∷ []) (plain open_round)
    ∷ spelt (41 ∷ []) (plain close_round)
    ∷ spelt (91 ∷ []) (plain open_square)
    ∷ spelt (93 ∷ []) (plain close_square)
    -- | & ^ ! * : ,
    ∷ spelt (124 ∷ []) (plain or_sign)
    ∷ spelt (38 ∷ []) (plain and_sign)
    ∷ spelt (94 ∷ []) (plain chop_sign)
    ∷ spelt (33 ∷ []) (plain not_sign)
    ∷ spelt (42 ∷ []) (plain star_sign)
    ∷ spelt (58 ∷ []) (plain colon_sign)
    ∷ spelt (44 ∷ []) (plain comma_sign)
    ∷ []

-- tab and space
unfoldable pub is_blank : ℕ → Bool
is_blank b = eqb b 9 || eqb b 32

unfoldable pub is_line_end : ℕ → Bool
is_line_end b = eqb b 10

unfoldable pub is_digit : ℕ → Bool
is_digit b = leb 48 b && leb b 57

-- the text begins with these bytes
unfoldable pub begins : List ℕ → List ℕ → Bool
begins [] text = true
begins (x ∷ xs) [] = false
begins (x ∷ xs) (b ∷ text) = eqb x b && begins xs text

-- the first spelling that the text begins with, else the byte that it begins with, which is outside
unfoldable pub spelling_of : List Spelling → List ℕ → Spelling
spelling_of [] text = spelt (0 ∷ []) outside
spelling_of (x ∷ more) text = cond (begins x.bytes text) x (spelling_of more text)

-- how many digits the text begins with, and the number they stand for after the digits of `high`
unfoldable pub digits : List ℕ → ℕ
digits [] = 0
digits (b ∷ text) = cond (is_digit b) (suc (digits text)) 0

unfoldable pub number_from : ℕ → List ℕ → ℕ
number_from high [] = high
number_from high (b ∷ text) = cond (is_digit b) (number_from (high * 10 + (b - 48)) text) high

unfoldable pub numbered : ℕ → Token
numbered n = cond (leb n 65535) (number n) outside

-- The tokens of a text, of which the first `past` bytes belong to the token before. Blanks stand between tokens and are none.
unfoldable pub tokens_past : ℕ → List ℕ → List Token
tokens_past past [] = []
tokens_past (suc past) (b ∷ text) = tokens_past past text
tokens_past zero (b ∷ text) =
    cond (is_blank b)
    (tokens_past 0 text)
    (cond (is_digit b)
    (numbered (number_from 0 (b ∷ text)) ∷ tokens_past (digits text) text)
    ((spelling_of spellings (b ∷ text)).token ∷ tokens_past (length (spelling_of spellings (b ∷ text)).bytes - 1) text))

unfoldable pub tokens : List ℕ → List Token
tokens text = tokens_past 0 text
