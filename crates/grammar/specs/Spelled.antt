-- Request 1: how a tree is spelled, and which texts are in the grammar. `sayX t rest` is the tokens of t, then `rest`.
use Rattle.std.specs.Prelude.{ℕ, ◌-◌, Bool, true, false, not, ◌&&◌, ◌||◌, List, [], ◌∷◌, ◌≡◌, eqb, length, get_or}
use Rattle.semantics.specs.Formula.{Comparison, below, above}
use Rattle.grammar.specs.Token.{Token, plain, signalled, named, number, line_end, assume_word, require_word, type_word, true_word, false_word, slen_word, scount_word, sdur_word, draw_word, at_word, gap_word, comparison_sign, open_round, close_round, open_square, close_square, open_squares, close_squares, open_braces, close_braces, or_sign, and_sign, chop_sign, not_sign, star_sign, colon_sign, comma_sign, is_line_end, tokens}
use Rattle.grammar.specs.Tree.{OrP, one_p, or_p, AndP, unit_p, and_p, UnitP, trueP, falseP, signalP, nameP, not_p, bracket_p, OrF, one_f, or_f, AndF, chain_f, and_f, ChopF, unit_f, chop_f, UnitF, pointF, stretchF, wholeF, braceF, slen_f, scountF, sdurF, draw_f, at_f, gap_f, bracketF, starF, TypedPart, TypedClause, pref_c, anti_c, init_c, implies_c, follows_c, triggers_c, Line, assume_l, require_l, TypedSheet}

unfoldable mutual
  pub say_or_p : OrP → List Token → List Token
  say_or_p (one_p p) rest = say_and_p p rest
  say_or_p (or_p p q) rest = say_or_p p (plain or_sign ∷ say_and_p q rest)

  pub say_and_p : AndP → List Token → List Token
  say_and_p (unit_p p) rest = say_unit_p p rest
  say_and_p (and_p p q) rest = say_and_p p (plain and_sign ∷ say_unit_p q rest)

  pub say_unit_p : UnitP → List Token → List Token
  say_unit_p trueP rest = plain true_word ∷ rest
  say_unit_p falseP rest = plain false_word ∷ rest
  say_unit_p (signalP k) rest = signalled k ∷ rest
  say_unit_p (nameP u) rest = named u ∷ rest
  say_unit_p (not_p p) rest = plain not_sign ∷ say_unit_p p rest
  say_unit_p (bracket_p p) rest = plain open_round ∷ say_or_p p (plain close_round ∷ rest)

-- compared by c with n
unfoldable pub say_compared : Comparison → ℕ → List Token → List Token
say_compared c n rest = plain (comparison_sign c) ∷ number n ∷ rest

unfoldable mutual
  pub say_or_f : OrF → List Token → List Token
  say_or_f (one_f f) rest = say_and_f f rest
  say_or_f (or_f f g) rest = say_or_f f (plain or_sign ∷ say_and_f g rest)

  pub say_and_f : AndF → List Token → List Token
  say_and_f (chain_f f) rest = say_chop_f f rest
  say_and_f (and_f f g) rest = say_and_f f (plain and_sign ∷ say_chop_f g rest)

  pub say_chop_f : ChopF → List Token → List Token
  say_chop_f (unit_f f) rest = say_unit_f f rest
  say_chop_f (chop_f f g) rest = say_chop_f f (plain chop_sign ∷ say_unit_f g rest)

  pub say_unit_f : UnitF → List Token → List Token
  say_unit_f (pointF p) rest = plain (comparison_sign below) ∷ say_or_p p (plain (comparison_sign above) ∷ rest)
  say_unit_f (stretchF p) rest = plain open_square ∷ say_or_p p (plain close_square ∷ rest)
  say_unit_f (wholeF p) rest = plain open_squares ∷ say_or_p p (plain close_squares ∷ rest)
  say_unit_f (braceF p) rest = plain open_braces ∷ say_or_p p (plain close_braces ∷ rest)
  say_unit_f (slen_f c n) rest = plain slen_word ∷ say_compared c n rest
  say_unit_f (scountF p c n) rest = plain scount_word ∷ plain open_round ∷ say_or_p p (plain close_round ∷ say_compared c n rest)
  say_unit_f (sdurF p c n) rest = plain sdur_word ∷ plain open_round ∷ say_or_p p (plain close_round ∷ say_compared c n rest)
  say_unit_f (draw_f q k) rest = plain draw_word ∷ plain open_round ∷ number q ∷ plain comma_sign ∷ signalled k ∷ plain close_round ∷ rest
  say_unit_f (at_f u) rest = plain at_word ∷ plain open_round ∷ named u ∷ plain close_round ∷ rest
  say_unit_f (gap_f u v a b) rest =
      plain gap_word ∷ plain open_round ∷ named u ∷ plain comma_sign ∷ named v
      ∷ plain comma_sign ∷ number a ∷ plain comma_sign ∷ number b ∷ plain close_round ∷ rest
  say_unit_f (bracketF f) rest = plain open_round ∷ say_or_f f (plain close_round ∷ rest)
  say_unit_f (starF f) rest = plain open_round ∷ say_or_f f (plain close_round ∷ plain star_sign ∷ rest)

unfoldable pub say_names : List ℕ → List Token → List Token
say_names [] rest = rest
say_names (u ∷ more) rest = named u ∷ say_names more rest

unfoldable pub say_part : TypedPart → List Token → List Token
say_part d rest = say_or_f d.formula (plain colon_sign ∷ say_names d.names rest)

unfoldable pub say_clause : TypedClause → List Token → List Token
say_clause (pref_c d) rest = plain (type_word 1) ∷ plain open_round ∷ say_part d (plain close_round ∷ rest)
say_clause (init_c d₁ d₂) rest = plain (type_word 2) ∷ plain open_round ∷ say_part d₁ (plain comma_sign ∷ say_part d₂ (plain close_round ∷ rest))
say_clause (anti_c d) rest = plain (type_word 3) ∷ plain open_round ∷ say_part d (plain close_round ∷ rest)
say_clause (implies_c d₁ d₂) rest = plain (type_word 4) ∷ plain open_round ∷ say_part d₁ (plain comma_sign ∷ say_part d₂ (plain close_round ∷ rest))
say_clause (follows_c d₁ d₂ d₃) rest =
    plain (type_word 5) ∷ plain open_round ∷ say_part d₁ (plain comma_sign ∷ say_part d₂ (plain comma_sign ∷ say_part d₃ (plain close_round ∷ rest)))
say_clause (triggers_c d₁ d₂ d₃) rest =
    plain (type_word 6) ∷ plain open_round ∷ say_part d₁ (plain comma_sign ∷ say_part d₂ (plain comma_sign ∷ say_part d₃ (plain close_round ∷ rest)))

unfoldable pub say_line : Line → List Token → List Token
say_line (assume_l d) rest = plain assume_word ∷ say_clause d (plain line_end ∷ rest)
say_line (require_l d) rest = plain require_word ∷ say_clause d (plain line_end ∷ rest)

unfoldable pub say_lines : List Line → List Token
say_lines [] = []
say_lines (l ∷ more) = say_line l (say_lines more)

unfoldable pub say_sheet : TypedSheet → List Token
say_sheet t = number t.signals ∷ number t.names ∷ plain line_end ∷ say_lines t.lines

-- no name twice
unfoldable pub is_among : ℕ → List ℕ → Bool
is_among u [] = false
is_among u (v ∷ more) = eqb u v || is_among u more

unfoldable pub none_twice : List ℕ → Bool
none_twice [] = true
none_twice (u ∷ more) = not (is_among u more) && none_twice more

unfoldable pub clause_single : TypedClause → Bool
clause_single (pref_c d) = none_twice d.names
clause_single (init_c d₁ d₂) = none_twice d₁.names && none_twice d₂.names
clause_single (anti_c d) = none_twice d.names
clause_single (implies_c d₁ d₂) = none_twice d₁.names && none_twice d₂.names
clause_single (follows_c d₁ d₂ d₃) = none_twice d₁.names && (none_twice d₂.names && none_twice d₃.names)
clause_single (triggers_c d₁ d₂ d₃) = none_twice d₁.names && (none_twice d₂.names && none_twice d₃.names)

unfoldable pub lines_single : List Line → Bool
lines_single [] = true
lines_single (assume_l d ∷ more) = clause_single d && lines_single more
lines_single (require_l d ∷ more) = clause_single d && lines_single more

-- The text's last byte is a line end. Its last token is one too, and so nothing, not even a blank, stands after the last line.
unfoldable pub ends_line : List ℕ → Bool
ends_line text = is_line_end (get_or text (length text - 1) 0)

-- the text is in the grammar and says t
pub record Says (text : List ℕ) (t : TypedSheet) : Type 0 where
  pub spelled : say_sheet t ≡ tokens text
  pub ended : ends_line text ≡ true
  pub single : lines_single t.lines ≡ true
