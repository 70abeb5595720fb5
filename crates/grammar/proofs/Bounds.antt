-- The numbers in the tree of a text are those that tokens carry: signals below 16, names below 3, others at most 65,535.
use Rattle.std.proofs.Common.{ℕ, Bool, true, ◌&&◌, List, [], ◌∷◌, ◌≡◌, refl, sym, ap, ◌∙◌, leb, ltb}
use mathlib.Core.Bool.{and_assoc}
use Rattle.grammar.specs.Token.{Token, plain, line_end, close_round, comma_sign, colon_sign, star_sign, close_square, close_squares, close_braces, comparison_sign}
use Rattle.semantics.specs.Formula.{above}
use Rattle.grammar.specs.Tree.{OrP, one_p, or_p, AndP, unit_p, and_p, UnitP, trueP, falseP, signalP, nameP, not_p, bracket_p, OrF, one_f, or_f, AndF, chain_f, and_f, ChopF, unit_f, chop_f, UnitF, pointF, stretchF, wholeF, braceF, slen_f, scountF, sdurF, draw_f, at_f, gap_f, bracketF, starF, TypedPart, TypedClause, pref_c, anti_c, init_c, implies_c, follows_c, triggers_c, Line, assume_l, require_l, TypedSheet}
use Rattle.grammar.specs.Spelled.{say_or_p, say_and_p, say_unit_p, say_compared, say_or_f, say_and_f, say_chop_f, say_unit_f, say_names, say_part, say_clause, say_line, say_lines, say_sheet, Says}
use Rattle.grammar.specs.Small.{small_or_p, small_and_p, small_unit_p, small_or_f, small_and_f, small_chop_f, small_unit_f, small_names, small_part, small_clause, small_line, small_lines, small_sheet}
use Rattle.grammar.proofs.Lexed.{small_token, small_tokens, small_tokens_lem}

-- one thing said after another
joined : {x y : Bool} (a b z : Bool) → x ≡ a && y → y ≡ b && z → x ≡ a && b && z
joined a b z p q = p ∙ ap (λ c. a && c) q ∙ sym (and_assoc a b z)

mutual
  unfolding say_or_p say_and_p say_unit_p small_or_p small_and_p small_unit_p small_token small_tokens

  small_or_p_lem : (p : OrP) (rest : List Token) → small_tokens (say_or_p p rest) ≡ small_or_p p && small_tokens rest
  small_or_p_lem (one_p q) rest = small_and_p_lem q rest
  small_or_p_lem (or_p p q) rest =
      joined (small_or_p p) (small_and_p q) (small_tokens rest) (small_or_p_lem p _) (small_and_p_lem q rest)

  small_and_p_lem : (q : AndP) (rest : List Token) → small_tokens (say_and_p q rest) ≡ small_and_p q && small_tokens rest
  small_and_p_lem (unit_p u) rest = small_unit_p_lem u rest
  small_and_p_lem (and_p q u) rest =
      joined (small_and_p q) (small_unit_p u) (small_tokens rest) (small_and_p_lem q _) (small_unit_p_lem u rest)

  small_unit_p_lem : (u : UnitP) (rest : List Token) → small_tokens (say_unit_p u rest) ≡ small_unit_p u && small_tokens rest
  small_unit_p_lem trueP rest = refl
  small_unit_p_lem falseP rest = refl
  small_unit_p_lem (signalP i) rest = refl
  small_unit_p_lem (nameP u) rest = refl
  small_unit_p_lem (not_p u) rest = small_unit_p_lem u rest
  small_unit_p_lem (bracket_p p) rest = small_or_p_lem p (plain close_round ∷ rest)

mutual
  unfolding say_or_f say_and_f say_chop_f say_unit_f say_compared small_or_f small_and_f small_chop_f small_unit_f small_token small_tokens

  small_or_f_lem : (f : OrF) (rest : List Token) → small_tokens (say_or_f f rest) ≡ small_or_f f && small_tokens rest
  small_or_f_lem (one_f g) rest = small_and_f_lem g rest
  small_or_f_lem (or_f f g) rest =
      joined (small_or_f f) (small_and_f g) (small_tokens rest) (small_or_f_lem f _) (small_and_f_lem g rest)

  small_and_f_lem : (g : AndF) (rest : List Token) → small_tokens (say_and_f g rest) ≡ small_and_f g && small_tokens rest
  small_and_f_lem (chain_f c) rest = small_chop_f_lem c rest
  small_and_f_lem (and_f g c) rest =
      joined (small_and_f g) (small_chop_f c) (small_tokens rest) (small_and_f_lem g _) (small_chop_f_lem c rest)

  small_chop_f_lem : (c : ChopF) (rest : List Token) → small_tokens (say_chop_f c rest) ≡ small_chop_f c && small_tokens rest
  small_chop_f_lem (unit_f u) rest = small_unit_f_lem u rest
  small_chop_f_lem (chop_f c u) rest =
      joined (small_chop_f c) (small_unit_f u) (small_tokens rest) (small_chop_f_lem c _) (small_unit_f_lem u rest)

  small_unit_f_lem : (u : UnitF) (rest : List Token) → small_tokens (say_unit_f u rest) ≡ small_unit_f u && small_tokens rest
  small_unit_f_lem (pointF p) rest = small_or_p_lem p (plain (comparison_sign above) ∷ rest)
  small_unit_f_lem (stretchF p) rest = small_or_p_lem p (plain close_square ∷ rest)
  small_unit_f_lem (wholeF p) rest = small_or_p_lem p (plain close_squares ∷ rest)
  small_unit_f_lem (braceF p) rest = small_or_p_lem p (plain close_braces ∷ rest)
  small_unit_f_lem (slen_f c n) rest = refl
  small_unit_f_lem (scountF p c n) rest = joined (small_or_p p) (leb n 65535) (small_tokens rest) (small_or_p_lem p (plain close_round ∷ say_compared c n rest)) refl
  small_unit_f_lem (sdurF p c n) rest = joined (small_or_p p) (leb n 65535) (small_tokens rest) (small_or_p_lem p (plain close_round ∷ say_compared c n rest)) refl
  small_unit_f_lem (draw_f q i) rest = sym (and_assoc (leb q 65535) (ltb i 16) (small_tokens rest))
  small_unit_f_lem (at_f u) rest = refl
  small_unit_f_lem (gap_f u v a b) rest = joined (ltb u 3) (ltb v 3 && (leb a 65535 && leb b 65535)) (small_tokens rest) refl
      (joined (ltb v 3) (leb a 65535 && leb b 65535) (small_tokens rest) refl (joined (leb a 65535) (leb b 65535) (small_tokens rest) refl refl))
  small_unit_f_lem (bracketF f) rest = small_or_f_lem f (plain close_round ∷ rest)
  small_unit_f_lem (starF f) rest = small_or_f_lem f (plain close_round ∷ plain star_sign ∷ rest)

small_names_lem : (us : List ℕ) (rest : List Token) → small_tokens (say_names us rest) ≡ small_names us && small_tokens rest
unfolding say_names small_names small_token small_tokens
small_names_lem [] rest = refl
small_names_lem (u ∷ us) rest = joined (ltb u 3) (small_names us) (small_tokens rest) refl (small_names_lem us rest)

small_part_lem : (d : TypedPart) (rest : List Token) → small_tokens (say_part d rest) ≡ small_part d && small_tokens rest
unfolding say_part small_part small_token small_tokens
small_part_lem d rest =
    joined (small_or_f d.formula) (small_names d.names) (small_tokens rest)
    (small_or_f_lem d.formula (plain colon_sign ∷ say_names d.names rest)) (small_names_lem d.names rest)

small_two : (d₁ d₂ : TypedPart) (rest : List Token)
    → small_tokens (say_part d₁ (plain comma_sign ∷ say_part d₂ (plain close_round ∷ rest))) ≡ small_part d₁ && small_part d₂ && small_tokens rest
unfolding small_token small_tokens
small_two d₁ d₂ rest =
    joined (small_part d₁) (small_part d₂) (small_tokens rest)
    (small_part_lem d₁ (plain comma_sign ∷ say_part d₂ (plain close_round ∷ rest))) (small_part_lem d₂ (plain close_round ∷ rest))

small_clause_lem : (c : TypedClause) (rest : List Token) → small_tokens (say_clause c rest) ≡ small_clause c && small_tokens rest
unfolding say_clause small_clause small_token small_tokens
small_clause_lem (pref_c d) rest = small_part_lem d (plain close_round ∷ rest)
small_clause_lem (anti_c d) rest = small_part_lem d (plain close_round ∷ rest)
small_clause_lem (init_c d₁ d₂) rest = small_two d₁ d₂ rest
small_clause_lem (implies_c d₁ d₂) rest = small_two d₁ d₂ rest
small_clause_lem (follows_c d₁ d₂ d₃) rest =
    joined (small_part d₁) (small_part d₂ && small_part d₃) (small_tokens rest)
    (small_part_lem d₁ (plain comma_sign ∷ say_part d₂ (plain comma_sign ∷ say_part d₃ (plain close_round ∷ rest)))) (small_two d₂ d₃ rest)
small_clause_lem (triggers_c d₁ d₂ d₃) rest =
    joined (small_part d₁) (small_part d₂ && small_part d₃) (small_tokens rest)
    (small_part_lem d₁ (plain comma_sign ∷ say_part d₂ (plain comma_sign ∷ say_part d₃ (plain close_round ∷ rest)))) (small_two d₂ d₃ rest)

small_lines_lem : (ls : List Line) → small_tokens (say_lines ls) ≡ small_lines ls
unfolding say_lines say_line small_line small_lines small_token small_tokens
small_lines_lem [] = refl
small_lines_lem (assume_l c ∷ ls) = small_clause_lem c (plain line_end ∷ say_lines ls) ∙ ap (λ b. small_clause c && b) (small_lines_lem ls)
small_lines_lem (require_l c ∷ ls) = small_clause_lem c (plain line_end ∷ say_lines ls) ∙ ap (λ b. small_clause c && b) (small_lines_lem ls)

small_said : (t : TypedSheet) → small_tokens (say_sheet t) ≡ small_sheet t
unfolding say_sheet small_sheet small_token small_tokens
small_said t = ap (λ b. leb t.signals 65535 && (leb t.names 65535 && b)) (small_lines_lem t.lines)

pub small : (text : List ℕ) (t : TypedSheet) → Says text t → small_sheet t ≡ true
small text t w = sym (small_said t) ∙ ap small_tokens w.spelled ∙ small_tokens_lem text
