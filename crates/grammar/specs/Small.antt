-- Request 1: the numbers in a tree are those that a text can say: signals below 16, names below 3, other numbers at most 65,535.
use Rattle.std.specs.Prelude.{ℕ, Bool, true, ◌&&◌, List, [], ◌∷◌, leb, ltb}
use Rattle.grammar.specs.Tree.{OrP, one_p, or_p, AndP, unit_p, and_p, UnitP, trueP, falseP, signalP, nameP, not_p, bracket_p, OrF, one_f, or_f, AndF, chain_f, and_f, ChopF, unit_f, chop_f, UnitF, pointF, stretchF, wholeF, braceF, slen_f, scountF, sdurF, draw_f, at_f, gap_f, bracketF, starF, TypedPart, TypedClause, pref_c, anti_c, init_c, implies_c, follows_c, triggers_c, Line, assume_l, require_l, TypedSheet}

unfoldable mutual
  pub small_or_p : OrP → Bool
  small_or_p (one_p p) = small_and_p p
  small_or_p (or_p p q) = small_or_p p && small_and_p q

  pub small_and_p : AndP → Bool
  small_and_p (unit_p p) = small_unit_p p
  small_and_p (and_p p q) = small_and_p p && small_unit_p q

  pub small_unit_p : UnitP → Bool
  small_unit_p trueP = true
  small_unit_p falseP = true
  small_unit_p (signalP k) = ltb k 16
  small_unit_p (nameP u) = ltb u 3
  small_unit_p (not_p p) = small_unit_p p
  small_unit_p (bracket_p p) = small_or_p p

unfoldable mutual
  pub small_or_f : OrF → Bool
  small_or_f (one_f f) = small_and_f f
  small_or_f (or_f f g) = small_or_f f && small_and_f g

  pub small_and_f : AndF → Bool
  small_and_f (chain_f f) = small_chop_f f
  small_and_f (and_f f g) = small_and_f f && small_chop_f g

  pub small_chop_f : ChopF → Bool
  small_chop_f (unit_f f) = small_unit_f f
  small_chop_f (chop_f f g) = small_chop_f f && small_unit_f g

  pub small_unit_f : UnitF → Bool
  small_unit_f (pointF p) = small_or_p p
  small_unit_f (stretchF p) = small_or_p p
  small_unit_f (wholeF p) = small_or_p p
  small_unit_f (braceF p) = small_or_p p
  small_unit_f (slen_f c n) = leb n 65535
  small_unit_f (scountF p c n) = small_or_p p && leb n 65535
  small_unit_f (sdurF p c n) = small_or_p p && leb n 65535
  small_unit_f (draw_f q k) = leb q 65535 && ltb k 16
  small_unit_f (at_f u) = ltb u 3
  small_unit_f (gap_f u v a b) = ltb u 3 && (ltb v 3 && (leb a 65535 && leb b 65535))
  small_unit_f (bracketF f) = small_or_f f
  small_unit_f (starF f) = small_or_f f

unfoldable pub small_names : List ℕ → Bool
small_names [] = true
small_names (u ∷ more) = ltb u 3 && small_names more

unfoldable pub small_part : TypedPart → Bool
small_part d = small_or_f d.formula && small_names d.names

unfoldable pub small_clause : TypedClause → Bool
small_clause (pref_c d) = small_part d
small_clause (init_c d₁ d₂) = small_part d₁ && small_part d₂
small_clause (anti_c d) = small_part d
small_clause (implies_c d₁ d₂) = small_part d₁ && small_part d₂
small_clause (follows_c d₁ d₂ d₃) = small_part d₁ && (small_part d₂ && small_part d₃)
small_clause (triggers_c d₁ d₂ d₃) = small_part d₁ && (small_part d₂ && small_part d₃)

unfoldable pub small_line : Line → Bool
small_line (assume_l c) = small_clause c
small_line (require_l c) = small_clause c

unfoldable pub small_lines : List Line → Bool
small_lines [] = true
small_lines (l ∷ more) = small_line l && small_lines more

unfoldable pub small_sheet : TypedSheet → Bool
small_sheet t = leb t.signals 65535 && (leb t.names 65535 && small_lines t.lines)
