-- The states and nodes of the pieces of a formula, and of pieces joined; nobody need believe it.
use Rattle.std.specs.Prelude.{ℕ, zero, suc, ◌+◌, ◌≤◌, ◌<◌, List, ◌⊎◌, ◌≡◌, Option}
use Rattle.semantics.specs.Formula.{Comparison}
use Rattle.grammar.specs.Token.{plain, open_round, close_round, comma_sign}
use Rattle.grammar.specs.Tree.{OrP, OrF, AndF, ChopF, UnitF, slen_f, draw_f, at_f, gap_f, bracketF}
use Rattle.grammar.specs.Reader.{OrHoleF, AndHoleF, HoleF, State, sign, a_number, a_name, a_signal, a_comparison, about_or_p, about_or_f, has_or_f, about_and_f, has_and_f, about_chop_f, has_chop_f, about_unit_f, has_unit_f, start_f}
use Rattle.typed.specs.Draft.{Draft, put_over, comparison_number, put_or_p, put_or_f, put_and_f, put_chop_f, put_unit_f}
use Rattle.propositions.specs.declared.nodes.Nodes.{Nodes}
use Rattle.propositions.specs.Reads.{Closes}
use Rattle.propositions.specs.Propositions.{about_bracket_p}

-- <a>, [a], [[a]], {{a}} after the opening sign
abbrev pub about_bounded : ℕ → (OrP → State) → State
about_bounded close k = about_or_p (λ p. sign close (k p))

abbrev pub put_bounded : ℕ → OrP → Draft → Draft
put_bounded op p d = put_over op 0 0 (put_or_p p d)

-- slen after its word
abbrev pub about_slen : (Comparison × ℕ → State) → State
about_slen k = a_comparison (λ c. a_number (λ n. k (c, n)))

abbrev pub put_slen : Comparison × ℕ → Draft → Draft
put_slen t d = put_unit_f (slen_f t.0 t.1) d

-- scount and sdur after their word
abbrev pub about_counted : (OrP × Comparison × ℕ → State) → State
about_counted k = about_bracket_p (λ p. a_comparison (λ c. a_number (λ n. k (p, c, n))))

abbrev pub put_counted : ℕ → OrP × Comparison × ℕ → Draft → Draft
put_counted op t d = put_over op (comparison_number t.1) t.2 (put_or_p t.0 d)

-- draw, at and gap after their word
abbrev pub about_draw : (ℕ × ℕ → State) → State
about_draw k = sign open_round (a_number (λ q. sign comma_sign (a_signal (λ i. sign close_round (k (q, i))))))

abbrev pub put_draw : ℕ × ℕ → Draft → Draft
put_draw t d = put_unit_f (draw_f t.0 t.1) d

abbrev pub about_at : (ℕ → State) → State
about_at k = sign open_round (a_name (λ u. sign close_round (k u)))

abbrev pub put_at : ℕ → Draft → Draft
put_at u d = put_unit_f (at_f u) d

abbrev pub about_gap : (ℕ × ℕ × ℕ × ℕ → State) → State
about_gap k =
    sign open_round
    (a_name (λ u. sign comma_sign (a_name (λ v. sign comma_sign
    (a_number (λ a. sign comma_sign (a_number (λ b. sign close_round (k (u, v, a, b))))))))))

abbrev pub put_gap : ℕ × ℕ × ℕ × ℕ → Draft → Draft
put_gap t d = put_unit_f (gap_f t.0 t.1 t.2 t.3) d

-- How tightly a formula binds: level 0 is a single piece, level 1 joins pieces by ^, level 2 joins those by &, level 3 those by |.
abbrev pub Tree : ℕ → Type 0
Tree zero = UnitF
Tree (suc zero) = ChopF
Tree (suc (suc zero)) = AndF
Tree (suc (suc (suc l))) = OrF

-- what stands before it, and what comes after the whole
abbrev pub Hole : ℕ → Type 0
Hole zero = HoleF
Hole (suc zero) = AndHoleF
Hole (suc (suc zero)) = OrHoleF
Hole (suc (suc (suc l))) = Unit

abbrev pub Place : ℕ → Type 0
Place l = Hole l × (OrF → State)

abbrev pub about_level : (l : ℕ) → Place l → State
about_level zero w = about_unit_f w.0 w.1
about_level (suc zero) w = about_chop_f w.0 w.1
about_level (suc (suc zero)) w = about_and_f w.0 w.1
about_level (suc (suc (suc l))) w = about_or_f w.1

abbrev pub has_level : (l : ℕ) → Place l → Tree l → State
has_level zero w u = has_unit_f w.0 w.1 u
has_level (suc zero) w c = has_chop_f w.0 w.1 c
has_level (suc (suc zero)) w g = has_and_f w.0 w.1 g
has_level (suc (suc (suc l))) w f = has_or_f w.1 f

abbrev pub put_level : (l : ℕ) → Tree l → Draft → Draft
put_level zero u d = put_unit_f u d
put_level (suc zero) c d = put_chop_f c d
put_level (suc (suc zero)) g d = put_and_f g d
put_level (suc (suc (suc l))) f d = put_or_f f d

-- the star, and the joiners of a level and of those below it
abbrev pub Taken : ℕ → ℕ → Type 0
Taken l n = (n ≡ 34) ⊎ ((33 ≤ n + l) × (n < 33))

-- a piece after the word or sign that it begins with; a bracketed formula from its bracket on
abbrev pub about_piece : ℕ → Place 0 → State
about_piece word w = start_f w.0 w.1 (plain word)

abbrev pub about_bracket_f : Place 0 → State
about_bracket_f w = sign open_round (about_or_f (λ f. sign close_round (has_unit_f w.0 w.1 (bracketF f))))

-- a formula of a level read; a single piece read, from where it is about to be
abbrev pub ReadsLevel : ℕ → ℕ → List ℕ → ℕ → Nodes → Nodes → Option ℕ → Type 0
ReadsLevel l room text at x y r = Closes (about_level l) (has_level l) (put_level l) (Taken l) room text at x y r

abbrev pub ReadsPiece : (Place 0 → State) → ℕ → List ℕ → ℕ → Nodes → Nodes → Option ℕ → Type 0
ReadsPiece about room text at x y r = Closes about (has_level 0) put_unit_f (Taken 0) room text at x y r
