-- The bytes that stand for classes.
use Rattle.std.proofs.Common.{◌≡◌, ℕ, Bool, true, false, not, eqb, eq-eqb, ne_eqb, inl, inr, refl, sym, ap, ◌∙◌, rules}
use denote.Enum.Bare.{sameb, same_true, same_false, differs_true, differs_false}
use Rattle.semantics.proofs.Tests.{test}
use Rattle.classes.specs.contracts.Class.{the_type}
use Rattle.grammar.specs.Token.{is_digit, is_blank, is_line_end}
use Rattle.grammar.specs.Class.{is_letter, is_bracket, is_joiner, class_of}
use Rattle.grammar.proofs.Sorted.{given}
use Rattle.classes.specs.declared.Class.{Class}
use Rattle.classes.specs.declared.Class.TheVariants.{Letter, Digit, Blank, Bracket, Joiner, LineEnd, Other}
use Rattle.classes.specs.Mark.{mark_of, marked}

marked_mark : (c : Class) → marked (mark_of c) ≡ c
marked_mark Letter = refl
marked_mark Digit = refl
marked_mark Blank = refl
marked_mark Bracket = refl
marked_mark Joiner = refl
marked_mark LineEnd = refl
marked_mark Other = refl

-- what a comparison of two classes says
module _ (c d : Class) where
  pub equal_true : sameb the_type c d ≡ true → c ≡ d
  equal_true h = same_true the_type (search rules) c d h

  pub equal_false : sameb the_type c d ≡ false → c ≡ d → ⊥
  equal_false h = same_false the_type c d h

  pub differ_true : not (sameb the_type c d) ≡ true → c ≡ d → ⊥
  differ_true h = differs_true the_type c d h

  pub differ_false : not (sameb the_type c d) ≡ false → c ≡ d
  differ_false h = differs_false the_type (search rules) c d h

-- no byte stands for two classes
pub same_mark : (c d : Class) → mark_of c ≡ mark_of d → c ≡ d
same_mark c d e = sym (marked_mark c) ∙ ap marked e ∙ marked_mark d

pub equal_marks : (c d : Class) → sameb the_type c d ≡ eqb (mark_of c) (mark_of d)
equal_marks c d =
    elim (test (sameb the_type c d)) [
      | inl h ↦ h ∙ sym (eq-eqb (mark_of c) (mark_of d) (ap mark_of (equal_true c d h)))
      | inr h ↦ h ∙ sym (ne_eqb (mark_of c) (mark_of d) (λ e. equal_false c d h (same_mark c d e)))
    ]

given_mark : (l d k r j e : Bool) → mark_of (marked (given l d k r j e)) ≡ given l d k r j e
given_mark true d k r j e = refl
given_mark false true k r j e = refl
given_mark false false true r j e = refl
given_mark false false false true j e = refl
given_mark false false false false true e = refl
given_mark false false false false false true = refl
given_mark false false false false false false = refl

pub class_mark : (b : ℕ) → mark_of (marked (class_of b)) ≡ class_of b
unfolding class_of
class_mark b = given_mark (is_letter b) (is_digit b) (is_blank b) (is_bracket b) (is_joiner b) (is_line_end b)
