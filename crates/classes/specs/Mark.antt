-- A class and the byte that stands for it in the table.
use Rattle.std.specs.Prelude.{ℕ, cond, eqb}
use Rattle.grammar.specs.Class.{letter_class, digit_class, blank_class, bracket_class, joiner_class, line_end_class, other_class}
use Rattle.classes.specs.declared.Class.{Class}
use Rattle.classes.specs.declared.Class.TheVariants.{Letter, Digit, Blank, Bracket, Joiner, LineEnd, Other}

abbrev pub mark_of : Class → ℕ
mark_of Letter = letter_class
mark_of Digit = digit_class
mark_of Blank = blank_class
mark_of Bracket = bracket_class
mark_of Joiner = joiner_class
mark_of LineEnd = line_end_class
mark_of Other = other_class

-- the class of a mark; a byte that is none stands for other
abbrev pub marked : ℕ → Class
marked mark =
    cond (eqb mark letter_class)
    Letter
    (cond (eqb mark digit_class)
    Digit
    (cond (eqb mark blank_class)
    Blank
    (cond (eqb mark bracket_class)
    Bracket
    (cond (eqb mark joiner_class)
    Joiner
    (cond (eqb mark line_end_class)
    LineEnd
    Other)))))
