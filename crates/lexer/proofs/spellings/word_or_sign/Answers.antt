-- `lexer::spellings::word_or_sign` meets its contract: the rows of a class are the grammar's spellings that begin with a byte of it.
use Rattle.std.proofs.Common.{refl, inl, inr}
use Rattle.classes.specs.declared.Class.TheVariants.{Letter, Bracket, Joiner, LineEnd}
use Rattle.lexer.proofs.Classes.{choosing, begins_none, found_of, none_of}
use Rattle.lexer.proofs.spellings.word_or_sign.Goals as goal

pub returns-in-Letter : goal.returns-in-Letter
unfolding choosing
returns-in-Letter c = let pre = c.requires in found_of _ _ pre.0 pre.1 Letter _ _ c.in-Letter.is c.find.ensures refl refl

pub returns-in-Bracket : goal.returns-in-Bracket
unfolding choosing
returns-in-Bracket c = let pre = c.requires in found_of _ _ pre.0 pre.1 Bracket _ _ c.in-Bracket.is c.find-in-Bracket.ensures refl refl

pub returns-in-Joiner : goal.returns-in-Joiner
unfolding choosing
returns-in-Joiner c = let pre = c.requires in found_of _ _ pre.0 pre.1 Joiner _ _ c.in-Joiner.is c.find-in-Joiner.ensures refl refl

pub returns-in-LineEnd : goal.returns-in-LineEnd
unfolding choosing
returns-in-LineEnd c = let pre = c.requires in found_of _ _ pre.0 pre.1 LineEnd _ _ c.in-LineEnd.is c.find-in-LineEnd.ensures refl refl

pub returns-in-Digit : goal.returns-in-Digit
unfolding begins_none
returns-in-Digit c =
    let pre = c.requires in
    none_of _ _ pre.0 pre.1 (elim c.in-Digit.is [ inl e ↦ rw e | inr later ↦ elim later [ inl e ↦ rw e | inr e ↦ rw e ] ])
