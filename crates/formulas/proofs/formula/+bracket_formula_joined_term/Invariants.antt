-- The cycle of calls {bracket, formula, joined, term}: pieces joined at a level are read by the level below it, single pieces by `term`, and
-- a bracketed one by `bracket`, inside which there is a formula again, with one bracket fewer to open. The measure goes by the brackets
-- left, then the level.
use Rattle.std.proofs.Common.{◌+◌, ◌-◌, ◌*◌, length}
use Rattle.formulas.specs.Pieces.{about_level, has_level, put_level, Taken}
use Rattle.propositions.specs.Reads.{Ended}
use Rattle.formulas.proofs.formula.+bracket_formula_joined_term.Given as goal

abbrev pub decreases-bracket : goal.decreases-bracket
decreases-bracket l = 7 * l.depth

abbrev pub decreases-formula : goal.decreases-formula
decreases-formula l = 7 * l.depth + 6

abbrev pub decreases-joined : goal.decreases-joined
decreases-joined l = 7 * l.depth + l.level + 2

abbrev pub decreases-term : goal.decreases-term
decreases-term l = 7 * l.depth + 1

abbrev pub invariant-joined-loop-more : goal.invariant-joined-loop-more
invariant-joined-loop-more l =
    Ended (about_level l.level) (has_level l.level) (put_level l.level) (Taken l.below) l.depth l.text l.at l.fn.nodes l.nodes l.here

abbrev pub decreases-joined-loop-more : goal.decreases-joined-loop-more
decreases-joined-loop-more l = length l.text - l.here
