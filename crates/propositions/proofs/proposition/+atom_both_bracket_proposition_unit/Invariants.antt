-- The cycle of calls {atom, both, bracket, proposition, unit}: in round brackets a piece is a proposition again, with one bracket fewer to open.
use Rattle.std.proofs.Common.{◌+◌, ◌-◌, ◌*◌, length}
use Rattle.grammar.specs.Reader.{about_or_p, has_or_p}
use Rattle.typed.specs.Draft.{put_or_p, put_and_p}
use Rattle.propositions.specs.Reads.{Ended}
use Rattle.propositions.specs.Propositions.{about_both, has_both, ByAnd}
use Rattle.propositions.proofs.Propositions.{ByNone}
use Rattle.propositions.proofs.proposition.+atom_both_bracket_proposition_unit.Given as goal

-- five steps for each bracket that may be opened
abbrev pub decreases-atom : goal.decreases-atom
decreases-atom l = 5 * l.depth + 1

abbrev pub decreases-both : goal.decreases-both
decreases-both l = 5 * l.depth + 3

abbrev pub decreases-bracket : goal.decreases-bracket
decreases-bracket l = 5 * l.depth

abbrev pub decreases-proposition : goal.decreases-proposition
decreases-proposition l = 5 * l.depth + 4

abbrev pub decreases-unit : goal.decreases-unit
decreases-unit l = 5 * l.depth + 2

abbrev pub invariant-both-loop-joiner : goal.invariant-both-loop-joiner
invariant-both-loop-joiner l = Ended about_both has_both put_and_p ByNone l.depth l.text l.at l.fn.nodes l.nodes l.here

abbrev pub decreases-both-loop-joiner : goal.decreases-both-loop-joiner
decreases-both-loop-joiner l = length l.text - l.here

abbrev pub invariant-proposition-loop-joiner : goal.invariant-proposition-loop-joiner
invariant-proposition-loop-joiner l = Ended about_or_p has_or_p put_or_p ByAnd l.depth l.text l.at l.fn.nodes l.nodes l.here

abbrev pub decreases-proposition-loop-joiner : goal.decreases-proposition-loop-joiner
decreases-proposition-loop-joiner l = length l.text - l.here
