-- The cycle of calls {atom, both, bracket, proposition, unit}: in round brackets a piece is a proposition again, with one bracket fewer to open.
use Rattle.std.proofs.Common.{rules}
use Rattle.grammar.specs.Reader.{about_or_p}
use Rattle.propositions.proofs.Chains.{chain_none, chain_first, chain_ends, chain_fails, chain_turn}
use Rattle.propositions.proofs.Propositions.{or_chain, and_chain, unit_ended, whole_none, whole_took}
use Rattle.propositions.proofs.Propositions.{negated_none, negated_took, single_none, single_took, bracket_piece}
use Rattle.propositions.proofs.Went.{either, bracket_inner_none, bracket_close_none, bracket_took}
use Rattle.propositions.proofs.proposition.+atom_both_bracket_proposition_unit.Goals as goal

pub atom-returns-then-eq : goal.atom-returns-then-eq
atom-returns-then-eq t c = bracket_piece c.next-first.ensures (search rules) _ _ _ c.bracket.result c.bracket.ensures

pub atom-returns-in_err-node : goal.atom-returns-in_err-node
atom-returns-in_err-node t c =
    rw c.from_residual.ensures (single_none c.next-first.ensures c.requires.no_not (search rules) c.in_err-node.ensures)

pub atom-returns : goal.atom-returns
atom-returns t c = single_took c.next-first.ensures c.in_ok-node.ensures c.requires.ready.inside c.put.ensures

pub bracket-returns-in_err-inner : goal.bracket-returns-in_err-inner
bracket-returns-in_err-inner t c =
    rw c.from_residual-in_err-inner.ensures (bracket_inner_none about_or_p c.in_ok-open.ensures c.in_err-inner.ensures)

pub bracket-returns : goal.bracket-returns
bracket-returns t c =
    let opens = c.in_ok-open.ensures in
    let inner = c.in_ok-inner.ensures in
    either c.sign.result (bracket_close_none about_or_p opens inner) (λ end. bracket_took about_or_p opens inner) c.sign.ensures

pub unit-returns-in_err-after : goal.unit-returns-in_err-after
unit-returns-in_err-after t c = rw c.from_residual.ensures (negated_none c.nots-signs.ensures c.in_err-after.ensures)

pub unit-returns : goal.unit-returns
unit-returns t c = negated_took c.nots-signs.ensures c.in_ok-after.ensures c.negate.ensures

pub both-returns-in_err-here : goal.both-returns-in_err-here
both-returns-in_err-here t c = rw c.from_residual.ensures (chain_none and_chain c.in_err-here.ensures)

pub both-loop-joiner-init : goal.both-loop-joiner-init
both-loop-joiner-init t c = chain_first and_chain (unit_ended c.in_ok-here.ensures)

pub both-returns-in_err-here-2 : goal.both-returns-in_err-here-2
both-returns-in_err-here-2 t c =
    rw c.from_residual-in_err-here-2.ensures (chain_fails and_chain c.loop-joiner.invariant c.in-Some.ensures c.in_err-here-2.ensures)

pub both-loop-joiner-preserved : goal.both-loop-joiner-preserved
both-loop-joiner-preserved t c =
    chain_turn and_chain c.loop-joiner.invariant c.in-Some.ensures (unit_ended c.in_ok-here-2.ensures) c.join.ensures

pub both-returns : goal.both-returns
both-returns t c = chain_ends and_chain c.loop-joiner.invariant c.in_default.ensures

pub proposition-returns-in_err-here : goal.proposition-returns-in_err-here
proposition-returns-in_err-here t c = rw c.from_residual.ensures (whole_none (chain_none or_chain c.in_err-here.ensures))

pub proposition-loop-joiner-init : goal.proposition-loop-joiner-init
proposition-loop-joiner-init t c = chain_first or_chain c.in_ok-here.ensures

pub proposition-returns-in_err-here-2 : goal.proposition-returns-in_err-here-2
proposition-returns-in_err-here-2 t c =
    rw c.from_residual-in_err-here-2.ensures (whole_none (chain_fails or_chain c.loop-joiner.invariant c.in-Some.ensures c.in_err-here-2.ensures))

pub proposition-loop-joiner-preserved : goal.proposition-loop-joiner-preserved
proposition-loop-joiner-preserved t c =
    chain_turn or_chain c.loop-joiner.invariant c.in-Some.ensures c.in_ok-here-2.ensures c.join.ensures

pub proposition-returns : goal.proposition-returns
proposition-returns t c = whole_took (chain_ends or_chain c.loop-joiner.invariant c.in_default.ensures)
