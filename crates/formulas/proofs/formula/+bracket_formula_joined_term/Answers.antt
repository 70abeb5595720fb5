-- The cycle of calls {bracket, formula, joined, term}: pieces joined at a level are read by the level below it, single pieces by `term`, and
-- a bracketed one by `bracket`, inside which there is a formula again, with one bracket fewer to open.
use Rattle.std.proofs.Common.{rules}
use Rattle.propositions.proofs.Chains.{chain_none, chain_first, chain_ends, chain_fails, chain_turn}
use Rattle.formulas.proofs.Formulas.{level_zero, level_chain, formula_reads, term_piece, term_bracket, term_none, bracket_empty, bracket_unclosed, bracket_bare, bracket_star}
use Rattle.formulas.proofs.formula.+bracket_formula_joined_term.Goals as goal

pub bracket-returns-in_err-inner : goal.bracket-returns-in_err-inner
bracket-returns-in_err-inner t c =
    rw c.from_residual-in_err-inner.ensures (bracket_empty c.in_ok-open.ensures c.in_err-inner.ensures)

pub bracket-returns-in_err-close : goal.bracket-returns-in_err-close
bracket-returns-in_err-close t c =
    rw c.from_residual-in_err-close.ensures (bracket_unclosed c.in_ok-open.ensures c.in_ok-inner.ensures c.in_err-close.ensures)

pub bracket-returns-in_default : goal.bracket-returns-in_default
bracket-returns-in_default t c = bracket_bare c.in_ok-open.ensures c.in_ok-inner.ensures c.in_ok-close.ensures c.in_default.ensures

pub bracket-returns : goal.bracket-returns
bracket-returns t c =
    bracket_star c.in_ok-open.ensures c.in_ok-inner.ensures c.in_ok-close.ensures c.in-Some.ensures c.over.ensures

pub formula-returns : goal.formula-returns
formula-returns t c = formula_reads _ _ _ _ _ c.joined.result c.joined.ensures

pub joined-returns-then-level-eq0 : goal.joined-returns-then-level-eq0
joined-returns-then-level-eq0 t c = level_zero _ _ _ _ _ c.term.result c.args.level c.if-level-eq0.true c.term.ensures

pub joined-returns-in_err-here : goal.joined-returns-in_err-here
joined-returns-in_err-here t c =
    rw c.from_residual.ensures
    (chain_none (level_chain c.args.level c.if-level-eq0.false c.requires.known_level) c.in_err-here.ensures)

pub joined-loop-more-init : goal.joined-loop-more-init
joined-loop-more-init t c =
    chain_first (level_chain c.args.level c.if-level-eq0.false c.requires.known_level) c.in_ok-here.ensures

pub joined-returns-in_err-here-2 : goal.joined-returns-in_err-here-2
joined-returns-in_err-here-2 t c =
    rw c.from_residual-in_err-here-2.ensures
    (chain_fails (level_chain c.args.level c.if-level-eq0.false c.requires.known_level) c.loop-more.invariant c.in-Some.ensures
    c.in_err-here-2.ensures)

pub joined-loop-more-preserved : goal.joined-loop-more-preserved
joined-loop-more-preserved t c =
    chain_turn (level_chain c.args.level c.if-level-eq0.false c.requires.known_level) c.loop-more.invariant c.in-Some.ensures
    c.in_ok-here-2.ensures c.join.ensures

pub joined-returns : goal.joined-returns
joined-returns t c =
    chain_ends (level_chain c.args.level c.if-level-eq0.false c.requires.known_level) c.loop-more.invariant c.in_default.ensures

pub term-returns-in-Plain-eq22 : goal.term-returns-in-Plain-eq22
term-returns-in-Plain-eq22 t c = term_bracket c.next-first.ensures _ _ _ c.bracket.result (cc) c.bracket.ensures

pub term-returns-in-Plain : goal.term-returns-in-Plain
term-returns-in-Plain t c = term_piece c.next-first.ensures _ _ _ c.piece.result c.in-Plain.word c.in-Plain.is (search rules) c.piece.ensures

pub term-returns-in_default : goal.term-returns-in_default
term-returns-in_default t c = term_none c.next-first.ensures c.in_default.not-Plain
