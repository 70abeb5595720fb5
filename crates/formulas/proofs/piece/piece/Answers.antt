-- `formulas::piece::piece` meets its contract.
use Rattle.formulas.proofs.Formulas.{point_closes, stretch_closes, whole_closes, brace_closes, slen_closes, scount_closes, sdur_closes, draw_closes, at_closes, gap_closes, other_none}
use Rattle.formulas.proofs.piece.piece.Goals as goal

pub returns-in-17 : goal.returns-in-17
returns-in-17 c = point_closes _ _ _ _ _ c.bounded.result c.in-17.is c.bounded.ensures

pub returns-in-24 : goal.returns-in-24
returns-in-24 c = stretch_closes _ _ _ _ _ c.bounded-in-24.result c.in-24.is c.bounded-in-24.ensures

pub returns-in-26 : goal.returns-in-26
returns-in-26 c = whole_closes _ _ _ _ _ c.bounded-in-26.result c.in-26.is c.bounded-in-26.ensures

pub returns-in-28 : goal.returns-in-28
returns-in-28 c = brace_closes _ _ _ _ _ c.bounded-in-28.result c.in-28.is c.bounded-in-28.ensures

pub returns-in-11 : goal.returns-in-11
returns-in-11 c = slen_closes _ _ _ _ _ c.slen.result c.in-11.is (c.slen.ensures c.args.depth)

pub returns-in-12 : goal.returns-in-12
returns-in-12 c = scount_closes _ _ _ _ _ c.counted.result c.in-12.is c.counted.ensures

pub returns-in-13 : goal.returns-in-13
returns-in-13 c = sdur_closes _ _ _ _ _ c.counted-in-13.result c.in-13.is c.counted-in-13.ensures

pub returns-in-14 : goal.returns-in-14
returns-in-14 c = draw_closes _ _ _ _ _ c.draw.result c.in-14.is c.draw.ensures

pub returns-in-15 : goal.returns-in-15
returns-in-15 c = at_closes _ _ _ _ _ c.at_name.result c.in-15.is c.at_name.ensures

pub returns-in-16 : goal.returns-in-16
returns-in-16 c = gap_closes _ _ _ _ _ c.gap.result c.in-16.is c.gap.ensures

pub returns-in_default : goal.returns-in_default
returns-in_default c =
    let rest = c.in_default.in_default-own.rest in
    other_none rest.0.0.0.0.0.0.0.0.0.1 rest.0.0.0.0.0.0.0.0.1 rest.0.0.0.0.0.0.0.1
    rest.0.0.0.0.0.0.1 rest.0.0.0.0.0.1
    rest.0.0.0.0.1 rest.0.0.0.1 rest.0.0.1 rest.0.1 rest.1 c.requires.other_word
