use Rattle.std.proofs.Common.{ℕ, ◌-◌, ◌<◌, Bool, ◌&&◌, eqb, refl, sym, ap, ◌∙◌, arith, length, get_or, replicate}
use Rattle.tables.specs.Table.{standing}
use Rattle.places.specs.Laid.{low_of, last_of}
use Rattle.places.proofs.Loops.{low_last, walked_none, walked_turn}
use Rattle.places.proofs.Walks.{lay_placed, few_cycles, some_cycles, root_rows, walkable_again, walkable_next, walkable_within, find_none, find_closed, find_open, laid_own, relaid, readded, refound, rewalked, walked_unneeded, walked_answer, walked_find, next_over, walked_next, walked_level, places_above, next_below}
use Rattle.places.proofs.walk.+find_walk.Goals as goal

pub find-lay-requires : goal.find-lay-requires
find-lay-requires t c =
    let w = c.requires.walkable in
    record { ready = w.laid.ready; tables = w.laid.tables; inside = w.inside }

pub find-add-some-requires : goal.find-add-some-requires
find-add-some-requires t c =
    let w = c.requires.walkable in
    (root_rows w (lay_placed w c.lay.ensures.columns_after c.lay.ensures.tables_after c.lay.auto.words) w.formulas.premise, few_cycles w, refl)

pub find-returns-then-some-is_premised : goal.find-returns-then-some-is_premised
find-returns-then-some-is_premised t c =
    let w = c.requires.walkable in
    let p = lay_placed w c.lay.ensures.columns_after c.lay.ensures.tables_after c.lay.auto.words in
    let some = c.add-some in
    let none = ap (λ (x : Bool). eqb some.result 0 && x) (sym c.is_premised.ensures) ∙ c.if-some-is_premised.true in
    record { laid = p.laid; rows_kept = c.requires.rows_long; least = find_none w p some.result none some.ensures.ends }

pub find-add-requires : goal.find-add-requires
find-add-requires t c =
    let w = c.requires.walkable in
    (root_rows w (lay_placed w c.lay.ensures.columns_after c.lay.ensures.tables_after c.lay.auto.words) w.formulas.third, few_cycles w, refl)

pub find-search-open-requires : goal.find-search-open-requires
find-search-open-requires t c =
    let w = c.requires.walkable in
    let rows = ap length (c.clear.ensures ∙ ap (λ (k : ℕ). replicate k 0) c.requires.rows_long) in
    record { small = (few_cycles w, w.few); long_enough = (omega (arith, c.add-some.ensures.rows_long), omega (arith, c.add.ensures.rows_long), omega (arith, rows)) }

pub find-returns-then-open-best : goal.find-returns-then-open-best
find-returns-then-open-best t c =
    let w = c.requires.walkable in
    let p = lay_placed w c.lay.ensures.columns_after c.lay.ensures.tables_after c.lay.auto.words in
    let zero = c.clear.ensures ∙ ap (λ (k : ℕ). replicate k 0) c.requires.rows_long in
    record { laid = p.laid; rows_kept = ap length zero; least = find_closed w p c.add-some.ensures.adds c.add.ensures.adds zero c.if-open-best.true c.search-open.ensures }

pub find-walk-requires : goal.find-walk-requires
find-walk-requires t c =
    let w = c.requires.walkable in
    let p = lay_placed w c.lay.ensures.columns_after c.lay.ensures.tables_after c.lay.auto.words in
    (omega (arith, c.decreases), (walkable_within w p, ap length (c.clear.ensures ∙ ap (λ (k : ℕ). replicate k 0) c.requires.rows_long)))

pub find-search-requires : goal.find-search-requires
find-search-requires t c =
    let w = c.requires.walkable in
    record { small = (few_cycles w, w.few); long_enough = (omega (arith, c.add-some.ensures.rows_long), omega (arith, c.add.ensures.rows_long), omega (arith, c.walk.ensures.rows_kept)) }

pub find-returns : goal.find-returns
find-returns t c =
    let w = c.requires.walkable in
    let p = lay_placed w c.lay.ensures.columns_after c.lay.ensures.tables_after c.lay.auto.words in
    let walked = c.walk.ensures in record { laid = relaid p.laid walked.laid; rows_kept = walked.rows_kept; least = find_open w p c.add-some.ensures.adds c.add.ensures.adds (c.clear.ensures ∙ ap (λ (k : ℕ). replicate k 0) c.requires.rows_long) walked.walked c.search.ensures }

pub walk-hopeless-requires : goal.walk-hopeless-requires
walk-hopeless-requires t c = c.requires.walkable

pub walk-returns-then-hopeless : goal.walk-returns-then-hopeless
walk-returns-then-hopeless t c =
    let a = c.args in
    let h = c.hopeless.ensures in
    record { laid = h.laid; rows_kept = c.requires.rows_long; walked = walked_unneeded a.job _ a.spot (h.unneeded c.if-hopeless.true) }

pub walk-answer-requires : goal.walk-answer-requires
walk-answer-requires t c = record { walkable = walkable_again c.requires.walkable c.hopeless.ensures.laid; rows_long = c.requires.rows_long }

pub walk-returns-in-Answers-clause-walked : goal.walk-returns-in-Answers-clause-walked
walk-returns-in-Answers-clause-walked t c =
    let a = c.args in
    let added = readded c.hopeless.ensures.laid a.job.task (standing a.spot.cycles) c.answer.ensures.adds in
    walked_answer a.job _ a.spot c.if-left-eq0.true c.in-Answers.is added

pub walk-find-requires : goal.walk-find-requires
walk-find-requires t c =
    let p = c.requires in
    let a = c.args in
    (places_above a.spot.left t a.job.aim c.in-Place.is c.decreases, (walkable_again p.walkable c.hopeless.ensures.laid, p.rows_long))

pub walk-returns-in-Place-clause-walked : goal.walk-returns-in-Place-clause-walked
walk-returns-in-Place-clause-walked t c =
    let a = c.args in
    let found = refound c.hopeless.ensures.laid a.job.task (standing a.spot.cycles) c.find.ensures.least in
    walked_find a.job _ a.spot c.if-left-eq0.true c.in-Place.is found

pub walk-cycles_of-first-requires : goal.walk-cycles_of-first-requires
unfolding standing
walk-cycles_of-first-requires t c =
    let w = c.requires.walkable in
    (w.inside.stands (3 - c.args.spot.left) (omega (arith, c.if-left-eq0.false)), few_cycles w)

pub walk-loop-t-init : goal.walk-loop-t-init
unfolding standing
walk-loop-t-init t c =
    let w = c.requires.walkable in
    let a = c.args in
    let u = 3 - a.spot.left in
    let at = get_or a.spot.cycles u 0 in
    let stands : at < a.job.n = w.inside.stands u (omega (arith, c.if-left-eq0.false)) in
    let range = low_last c.has_name-moves.result a.job.n at stands in
    let low = c.cycles_of-first.ensures.first in
    let end = c.cycles_of-first.ensures.end in
    let h = c.hopeless.ensures.laid in (
      laid_own h,
      refl,
      refl,
      c.requires.rows_long,
      omega arith,
      omega (arith, range.0, low, end),
      walked_none a.job _ a.best _ a.rows.now _,
    )

pub walk-onto-requires : goal.walk-onto-requires
walk-onto-requires t c = omega (arith, c.requires.walkable.three, c.if-left-eq0.false)

pub walk-walk-least-requires : goal.walk-walk-least-requires
unfolding standing
walk-walk-least-requires t c =
    let w = c.requires.walkable in
    let a = c.args in
    let u = 3 - a.spot.left in
    let at = get_or a.spot.cycles u 0 in
    let stands : at < a.job.n = w.inside.stands u (omega (arith, c.if-left-eq0.false)) in
    let range = low_last c.has_name-moves.result a.job.n at stands in
    let low = c.cycles_of-first.ensures.first in
    let end = c.cycles_of-first.ensures.end in
    let l = c.loop-t in
    let some = c.if-left-eq0.false in
    let next = c.onto in
    let cycle : l.t < a.job.n = omega (arith, range.1, end, c.loop-t-test.true) in (
      next_below a.spot next.result l.t _ t next.ensures some c.decreases,
      (walkable_next w l.least l.t next.result next.ensures l.invariant.0 l.invariant.6.most (omega (arith, some)) cycle, l.invariant.3),
    )

pub walk-loop-t-preserved : goal.walk-loop-t-preserved
walk-loop-t-preserved t c =
    let a = c.args in
    let l = c.loop-t in
    let r = c.walk-least in
    let over = next_over a.job a.spot in (
      relaid l.invariant.0 r.ensures.laid,
      r.auto.columns ∙ l.invariant.1,
      r.auto.words ∙ l.invariant.2,
      r.ensures.rows_kept,
      omega (arith, l.invariant.4),
      omega (arith, c.loop-t-test.true),
      walked_turn a.job _ _ l.t over l.invariant.4 l.invariant.6
          (walked_next a.job _ a.spot l.t c.onto.ensures (rewalked l.invariant.0 a.job _ r.ensures.walked)),
    )

pub walk-returns : goal.walk-returns
unfolding standing
walk-returns t c =
    let w = c.requires.walkable in
    let a = c.args in
    let u = 3 - a.spot.left in
    let at = get_or a.spot.cycles u 0 in
    let stands : at < a.job.n = w.inside.stands u (omega (arith, c.if-left-eq0.false)) in
    let range = low_last c.has_name-moves.result a.job.n at stands in
    let low = c.cycles_of-first.ensures.first in
    let end = c.cycles_of-first.ensures.end in
    let l = c.loop-t in
    let h = c.hopeless.ensures.laid in
    let named = c.has_name-moves.ensures in
    let some = c.if-left-eq0.false in record {
      laid = relaid h l.invariant.0;
      rows_kept = l.invariant.3;
      walked = walked_level a.job _ a.spot w.long (omega (arith, some)) w.three (some_cycles w)
          (low ∙ ap (λ (x : Bool). low_of x at) named) (ap (λ (x : Bool). last_of x a.job.n at) named) (omega (arith, l.invariant.5, end, c.loop-t-test.false))
          (rewalked h a.job _ l.invariant.6);
    }
