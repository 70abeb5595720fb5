-- `intervals::search::search` meets its contract.
use Rattle.std.proofs.Common.{◌<◌, refl, sym, ◌∙◌, arith}
use Rattle.intervals.specs.Rows.{type_of}
use Rattle.intervals.proofs.Searching.{first_end, next_end, first_cycle, next_cycle, found_least, next_row, none_found}
use Rattle.intervals.proofs.search.search.Goals as goal

pub places-init : goal.places-init
places-init c = (refl, omega arith, λ i' j k l. absurd (omega arith))

pub loop-j-init : goal.loop-j-init
loop-j-init c =
    let a = c.args in
    let from = c.starts-from in (
      c.places.invariant.0,
      c.next-j.ensures.ok,
      first_end (type_of a.clause_type) a.first.now a.third.now a.answers.now a.n c.places.i from.result from.ensures c.next-j.result c.next-j.ensures,
    )

pub loop-k-init : goal.loop-k-init
loop-k-init c =
    let a = c.args in
    let l = c.loop-j in
    let from = c.starts-from in
    let to = c.ends-to in (
      l.invariant.0,
      c.next-k.ensures.ok,
      first_cycle (type_of a.clause_type) a.first.now a.third.now a.answers.now a.n c.places.i from.result from.ensures l.j to.result to.ensures c.next-k.result c.next-k.ensures,
    )

pub loop-k-preserved : goal.loop-k-preserved
loop-k-preserved c =
    let a = c.args in
    let l = c.loop-j in
    let from = c.starts-from in
    let to = c.ends-to in
    let m = c.loop-k in (
      m.invariant.0,
      c.next-k-in-loop-k.ensures.ok,
      next_cycle (type_of a.clause_type) a.first.now a.third.now a.answers.now a.n c.places.i from.result from.ensures l.j to.result to.ensures m.k
          c.next-k-in-loop-k.result c.next-k-in-loop-k.ensures (sym c.no_reply.ensures ∙ c.if-no_reply.false) m.invariant.2,
    )

pub loop-j-preserved : goal.loop-j-preserved
loop-j-preserved c =
    let a = c.args in
    let l = c.loop-j in
    let from = c.starts-from in
    let m = c.loop-k in (
      m.invariant.0,
      c.next-j-in-loop-j.ensures.ok,
      next_end (type_of a.clause_type) a.first.now a.third.now a.answers.now a.n c.places.i from.result from.ensures l.j c.next-j-in-loop-j.result c.next-j-in-loop-j.ensures l.invariant.2
          (λ k h n. m.invariant.2 k (omega arith) n),
    )

pub places-preserved : goal.places-preserved
places-preserved c =
    let a = c.args in
    let p = c.places in
    let l = c.loop-j in
    (l.invariant.0, omega arith, next_row (type_of a.clause_type) a.first.now a.third.now a.answers.now a.n p.i p.invariant.2 (λ j k h m n. l.invariant.2 j k (omega arith) m n))

pub returns-after-places : goal.returns-after-places
returns-after-places c =
    let a = c.args in
    let p = c.places in
    rw p.invariant.0 (none_found (type_of a.clause_type) a.first.now a.third.now a.answers.now a.n a.best (λ i j k h. p.invariant.2 i j k (omega (arith, c.min-rows.ensures))))

pub returns-then-no_reply : goal.returns-then-no_reply
returns-then-no_reply c =
    let a = c.args in
    let p = c.places in
    let l = c.loop-j in
    let from = c.starts-from in
    let to = c.ends-to in
    let m = c.loop-k in
    let few = c.requires.small.0 in
    let inside : p.i < a.n = omega (arith, c.min-rows.ensures) in
    rw c.min-place.ensures
    (found_least (type_of a.clause_type) a.first.now a.third.now a.answers.now a.n p.i from.result from.ensures l.j to.result to.ensures m.k a.best
    c.requires.small.1 few inside (omega arith) (omega arith) (l.invariant.1 (omega arith)) (m.invariant.1 (omega arith))
    (sym c.no_reply.ensures ∙ c.if-no_reply.true) p.invariant.2 l.invariant.2 m.invariant.2)
