-- `checker::failing::role_place` meets its contract.
use Rattle.std.proofs.Common.{ap, subst, ◌∙◌, sym, length}
use Rattle.semantics.specs.Clause.{breaks}
use Rattle.stored.specs.declared.StoredClause.{StoredClause}
use Rattle.stored.specs.Node.{node_at}
use Rattle.stored.specs.Types.{role_number}
use Rattle.stored.specs.Clause.{stored_at, clause_of}
use Rattle.stored.proofs.Roles.{role_small}
use Rattle.traces.specs.Columns.{trace_of}
use Rattle.intervals.specs.Places.{places, numbered, IsLeast}
use Rattle.checker.specs.Clauses.{clause_at}
use Rattle.checker.proofs.Clauses.{short_trace}
use Rattle.checker.proofs.Verdicts.{other_role, no_place, some_place}
use Rattle.checker.proofs.failing.role_place.Goals as goal

pub returns-then-d-number-clause-place_is : goal.returns-then-d-number-clause-place_is
unfolding clause_at
returns-then-d-number-clause-place_is c =
    let a = c.args in
    let q = c.requires.sounds in
    let role = ap (λ (d : StoredClause). d.role) c.stored_at-d.ensures in
    other_role (node_at a.parts.nodes.now) (stored_at a.parts.clauses.now a.k) (role_number a.role) (role_small a.role) (q.1.sound a.k q.0).role_most (trace_of a.parts.sizes.cycles a.columns.now)
    (λ e. c.if-d-number.true (role ∙ e ∙ sym c.from-number.ensures))

pub returns-then-place-lt-PLACES-clause-place_is : goal.returns-then-place-lt-PLACES-clause-place_is
unfolding clause_at
returns-then-place-lt-PLACES-clause-place_is c =
    let a = c.args in
    let q = c.requires.sounds in
    let x = node_at a.parts.nodes.now in
    let d = stored_at a.parts.clauses.now a.k in
    let σ = trace_of a.parts.sizes.cycles a.columns.now in
    let r = c.clause_place-place in
    let role = ap (λ (d : StoredClause). d.role) c.stored_at-d.ensures in
    let least = subst (λ (d : StoredClause). IsLeast places (numbered (length σ) (breaks (clause_of x d) σ)) r.result) c.stored_at-d.ensures r.ensures.least in
    let small = c.if-place-lt-PLACES.true in
    record { fails = some_place x d (role_number a.role) (role_small a.role) (q.1.sound a.k q.0).role_most σ (short_trace c.requires.laid) r.result least (sym role ∙ c.if-d-number.false ∙ c.from-number.ensures) small; least = least; found = small }

pub returns-else-place-lt-PLACES-clause-place_is : goal.returns-else-place-lt-PLACES-clause-place_is
unfolding clause_at
returns-else-place-lt-PLACES-clause-place_is c =
    let a = c.args in
    let q = c.requires.sounds in
    let x = node_at a.parts.nodes.now in
    let d = stored_at a.parts.clauses.now a.k in
    let σ = trace_of a.parts.sizes.cycles a.columns.now in
    let r = c.clause_place-place in
    let least = subst (λ (d : StoredClause). IsLeast places (numbered (length σ) (breaks (clause_of x d) σ)) r.result) c.stored_at-d.ensures r.ensures.least in
    no_place x d (role_number a.role) (role_small a.role) (q.1.sound a.k q.0).role_most σ (short_trace c.requires.laid) r.result least c.if-place-lt-PLACES.false
