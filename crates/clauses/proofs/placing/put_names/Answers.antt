-- `clauses::placing::put_names` meets its contract.
use Rattle.std.proofs.Common.{◌-◌, arith, sym, ◌∙◌}
use Rattle.semantics.specs.Proposition.{bit}
use Rattle.semantics.specs.Formula.{at}
use Rattle.plans.specs.Plan.{there}
use Rattle.clauses.proofs.Names.{names_all, name_passed, name_marked, name_placed}
use Rattle.clauses.proofs.placing.put_names.Goals as goal

pub loop-u-init : goal.loop-u-init
loop-u-init c = there

pub loop-u-preserved-then-own : goal.loop-u-preserved-then-own
loop-u-preserved-then-own c =
    let named = sym c.has_name.ensures ∙ c.if-has_name.true in
    name_placed (c.loop-u.u - 1) c.loop-u.u (bit c.args.names) (at c.args.f) (omega arith) c.loop-u.auto.u c.args.own c.if-own.true named
    c.loop-u.invariant c.put-node.ensures c.put-node-then-own.ensures

pub loop-u-preserved-else-own : goal.loop-u-preserved-else-own
loop-u-preserved-else-own c =
    let named = sym c.has_name.ensures ∙ c.if-has_name.true in
    name_marked (c.loop-u.u - 1) c.loop-u.u (bit c.args.names) (at c.args.f) (omega arith) c.loop-u.auto.u c.args.own c.if-own.false named
    c.loop-u.invariant c.put-node.ensures

pub loop-u-preserved : goal.loop-u-preserved
loop-u-preserved c =
    let not_named = sym c.has_name.ensures ∙ c.if-has_name.false in
    name_passed (c.loop-u.u - 1) c.loop-u.u (bit c.args.names) (at c.args.f) (omega arith) c.loop-u.auto.u c.args.own not_named c.loop-u.invariant

pub returns : goal.returns
returns c = names_all c.args.own c.loop-u.u (bit c.args.names) (at c.args.f) c.loop-u-test.false c.loop-u.invariant
