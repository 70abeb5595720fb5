-- `tables::fill::fill` meets its contract.
use Rattle.std.proofs.Common.{refl, arith, eq-eqb}
use Rattle.stored.specs.Reach.{joint, entry_of}
use Rattle.tables.specs.Ready.{apart}
use Rattle.tables.proofs.Fills.{sofar_none, sofar_before, sofar_turn, sofar_pass, sofar_all, given_other}
use Rattle.tables.proofs.fill.fill.Goals as goal
use Rattle.tables.proofs.fill.fill.Goals.{then-reach-i-ne0, else-reach-i-ne0}

pub loop-i-init : goal.loop-i-init
loop-i-init c =
    let p = c.requires in
    (refl, sofar_none _ p.kept)

pub offset_bounds-reach-i : goal.offset_bounds-reach-i
offset_bounds-reach-i c = omega (arith, c.requires.given.0.few_nodes)

pub bounds-reach-i : goal.bounds-reach-i
bounds-reach-i c = omega (arith, c.requires.given.0.few_nodes, c.requires.given.1)

pub put_node-requires : goal.put_node-requires
put_node-requires c =
    let at = c.loop-i in
    let g = c.requires.given.0 in
    record { given = given_other _ at.words g.columned at.invariant.0 g; before = sofar_before g.few_cycles at.i at.words at.invariant.1; known_node = c.loop-i-test.true }

pub loop-i-preserved : goal.loop-i-preserved
unfolding apart joint entry_of
loop-i-preserved c =
    let at = c.loop-i in
    let a = c.args in
    let few = c.requires.given.0.few_cycles in
    elim c.if-reach-i-ne0.branch [
      | then-reach-i-ne0 w ↦ sofar_turn few at.i a.words.now at.words _ c.if-reach-i-ne0.words w.words-is w.put_node.auto.words at.invariant.0
          w.put_node.ensures at.invariant.1
      | else-reach-i-ne0 w ↦ sofar_pass few at.i a.words.now at.words c.if-reach-i-ne0.words w.words-is at.invariant.0 c.loop-i-test.true
          (eq-eqb _ _ w.if-reach-i-ne0.false) at.invariant.1
    ]

pub returns : goal.returns
returns c =
    let at = c.loop-i in
    sofar_all at.i at.words c.loop-i-test.false at.invariant.1
