-- `pruning::keep::keep_marked` meets its contract.
use Rattle.std.proofs.Common.{ℕ, ◌+◌, ◌<◌, List, refl, arith, length-set, length-take, get_or, drop, get_or-drop, get_or-take}
use Rattle.stored.specs.Layout.{nodes_start}
use Rattle.stored.specs.Reach.{entry_of}
use Rattle.stored.specs.Written.{node_in, NodeFits}
use Rattle.plans.proofs.Steps.{stay}
use Rattle.emission.proofs.Copies.{node_fits}
use Rattle.pruning.proofs.Keeping.{none_kept, turn_kept, turn_passed, pruned_to}
use Rattle.pruning.proofs.keep.keep_marked.Goals as goal
use Rattle.pruning.proofs.keep.keep_marked.Goals.{then-live, else-live}

-- fields that bytes hold
area_fits : (l : List ℕ) (i : ℕ) → ((k : ℕ) → get_or l k 0 < 256) → NodeFits (node_in l i)
unfolding node_in
area_fits l i h = node_fits (drop nodes_start l) i (λ k. rw (get_or-drop nodes_start l k 0) (h (nodes_start + k)))

pub loop-i-init : goal.loop-i-init
loop-i-init c = let p = c.requires.drafted in (refl, stay p.new, none_kept p.none)

pub loop-i-preserved : goal.loop-i-preserved
loop-i-preserved c =
    let p = c.requires in
    let inv = c.loop-i.invariant in
    let most : c.loop-i.i < c.args.root + 1 = grind (arith, length-take) in
    elim c.if-live.branch [
      | then-live w ↦ let fits = area_fits c.args.draft.now c.loop-i.i (λ k. (c.type_inv.draft k).fits) in
          let put = rw w.node_in.ensures at w.put_copy.ensures in
          let next = turn_kept p.drafted p.marked (omega arith) inv.0 inv.1 inv.2 (rw get_or-take at w.if-live.true) fits put in
          rw (w.out-is, w.map-is) (simp length-set inv.0, next.0, next.1)
      | else-live w ↦ let next = turn_passed p.drafted p.marked (omega arith) inv.1 inv.2 (rw get_or-take at w.if-live.false) in
          rw (w.out-is, w.map-is) (inv.0, next.0, next.1)
    ]

pub returns : goal.returns
unfolding entry_of
returns c =
    let p = c.requires in
    let inv = c.loop-i.invariant in
    pruned_to p.drafted p.marked (grind (arith, length-take, p.marked.inside)) refl inv.1 inv.2
