-- `stored::masks::reach_table` meets its contract.
use Rattle.std.proofs.Common.{◌≡◌, refl, ◌∙◌, ap, arith, ℕ, length-set}
use Rattle.stored.proofs.Entries.{entries_none, entries_next, entries_all}
use Rattle.stored.proofs.Reach.{table_next}
use Rattle.stored.specs.Node.{node_at}
use Rattle.stored.specs.Tree.{earlier}
use Rattle.stored.specs.Reach.{reach_at, node_reach, reach_table}
use Rattle.stored.proofs.masks.reach_table.Goals as goal

pub loop-i-init : goal.loop-i-init
loop-i-init c = (refl, entries_none _ 64)

pub loop-i-preserved : goal.loop-i-preserved
loop-i-preserved c =
    let at = c.loop-i in (
      length-set at.table at.i _ ∙ at.invariant.0,
      entries_next _ at.table at.i _ (omega arith) at.invariant.1
          (table_next _ at.table at.i _ at.invariant.1 (c.node_reach.ensures ∙ ap (node_reach _) c.node_at.ensures)),
    )

pub returns : goal.returns
unfolding reach_table
returns c =
    let same : c.loop-i.i ≡ c.args.n = omega arith in
    entries_all _ 64 _ _ c.loop-i.invariant.0 (λ k. c.loop-i.invariant.1 k ∙ ap (λ (i : ℕ). earlier i 0 (reach_at (node_at c.args.nodes.now)) k) same)
