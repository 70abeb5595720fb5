-- `clauses::requirement::put_requirement` meets its contract.
use Rattle.std.proofs.Common.{ℕ, ◌≤◌, List, arith}
use Rattle.stored.specs.declared.Node.{Node}
use Rattle.stored.specs.Layout.{most_nodes}
use Rattle.stored.specs.Node.{node_at}
use Rattle.plans.specs.Emission.{count, Step}
use Rattle.emission.specs.Copying.{copy_costs}
use Rattle.plans.proofs.Steps.{ready_kept}
use Rattle.emission.proofs.Copied.{costs_most}
use Rattle.clauses.proofs.Joining.{clauses_kept, joined_start, joined_next, joined_done}
use Rattle.clauses.proofs.requirement.put_requirement.Goals as goal

-- nine nodes at most, and then copies of a sheet's
copied_few : {before after : List ℕ} (x : ℕ → Node) (n : ℕ) → Step before after (copy_costs x n) → count before ≤ 9 → n ≤ most_nodes
    → count after ≤ 777
copied_few x n s nine few = omega (arith, s.few, costs_most x n)

pub loop-k-init : goal.loop-k-init
loop-k-init c = joined_start _ (ready_kept c.copy_nodes-map.ensures.0 c.requires.0)

pub loop-k-preserved : goal.loop-k-preserved
loop-k-preserved c =
    let copied = c.copy_nodes-map.ensures in
    let p = c.requires in
    joined_next _ _ _ _ _ (ready_kept copied.0 p.0) (copied_few (node_at c.args.nodes.now) c.args.n copied.0 p.1 p.2.few) (clauses_kept copied.0 p.3) copied.1
    c.loop-k-test.true c.stored_at.ensures c.loop-k.invariant c.join_clause.ensures

pub returns : goal.returns
returns c =
    let copied = c.copy_nodes-map.ensures in
    let p = c.requires in
    joined_done _ _ _ _ _ (omega arith) p.3.few copied.0 (copied_few (node_at c.args.nodes.now) c.args.n copied.0 p.1 p.2.few)
    c.loop-k.invariant c.put-kept.ensures c.put.ensures
