-- `stored::nodes::nodes_ok` meets its contract.
use Rattle.std.proofs.Common.{rules, tests}
use Rattle.stored.proofs.Rules.{every_of_all}
use Rattle.stored.specs.Node.{node_at, requirement_sorts, node_right}
use Rattle.stored.proofs.nodes.nodes_ok.Goals as goal

pub returns : goal.returns
unfolding node_right
returns c = every_of_all c.args.n (node_right requirement_sorts c.args.s c.args.m (node_at c.args.nodes.now)) _ _ c.all.result c.all.ensures.ran (λ x b q k. search (rules, tests))
