-- `stored::nodes::operands_ok` meets its contract.
use Rattle.std.proofs.Common.{rules, tests}
use Rattle.stored.proofs.Rules.{every_of_all}
use Rattle.stored.specs.Node.{node_at, requirement_sorts, operands_right}
use Rattle.stored.proofs.nodes.operands_ok.Goals as goal

pub returns : goal.returns
returns c = every_of_all c.args.n (operands_right requirement_sorts (node_at c.args.nodes.now)) _ _ c.all.result c.all.ensures.ran (λ x b q k. search (rules, tests))
