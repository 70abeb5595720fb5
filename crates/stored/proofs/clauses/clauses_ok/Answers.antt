-- `stored::clauses::clauses_ok` meets its contract.
use Rattle.std.proofs.Common.{rules, tests}
use Rattle.stored.proofs.Rules.{every_of_all}
use Rattle.stored.specs.Node.{node_at}
use Rattle.stored.specs.Clause.{stored_at, clause_right_at}
use Rattle.stored.proofs.clauses.clauses_ok.Goals as goal

pub returns : goal.returns
unfolding clause_right_at
returns c = every_of_all c.args.c (clause_right_at (node_at c.args.nodes.now) c.args.n (stored_at c.args.clauses.now)) _ _ c.all.result c.all.ensures.ran (λ x b q k. search (rules, tests))
