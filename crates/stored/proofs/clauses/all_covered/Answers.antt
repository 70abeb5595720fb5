-- `stored::clauses::all_covered` meets its contract.
use Rattle.std.proofs.Common.{rules, tests}
use Rattle.stored.proofs.Rules.{every_of_all}
use Rattle.stored.specs.Clause.{stored_at, clause_covered_at}
use Rattle.stored.proofs.clauses.all_covered.Goals as goal

pub returns : goal.returns
unfolding clause_covered_at
returns c = every_of_all c.args.c (clause_covered_at c.args.table.now c.args.m (stored_at c.args.clauses.now)) _ _ c.all.result c.all.ensures.ran (λ x b q k. search (rules, tests))
