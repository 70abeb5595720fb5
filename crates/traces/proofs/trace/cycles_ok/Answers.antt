-- `traces::trace::cycles_ok` meets its contract.
use Rattle.std.proofs.Common.{rules, tests}
use Rattle.stored.proofs.Rules.{every_of_all}
use Rattle.traces.specs.Trace.{cycle_right}
use Rattle.traces.proofs.trace.cycles_ok.Goals as goal

pub returns : goal.returns
unfolding cycle_right
returns c = every_of_all c.args.n (cycle_right c.args.s c.args.trace.now) _ _ c.all.result c.all.ensures.ran (λ x b q k. search (rules, tests))
