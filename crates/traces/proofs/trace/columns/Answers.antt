-- `traces::trace::columns` meets its contract.
use Rattle.std.proofs.Common.{rules, tests}
use Rattle.stored.specs.Tree.{earlier, pick}
use Rattle.stored.proofs.Entries.{entries_made}
use Rattle.traces.specs.Columns.{signal_column, columns_of}
use Rattle.traces.proofs.trace.columns.Goals as goal

pub returns : goal.returns
unfolding columns_of earlier pick
returns c =
    let a = c.args in
    entries_made (earlier a.s 0 (signal_column a.trace.now a.n)) c.from_fn.result 19 c.from_fn.ensures.items (λ i y q k. search (rules, tests))
