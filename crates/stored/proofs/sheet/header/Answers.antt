-- `stored::sheet::header` meets its contract.
use Rattle.std.proofs.Common.{arith}
use Rattle.stored.specs.Sheet.{header_of}
use Rattle.stored.proofs.sheet.header.Goals as goal

pub byte-signals-requires : goal.byte-signals-requires
byte-signals-requires c = omega arith

pub byte-names-requires : goal.byte-names-requires
byte-names-requires c = omega arith

pub word-nodes-requires : goal.word-nodes-requires
word-nodes-requires c = omega arith

pub byte-clauses-requires : goal.byte-clauses-requires
byte-clauses-requires c = omega arith

pub returns : goal.returns
unfolding header_of
returns c = rw (c.byte-signals.ensures.0, c.byte-names.ensures.0, c.word-nodes.ensures.0, c.byte-clauses.ensures.0)
