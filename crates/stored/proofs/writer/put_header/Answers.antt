-- `stored::writer::put_header` meets its contract.
use Rattle.stored.specs.Written.{header_bytes, put_header}
use Rattle.stored.proofs.writer.put_header.Goals as goal

pub returns : goal.returns
unfolding put_header header_bytes
returns c = rw (c.high.ensures, c.low.ensures, c.high-2.ensures, c.low-2.ensures, c.clauses_end-rest.ensures)
