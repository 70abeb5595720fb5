-- `stored::writer::write_node` meets its contract.
use native.Mathlib.Numerals.{towards_suc}
use Rattle.stored.specs.Written.{node_bytes}
use Rattle.stored.proofs.writer.write_node.Goals as goal

pub returns : goal.returns
unfolding node_bytes
returns c = rw (c.high.ensures, c.low.ensures, c.high-2.ensures, c.low-2.ensures) (simp towards_suc)
