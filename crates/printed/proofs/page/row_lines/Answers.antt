-- `printed::page::row_lines` meets its contract.
use Rattle.std.proofs.Common.{ℕ, ◌∙◌, ap, arith, length, length-set}
use lib.ListN.{length-replicate}
use Rattle.lines.proofs.Copies.{copied_more, copied_all}
use Rattle.printed.specs.Page.{table_byte, table_text}
use Rattle.printed.proofs.page.row_lines.Goals as goal

pub loop-k-init : goal.loop-k-init
loop-k-init c = (ap length c.zeros-bytes.ensures ∙ length-replicate {A = ℕ} 1088 0, (λ j l. absurd (omega arith)))

pub loop-k-preserved : goal.loop-k-preserved
unfolding table_byte
loop-k-preserved c =
    let at = c.loop-k in
    (length-set at.bytes at.k _ ∙ at.invariant.0, copied_more (table_byte c.args.rows.now) at.bytes at.k _ (omega arith) c.row_byte.ensures at.invariant.1)

pub returns : goal.returns
unfolding table_text
returns c =
    let at = c.loop-k in
    copied_all (table_byte c.args.rows.now) 1088 at.bytes at.k (omega arith) at.invariant.0 at.invariant.1
