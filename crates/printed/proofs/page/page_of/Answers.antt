-- `printed::page::page_of` meets its contract.
use Rattle.std.proofs.Common.{ℕ, List, sym, ◌∙◌, ap, arith}
use Rattle.lines.specs.Lines.{refused_text}
use Rattle.printed.specs.Page.{table_text, text_of}
use Rattle.lines.proofs.Texts.{put_padded}
use Rattle.printed.proofs.Shown.{padded_whole, table_length}
use Rattle.printed.proofs.page.page_of.Goals as goal

pub returns : goal.returns
unfolding text_of
returns c =
    let long = table_length c.in-Ok.rows in
    rw c.in-Ok.is (record { bytes_are = c.row_lines-bytes.ensures ∙ sym (padded_whole 1088 (table_text c.in-Ok.rows) long); length_is = sym long })

pub returns-in-Err : goal.returns-in-Err
unfolding text_of
returns-in-Err c =
    let e = c.put_refused-length.ensures in
    let w = put_padded 1088 c.zeros-bytes.ensures e.0 (omega (arith, e.1)) in
    rw (c.in-Err.is, ← c.number.ensures.value) (record { bytes_are = w.0; length_is = w.1 })
