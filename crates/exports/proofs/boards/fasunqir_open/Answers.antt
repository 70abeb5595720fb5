-- `exports::boards::fasunqir_open` meets its contract.
use Rattle.std.proofs.Common.{sym, ◌∙◌}
use Rattle.exports.proofs.Cells.{open_kept, open_put}
use Rattle.exports.proofs.boards.fasunqir_open.Goals as goal

pub returns-in-Err : goal.returns-in-Err
returns-in-Err c =
    let a = c.args in
    let all =
    open_kept a.sheet.now a.bytes.now a.cycles.now a.taken.now a.verdict.now _ (sym c.open.ensures ∙ c.in-Err.is) in
    record { value = c.packed_refusal.ensures ∙ all.0; bytes_after = all.1.0; cycles_after = all.1.1.0; taken_after = all.1.1.1.0; verdict_after = all.1.1.1.1 }

pub returns-in-Ok : goal.returns-in-Ok
returns-in-Ok c =
    let a = c.args in
    let all =
    open_put a.sheet.now a.bytes.now a.cycles.now a.taken.now a.verdict.now _ (sym c.open.ensures ∙ c.in-Ok.is) in
    record { value = all.0; bytes_after = all.1.0; cycles_after = all.1.1.0; taken_after = all.1.1.1.0; verdict_after = all.1.1.1.1 }
