-- `exports::put_answer` meets its contract.
use Rattle.std.proofs.Common.{ℕ, List, ◌++◌, ◌≡◌, ◌∙◌, ap, arith, rules, length, drop, length-take}
use Rattle.exports.proofs.Tabled.{put_refused, put_table}
use Rattle.exports.proofs.put_answer.Goals as goal

pub copy_from_slice-requires : goal.copy_from_slice-requires
copy_from_slice-requires c =
    let long : length c.in-Ok.from ≡ 64 = search rules in
    simp length-take (omega arith)

pub returns-in-Err : goal.returns-in-Err
returns-in-Err c =
    let all = put_refused c.args.table _ c.args.rows.now c.in-Err.is in
    record { value = c.packed_refusal.ensures ∙ all.0; rows_after = all.1 }

pub returns-in-Ok : goal.returns-in-Ok
returns-in-Ok c =
    let all = put_table c.args.table _ c.args.rows.now c.in-Ok.is in
    record { value = all.0; rows_after = ap (λ (l : List ℕ). l ++ drop 64 c.args.rows.now) c.copy_from_slice.ensures.after ∙ all.1 }
