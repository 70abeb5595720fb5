-- `exports::fasunqir_check` meets its contract.
use Rattle.std.proofs.Common.{sym, ◌∙◌, ap, subst, Result, IfOk}
use Rattle.stored.specs.declared.refusal.Refusal.{Refusal}
use Rattle.checker.specs.declared.check.Verdict.{Verdict}
use Rattle.checker.specs.Small.{SmallVerdict}
use Rattle.checker.proofs.Bounds.{verdict_fits}
use Rattle.exports.specs.Packed.{packed}
use Rattle.exports.proofs.Unpacking.{unpacked_is}
use Rattle.exports.proofs.fasunqir_check.Goals as goal

pub packed_answer-requires : goal.packed_answer-requires
packed_answer-requires c = subst (λ (x : Result Verdict Refusal). IfOk x SmallVerdict) (sym c.check-answer.ensures.value) (verdict_fits _ _ _)

pub returns : goal.returns
returns c =
    let checked = c.check-answer.ensures in
    let number = c.packed_answer.ensures ∙ ap packed checked.value in
    record { value = number; result_value = unpacked_is _ _ _ _ number; words_after = checked.words_after }
