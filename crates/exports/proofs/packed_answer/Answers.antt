-- `exports::packed_answer` meets its contract.
use Rattle.std.proofs.Common.{sym, ◌∙◌, ap, subst, Result, IfOk}
use Rattle.stored.specs.declared.refusal.Refusal.{Refusal}
use Rattle.checker.specs.declared.check.Verdict.{Verdict}
use Rattle.checker.specs.Small.{SmallVerdict}
use Rattle.exports.specs.Packed.{packed}
use Rattle.exports.proofs.packed_answer.Goals as goal

pub returns-in-Err : goal.returns-in-Err
unfolding packed
returns-in-Err c = c.packed_refusal.ensures ∙ sym (ap packed c.in-Err.is)
