-- `exports::packed_writing` meets its contract.
use Rattle.std.proofs.Common.{ℕ, ◌≤◌, sym, ◌∙◌, ap, subst, rules, Result}
use Rattle.stored.specs.Layout.{least_output}
use Rattle.stored.specs.declared.refusal.Refusal.{Refusal}
use Rattle.exports.specs.Packed.{packed_writing, SmallWriting}
use Rattle.exports.proofs.packed_writing.Goals as goal

pub returns-in-Ok : goal.returns-in-Ok
unfolding packed_writing
returns-in-Ok c = sym (ap packed_writing c.in-Ok.is)

pub returns-in-Err : goal.returns-in-Err
unfolding packed_writing
returns-in-Err c = c.packed_refusal.ensures ∙ sym (ap packed_writing c.in-Err.is)
