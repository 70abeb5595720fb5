-- `lines::answer::answered` meets its contract.
use Rattle.std.proofs.Common.{sym, ◌∙◌, ap, subst, List, arith, ℕ, ◌≤◌, length, Result, IfOk}
use Rattle.std.proofs.lemmas.List.Edits.{sets}
use Rattle.stored.specs.declared.refusal.Refusal.{Refusal}
use Rattle.stored.specs.Layout.{least_output}
use Rattle.lines.specs.Lines.{refused_text}
use Rattle.lines.specs.Output.{bytes_for, length_for}
use Rattle.lines.proofs.answer.answered.Goals as goal

pub refused-requires : goal.refused-requires
refused-requires c = (c.requires.0, omega (arith, c.number.ensures.within))

pub invariant_of-result : goal.invariant_of-result
invariant_of-result c =
    record { inside = subst (λ (x : Result ℕ Refusal). IfOk x (λ (size : ℕ). size ≤ least_output)) c.in-Ok.is c.requires.1 }

pub returns : goal.returns
unfolding bytes_for length_for
returns c =
    record { bytes_are = sym (ap (bytes_for c.args.bytes) c.in-Ok.is); length_is = sym (ap length_for c.in-Ok.is) }

pub returns-in-Err : goal.returns-in-Err
unfolding bytes_for length_for
returns-in-Err c =
    let e = c.refused.ensures in
    let n = c.number.ensures.value in
    record {
      bytes_are = e.bytes_are ∙ ap (λ (k : ℕ). sets c.args.bytes 0 (refused_text k)) n ∙ sym (ap (bytes_for c.args.bytes) c.in-Err.is);
      length_is = e.length_is ∙ ap (λ (k : ℕ). length (refused_text k)) n ∙ sym (ap length_for c.in-Err.is);
    }
