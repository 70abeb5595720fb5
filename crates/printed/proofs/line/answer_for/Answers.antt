-- `printed::line::answer_for` meets its contract.
use Rattle.std.proofs.Common.{◌-◌, sym, ◌∙◌, subst, length, take, drop, Result, IfOk}
use Rattle.stored.specs.declared.refusal.Refusal.{Refusal}
use Rattle.checker.specs.declared.check.Verdict.{Verdict}
use Rattle.checker.specs.Small.{SmallVerdict}
use Rattle.checker.proofs.Bounds.{verdict_fits}
use Rattle.printed.proofs.Answers.{first_part, last_part, check_is}
use Rattle.printed.proofs.line.answer_for.Goals as goal

pub returns : goal.returns
returns c =
    let input = c.args.input.now in
    let end = c.split-end in
    let words = c.lent_words-words in
    let e = c.check.ensures.value in (
      e
          ∙ check_is input (take (end.result - 0) (drop 0 input)) (take (length input - end.result) (drop end.result input)) end.result words.result
          end.ensures.0 (first_part input end.result) (last_part input end.result) words.ensures,
      subst (λ (x : Result Verdict Refusal). IfOk x SmallVerdict) (sym e) (verdict_fits _ _ _),
    )
