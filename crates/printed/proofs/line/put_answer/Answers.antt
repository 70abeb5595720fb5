-- `printed::line::put_answer` meets its contract.
use Rattle.std.proofs.Common.{subst, arith, ℕ, Result, IfOk}
use Rattle.stored.specs.declared.refusal.Refusal.{Refusal}
use Rattle.checker.specs.declared.check.Verdict.{Verdict}
use Rattle.checker.specs.Small.{SmallVerdict}
use Rattle.lines.specs.Lines.{refused_text, Put}
use Rattle.printed.specs.Line.{line_text}
use Rattle.printed.proofs.Shown.{line_short, put_told}
use Rattle.printed.proofs.line.put_answer.Goals as goal

pub put_refused-requires : goal.put_refused-requires
put_refused-requires c = (omega (arith, c.requires.0), omega (arith, c.number.ensures.within))

pub put_verdict-requires : goal.put_verdict-requires
put_verdict-requires c =
    (c.requires.0, subst (λ (x : Result Verdict Refusal). IfOk x SmallVerdict) c.in-Ok.is c.requires.1)

pub returns-in-Err : goal.returns-in-Err
unfolding line_text
returns-in-Err c =
    let p = put_told c.in-Err.is (subst (λ (n : ℕ). Put c.args.out.now c.put_refused.new.out 0 c.put_refused.result (refused_text n)) c.number.ensures.value c.put_refused.ensures.0) in
    (p, omega (arith, p.end, line_short c.args.answer c.requires.1))

pub returns-in-Ok : goal.returns-in-Ok
unfolding line_text
returns-in-Ok c =
    let p = put_told c.in-Ok.is c.put_verdict.ensures in
    (p, omega (arith, p.end, line_short c.args.answer c.requires.1))
