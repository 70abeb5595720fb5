-- `printed::page::body_start` meets its contract.
use Rattle.std.proofs.Common.{refl, arith}
use Rattle.printed.proofs.Shown.{short_drop}
use Rattle.printed.proofs.page.body_start.Goals as goal

pub returns-then-input-lt5 : goal.returns-then-input-lt5
returns-then-input-lt5 c = (short_drop c.args.input.now 5 c.if-input-lt5.true, omega arith)

pub returns : goal.returns
returns c = (refl, omega arith)
