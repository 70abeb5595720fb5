-- `propositions::leaf::signal` meets its contract.
use Rattle.std.proofs.Common.{refl}
use Rattle.grammar.proofs.Said.{computing}
use Rattle.lexer.specs.Lexed.{meant, is_end}
use Rattle.lexer.specs.declared.Token.TheVariants.{Signal}
use Rattle.propositions.proofs.Leaves.{comes, stuck_at, signal_no}
use Rattle.propositions.proofs.leaf.signal.Goals as goal

pub returns-in-Signal : goal.returns-in-Signal
unfolding meant is_end
returns-in-Signal c = comes c.next-read.ensures (Signal c.in-Signal.value) c.in-Signal.is refl

pub returns-in_default : goal.returns-in_default
unfolding computing
returns-in_default c = stuck_at c.next-read.ensures _ (λ _ k. refl) (signal_no _ c.in_default.not-Signal)
