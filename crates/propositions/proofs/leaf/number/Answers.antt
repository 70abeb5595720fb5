-- `propositions::leaf::number` meets its contract.
use Rattle.std.proofs.Common.{refl}
use Rattle.grammar.proofs.Said.{computing}
use Rattle.lexer.specs.Lexed.{meant, is_end}
use Rattle.lexer.specs.declared.Token.TheVariants.{Number}
use Rattle.propositions.proofs.Leaves.{comes, stuck_at, number_no}
use Rattle.propositions.proofs.leaf.number.Goals as goal

pub returns-in-Number : goal.returns-in-Number
unfolding meant is_end
returns-in-Number c = comes c.next-read.ensures (Number c.in-Number.value) c.in-Number.is refl

pub returns-in_default : goal.returns-in_default
unfolding computing
returns-in_default c = stuck_at c.next-read.ensures _ (λ _ k. refl) (number_no _ c.in_default.not-Number)
