-- `propositions::leaf::name` meets its contract.
use Rattle.std.proofs.Common.{refl}
use Rattle.grammar.proofs.Said.{computing}
use Rattle.lexer.specs.Lexed.{meant, is_end}
use Rattle.lexer.specs.declared.Token.TheVariants.{Name}
use Rattle.propositions.proofs.Leaves.{comes, stuck_at, name_no}
use Rattle.propositions.proofs.leaf.name.Goals as goal

pub returns-in-Name : goal.returns-in-Name
unfolding meant is_end
returns-in-Name c = comes c.next-read.ensures (Name c.in-Name.value) c.in-Name.is refl

pub returns-in_default : goal.returns-in_default
unfolding computing
returns-in_default c = stuck_at c.next-read.ensures _ (λ _ k. refl) (name_no _ c.in_default.not-Name)
