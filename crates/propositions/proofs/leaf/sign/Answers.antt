-- `propositions::leaf::sign` meets its contract.
use Rattle.std.proofs.Common.{refl, rules}
use Rattle.grammar.proofs.Said.{computing}
use Rattle.lexer.specs.Lexed.{meant, is_end}
use Rattle.lexer.specs.declared.Token.TheVariants.{Plain}
use Rattle.propositions.proofs.Leaves.{comes, stuck_at, sign_no}
use Rattle.propositions.proofs.leaf.sign.Goals as goal

pub returns-then-eq : goal.returns-then-eq
unfolding meant is_end
returns-then-eq c = comes c.next-read.ensures (Plain c.args.wanted) (search rules) refl

pub returns-else-eq : goal.returns-else-eq
unfolding computing
returns-else-eq c = stuck_at c.next-read.ensures _ (λ _ s. refl) (sign_no c.args.wanted _ (search rules))
