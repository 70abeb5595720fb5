-- `propositions::leaf::word` meets its contract.
use Rattle.std.proofs.Common.{arith, ◌+◌, ◌-◌, ◌≡◌, refl}
use Rattle.grammar.specs.Token.{plain}
use Rattle.lexer.specs.Lexed.{meant, is_end}
use Rattle.lexer.specs.declared.Token.TheVariants.{Plain}
use Rattle.propositions.proofs.Leaves.{comes, stuck_at, no_word, other_word}
use Rattle.propositions.proofs.leaf.word.Goals as goal

pub returns-in_default : goal.returns-in_default
returns-in_default c =
    let a = c.args in
    stuck_at c.next-read.ensures _ (λ end k. k.unended end) (λ k. k.others _ (no_word a.low a.high _ c.in_default.not-Plain))

pub returns-then-n-high : goal.returns-then-n-high
unfolding meant is_end
returns-then-n-high c =
    let sum : c.in-Plain.n ≡ c.args.low + (c.in-Plain.n - c.args.low) = omega arith in
    record {
      comes = rw (← sum) (comes c.next-read.ensures (Plain c.in-Plain.n) c.in-Plain.is refl);
      range = omega arith;
    }

pub returns-else-low-n : goal.returns-else-low-n
unfolding meant
returns-else-low-n c =
    let a = c.args in
    stuck_at c.next-read.ensures _ (λ end k. k.unended end)
    (λ k. rw c.in-Plain.is (k.others (plain c.in-Plain.n) (other_word a.low a.high c.in-Plain.n c.else-low-n.either)))
