-- Single tokens that the reader takes, in any room.
use Rattle.std.proofs.Common.{ℕ, zero, suc, ◌-◌, ◌<◌, arith, Bool, true, false, List, [], ◌∷◌, ◌≡◌, refl, ap, ◌∙◌, eqb, eq-eqb, ne_eqb}
use mathlib.Core.Option.{none}
use Rattle.semantics.specs.Formula.{Comparison, below, at_most, equal, at_least, above}
use Rattle.grammar.specs.Token.{Token, plain, signalled, named, number, outside, comparison_sign, open_round, close_round, comma_sign}
use Rattle.grammar.specs.Reader.{State, sign, a_number, a_name, a_signal, a_comparison, run, answer}
use Rattle.grammar.proofs.Said.{computing}
use Rattle.grammar.proofs.Room.{failed_none, stuck_none}

-- a sign that is no round bracket
pub sign_run : (n room : ℕ) (s : State) (ts : List Token) → (n ≡ open_round → ⊥) → (n ≡ close_round → ⊥)
    → run room (sign n s) (plain n ∷ ts) ≡ run room s ts
unfolding computing
sign_run n room s ts h₁ h₂ = rw (ne_eqb n 22 h₁, ne_eqb n 23 h₂, eq-eqb n n refl)

pub comma_run : (room : ℕ) (s : State) (ts : List Token) → run room (sign comma_sign s) (plain comma_sign ∷ ts) ≡ run room s ts
unfolding computing
comma_run room s ts = refl

pub close_run : (room : ℕ) (s : State) (ts : List Token) → run room (sign close_round s) (plain close_round ∷ ts) ≡ run (suc room) s ts
unfolding computing
close_run room s ts = refl

-- the room that an opening bracket took
pub close_back : (depth : ℕ) (s : State) (ts : List Token) → 0 < depth → run (depth - 1) (sign close_round s) (plain close_round ∷ ts) ≡ run depth s ts
close_back depth s ts h = close_run (depth - 1) s ts ∙ ap (λ room. run room s ts) (omega arith)

pub number_run : (room n : ℕ) (s : ℕ → State) (ts : List Token) → run room (a_number s) (number n ∷ ts) ≡ run room (s n) ts
unfolding computing
number_run room n s ts = refl

pub name_run : (room u : ℕ) (s : ℕ → State) (ts : List Token) → run room (a_name s) (named u ∷ ts) ≡ run room (s u) ts
unfolding computing
name_run room u s ts = refl

pub signal_run : (room i : ℕ) (s : ℕ → State) (ts : List Token) → run room (a_signal s) (signalled i ∷ ts) ≡ run room (s i) ts
unfolding computing
signal_run room i s ts = refl

pub comparison_run : (room : ℕ) (c : Comparison) (s : Comparison → State) (ts : List Token)
    → run room (a_comparison s) (plain (comparison_sign c) ∷ ts) ≡ run room (s c) ts
unfolding computing
comparison_run room below s ts = refl
comparison_run room at_most s ts = refl
comparison_run room equal s ts = refl
comparison_run room at_least s ts = refl
comparison_run room above s ts = refl

-- no bracket can be opened without room
pub shut_none : (s : State) (ts : List Token) → answer (run zero (sign open_round s) ts) ≡ none
unfolding computing
shut_none s [] = refl
shut_none s (plain n ∷ ts) = go (eqb n open_round) refl
  where
    go : (b : Bool) → eqb n open_round ≡ b → answer (run zero (sign open_round s) (plain n ∷ ts)) ≡ none
    go true e = rw e (failed_none zero ts)
    go false e = stuck_none zero (sign open_round s) (plain n) ts (rw e)
shut_none s (signalled i ∷ ts) = failed_none zero ts
shut_none s (named u ∷ ts) = failed_none zero ts
shut_none s (number n ∷ ts) = failed_none zero ts
shut_none s (outside ∷ ts) = failed_none zero ts
