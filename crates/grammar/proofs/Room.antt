-- The reader with bounded room reads as the one without a bound where the tokens leave it room, and reads nothing else at all.
use Rattle.std.proofs.Common.{ℕ, zero, suc, ◌+◌, ◌-◌, ◌≤◌, arith, Bool, true, false, cond, List, [], ◌∷◌, ◌⊎◌, inl, inr, ◌≡◌, refl, sym, ap, ◌∙◌, ltb, eqb, ltb-false}
use mathlib.Core.Option.{none, some, none-ne-some}
use Rattle.grammar.specs.Token.{Token, plain, signalled, named, number, outside, open_round, close_round}
use Rattle.grammar.specs.Tree.{TypedSheet}
use Rattle.grammar.specs.Reader.{State, failed, if_plain, step, read, one_less, room_after, if_room, step_in, run, answer}
use Rattle.grammar.proofs.Tests.{or_false_left, or_false_right}
use Rattle.grammar.proofs.Lexed.{open_past, deeper_tokens}

pub run_read : (limit n room : ℕ) (s : State) (ts : List Token) → limit ≤ room + n → deeper_tokens limit n ts ≡ false → run room s ts ≡ read s ts
unfolding run read deeper_tokens open_past room_after step_in if_plain if_room one_less
run_read limit n room s [] fits shallow = refl
run_read limit n room s (plain m ∷ ts) fits shallow =
    go (eqb m open_round) (eqb m close_round) room fits
    (ltb-false limit _ (or_false_left (ltb limit (open_past n (plain m))) (deeper_tokens limit (open_past n (plain m)) ts) shallow))
    (or_false_right (ltb limit (open_past n (plain m))) (deeper_tokens limit (open_past n (plain m)) ts) shallow)
    (λ n room s. run_read limit n room s ts)
  where
    after : State
    after = step s (plain m)

    go : (o c : Bool) (room : ℕ) → limit ≤ room + n → cond o (suc n) (cond c (n - 1) n) ≤ limit
        → deeper_tokens limit (cond o (suc n) (cond c (n - 1) n)) ts ≡ false
        → ((n room : ℕ) (s : State) → limit ≤ room + n → deeper_tokens limit n ts ≡ false → run room s ts ≡ read s ts)
        → run (cond o (one_less room) (cond c (suc room) room)) (cond o (if_room room after) after) ts ≡ read after ts
    go true c zero fits below shallow more = absurd (omega arith)
    go true c (suc room) fits below shallow more = more (suc n) room after (omega arith) shallow
    go false true room fits below shallow more = more (n - 1) (suc room) after (omega arith) shallow
    go false false room fits below shallow more = more n room after fits shallow
run_read limit n room s (signalled i ∷ ts) fits shallow =
    run_read limit n room (step s (signalled i)) ts fits (or_false_right (ltb limit n) (deeper_tokens limit n ts) shallow)
run_read limit n room s (named u ∷ ts) fits shallow =
    run_read limit n room (step s (named u)) ts fits (or_false_right (ltb limit n) (deeper_tokens limit n ts) shallow)
run_read limit n room s (number x ∷ ts) fits shallow =
    run_read limit n room (step s (number x)) ts fits (or_false_right (ltb limit n) (deeper_tokens limit n ts) shallow)
run_read limit n room s (outside ∷ ts) fits shallow =
    run_read limit n room (step s outside) ts fits (or_false_right (ltb limit n) (deeper_tokens limit n ts) shallow)

-- a failed state stays failed
step_in_failed : (room : ℕ) (t : Token) → step_in room failed t ≡ failed
unfolding step_in step if_plain if_room
step_in_failed room (plain m) = go (eqb m open_round) room
  where
    go : (o : Bool) (room : ℕ) → cond o (if_room room failed) failed ≡ failed
    go true zero = refl
    go true (suc room) = refl
    go false room = refl
step_in_failed room (signalled i) = refl
step_in_failed room (named u) = refl
step_in_failed room (number x) = refl
step_in_failed room outside = refl

pub run_failed : (room : ℕ) (ts : List Token) → run room failed ts ≡ failed
unfolding run
run_failed room [] = refl
run_failed room (t ∷ ts) = ap (λ s. run (room_after room t) s ts) (step_in_failed room t) ∙ run_failed (room_after room t) ts

pub failed_none : (room : ℕ) (ts : List Token) → answer (run room failed ts) ≡ none
unfolding answer
failed_none room ts = ap answer (run_failed room ts)

-- a token that cannot come next
pub stuck_none : (room : ℕ) (s : State) (t : Token) (ts : List Token) → step s t ≡ failed → answer (run room s (t ∷ ts)) ≡ none
unfolding run step_in step
stuck_none room s t ts e =
    ap (λ after. answer (run (room_after room t) (if_plain t open_round (if_room room after) after) ts)) e
    ∙ ap (λ s. answer (run (room_after room t) s ts)) (step_in_failed room t) ∙ failed_none (room_after room t) ts

-- a step in bounded room is a step, or fails
step_in_lem : (room : ℕ) (s : State) (t : Token) → (step_in room s t ≡ step s t) ⊎ (step_in room s t ≡ failed)
unfolding step_in if_plain if_room
step_in_lem room s (plain m) = go (eqb m open_round) room
  where
    go : (o : Bool) (room : ℕ) → (cond o (if_room room (step s (plain m))) (step s (plain m)) ≡ step s (plain m))
        ⊎ (cond o (if_room room (step s (plain m))) (step s (plain m)) ≡ failed)
    go true zero = inr refl
    go true (suc room) = inl refl
    go false room = inl refl
step_in_lem room s (signalled i) = inl refl
step_in_lem room s (named u) = inl refl
step_in_lem room s (number x) = inl refl
step_in_lem room s outside = inl refl

pub run_some : (room : ℕ) (s : State) (ts : List Token) (t : TypedSheet) → answer (run room s ts) ≡ some t → answer (read s ts) ≡ some t
unfolding run read answer
run_some room s [] t e = e
run_some room s (x ∷ ts) t e =
    elim (step_in_lem room s x) [
      | inl p ↦ run_some (room_after room x) (step s x) ts t (ap (λ s. answer (run (room_after room x) s ts)) (sym p) ∙ e)
      | inr p ↦
          absurd
          (none-ne-some t (sym (failed_none (room_after room x) ts) ∙ ap (λ s. answer (run (room_after room x) s ts)) (sym p) ∙ e))
    ]
