-- Single steps of the reader in any room: a bracket, joiners, and what cannot come next.
use Rattle.std.proofs.Common.{ℕ, suc, false, List, ◌∷◌, ◌≡◌, refl, ap, eqb}
use Rattle.semantics.specs.Formula.{Comparison, below, at_most, equal, at_least, above}
use Rattle.grammar.specs.Token.{Token, plain, comparison_sign, open_round, true_word, false_word, not_sign, or_sign, and_sign, chop_sign, star_sign}
use Rattle.grammar.specs.Tree.{OrP, AndP, OrF, AndF, ChopF, bracketF, starF}
use Rattle.grammar.specs.Reader.{OrHoleP, after_or_p, after_and_p, HoleP, no_not_p, OrHoleF, after_or_f, AndHoleF, after_and_f, HoleF, after_chop_f, State, failed, sign, a_comparison, has_or_p, about_and_p, has_and_p, about_unit_p, has_or_f, about_and_f, has_and_f, about_chop_f, has_chop_f, about_unit_f, has_unit_f, step, run}
use Rattle.grammar.proofs.Said.{computing, and_next_p, and_next_f, chop_next_f, star_next_f}

-- a round bracket takes room
pub open_sign : (room : ℕ) (s : State) (ts : List Token) → run (suc room) (sign open_round s) (plain open_round ∷ ts) ≡ run room s ts
unfolding computing
open_sign room s ts = refl

-- the joiners and the star
pub or_p_lem : (room : ℕ) (k : OrP → State) (p : OrP) (ts : List Token)
    → run room (has_or_p k p) (plain or_sign ∷ ts) ≡ run room (about_and_p (after_or_p p) k) ts
unfolding computing
or_p_lem room k p ts = refl

pub and_p_lem : (room : ℕ) (h : OrHoleP) (k : OrP → State) (q : AndP) (ts : List Token)
    → run room (has_and_p h k q) (plain and_sign ∷ ts) ≡ run room (about_unit_p (no_not_p (after_and_p h q)) k) ts
unfolding computing
and_p_lem room h k q ts = ap (λ s. run room s ts) (and_next_p h q k)

pub or_f_lem : (room : ℕ) (k : OrF → State) (f : OrF) (ts : List Token)
    → run room (has_or_f k f) (plain or_sign ∷ ts) ≡ run room (about_and_f (after_or_f f) k) ts
unfolding computing
or_f_lem room k f ts = refl

pub and_f_lem : (room : ℕ) (h : OrHoleF) (k : OrF → State) (g : AndF) (ts : List Token)
    → run room (has_and_f h k g) (plain and_sign ∷ ts) ≡ run room (about_chop_f (after_and_f h g) k) ts
unfolding computing
and_f_lem room h k g ts = ap (λ s. run room s ts) (and_next_f h g k)

pub chop_f_lem : (room : ℕ) (h : AndHoleF) (k : OrF → State) (c : ChopF) (ts : List Token)
    → run room (has_chop_f h k c) (plain chop_sign ∷ ts) ≡ run room (about_unit_f (after_chop_f h c) k) ts
unfolding computing
chop_f_lem room h k c ts = ap (λ s. run room s ts) (chop_next_f h c k)

pub star_f : (room : ℕ) (h : HoleF) (k : OrF → State) (f : OrF) (ts : List Token)
    → run room (has_unit_f h k (bracketF f)) (plain star_sign ∷ ts) ≡ run room (has_unit_f h k (starF f)) ts
unfolding computing
star_f room h k f ts = ap (λ s. run room s ts) (star_next_f h f k)

-- a word or sign by which no piece begins
pub no_piece_p : (h : HoleP) (k : OrP → State) (n : ℕ)
    → eqb n true_word ≡ false → eqb n false_word ≡ false → eqb n not_sign ≡ false → eqb n open_round ≡ false → step (about_unit_p h k) (plain n) ≡ failed
unfolding computing
no_piece_p h k n e₁ e₂ e₃ e₄ = rw (e₁, e₂, e₃, e₄)

pub no_comparison : (k : Comparison → State) (n : ℕ)
    → eqb n (comparison_sign below) ≡ false → eqb n (comparison_sign at_most) ≡ false → eqb n (comparison_sign equal) ≡ false
    → eqb n (comparison_sign at_least) ≡ false → eqb n (comparison_sign above) ≡ false → step (a_comparison k) (plain n) ≡ failed
unfolding computing
no_comparison k n e₁ e₂ e₃ e₄ e₅ = rw (e₁, e₂, e₃, e₄, e₅)
