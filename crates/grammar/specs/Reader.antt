-- Request 1: the reader of tokens, as the code reads them. Not to be believed but proved: proofs/Read.antt shows that it reads every
-- text of the grammar as the tree that the text says, and no other text.
use Rattle.std.specs.Prelude.{ℕ, zero, suc, cond, List, [], ◌∷◌, ◌++◌, eqb}
use Rattle.std.proofs.Math.Option.{Option, none, some}
use Rattle.semantics.specs.Formula.{Comparison, below, at_most, equal, at_least, above}
use Rattle.grammar.specs.Token.{Token, plain, signalled, named, number, outside, line_end, assume_word, require_word, type_word, true_word, false_word, slen_word, scount_word, sdur_word, draw_word, at_word, gap_word, comparison_sign, open_round, close_round, open_square, close_square, open_squares, close_squares, open_braces, close_braces, or_sign, and_sign, chop_sign, not_sign, star_sign, colon_sign, comma_sign}
use Rattle.grammar.specs.Tree.{OrP, one_p, or_p, AndP, unit_p, and_p, UnitP, trueP, falseP, signalP, nameP, not_p, bracket_p, OrF, one_f, or_f, AndF, chain_f, and_f, ChopF, unit_f, chop_f, UnitF, pointF, stretchF, wholeF, braceF, slen_f, scountF, sdurF, draw_f, at_f, gap_f, bracketF, starF, TypedPart, TypedClause, pref_c, anti_c, init_c, implies_c, follows_c, triggers_c, Line, assume_l, require_l, TypedSheet}
use Rattle.grammar.specs.Spelled.{is_among}

-- What stands before an operand in a proposition: of |, of &, of any number of !
pub data OrHoleP : Type 0 where
  no_or_p : OrHoleP
  after_or_p : OrP → OrHoleP

pub data AndHoleP : Type 0 where
  no_and_p : OrHoleP → AndHoleP
  after_and_p : OrHoleP → AndP → AndHoleP

pub data HoleP : Type 0 where
  no_not_p : AndHoleP → HoleP
  after_not_p : HoleP → HoleP

-- and in a formula: of |, of &, of ^
pub data OrHoleF : Type 0 where
  no_or_f : OrHoleF
  after_or_f : OrF → OrHoleF

pub data AndHoleF : Type 0 where
  no_and_f : OrHoleF → AndHoleF
  after_and_f : OrHoleF → AndF → AndHoleF

pub data HoleF : Type 0 where
  no_chop_f : AndHoleF → HoleF
  after_chop_f : AndHoleF → ChopF → HoleF

-- the tree with the operand in its place
unfoldable pub fill_or_p : OrHoleP → AndP → OrP
fill_or_p no_or_p q = one_p q
fill_or_p (after_or_p p) q = or_p p q

unfoldable pub fill_and_p : AndHoleP → UnitP → OrP
fill_and_p (no_and_p h) u = fill_or_p h (unit_p u)
fill_and_p (after_and_p h q) u = fill_or_p h (and_p q u)

unfoldable pub fill_p : HoleP → UnitP → OrP
fill_p (no_not_p h) u = fill_and_p h u
fill_p (after_not_p h) u = fill_p h (not_p u)

-- n times !: over a piece, and before one
unfoldable pub nots : ℕ → UnitP → UnitP
nots zero u = u
nots (suc n) u = nots n (not_p u)

unfoldable pub after_nots : ℕ → HoleP → HoleP
after_nots zero h = h
after_nots (suc n) h = after_not_p (after_nots n h)

unfoldable pub fill_or_f : OrHoleF → AndF → OrF
fill_or_f no_or_f g = one_f g
fill_or_f (after_or_f f) g = or_f f g

unfoldable pub fill_and_f : AndHoleF → ChopF → OrF
fill_and_f (no_and_f h) c = fill_or_f h (chain_f c)
fill_and_f (after_and_f h g) c = fill_or_f h (and_f g c)

unfoldable pub fill_f : HoleF → UnitF → OrF
fill_f (no_chop_f h) u = fill_and_f h (unit_f u)
fill_f (after_chop_f h c) u = fill_and_f h (chop_f c u)

-- What is to be read next, and what is read after it. A failed state stays failed.
pub data State : Type 0 where
  failed : State
  -- a sign or word; a number; a name; a signal; a comparison
  sign : ℕ → State → State
  a_number a_name a_signal : (ℕ → State) → State
  a_comparison : (Comparison → State) → State
  -- one more name, or what follows the names
  more_names : List ℕ → (List ℕ → State) → State
  -- an operand; a joiner, or what follows the proposition or formula read so far
  want_p : HoleP → (OrP → State) → State
  have_p : OrP → (OrP → State) → State
  want_f : HoleF → (OrF → State) → State
  have_f : OrF → (OrF → State) → State
  -- a clause; a line or the end of the text, after s, m and the lines read so far
  a_clause : (TypedClause → State) → State
  at_line : ℕ → ℕ → List Line → State

-- About to read, and having read, what stands in a hole; after the whole comes k. A clause c is read from `aClause k` to `k c`, a line l
-- from `atLine s m ls` to `atLine s m (ls ++ l ∷ [])`.
unfoldable pub about_or_p : (OrP → State) → State
about_or_p k = want_p (no_not_p (no_and_p no_or_p)) k

unfoldable pub has_or_p : (OrP → State) → OrP → State
has_or_p k p = have_p p k

unfoldable pub about_and_p : OrHoleP → (OrP → State) → State
about_and_p h k = want_p (no_not_p (no_and_p h)) k

unfoldable pub has_and_p : OrHoleP → (OrP → State) → AndP → State
has_and_p h k q = have_p (fill_or_p h q) k

unfoldable pub about_unit_p : HoleP → (OrP → State) → State
about_unit_p h k = want_p h k

unfoldable pub has_unit_p : HoleP → (OrP → State) → UnitP → State
has_unit_p h k u = have_p (fill_p h u) k

unfoldable pub about_or_f : (OrF → State) → State
about_or_f k = want_f (no_chop_f (no_and_f no_or_f)) k

unfoldable pub has_or_f : (OrF → State) → OrF → State
has_or_f k f = have_f f k

unfoldable pub about_and_f : OrHoleF → (OrF → State) → State
about_and_f h k = want_f (no_chop_f (no_and_f h)) k

unfoldable pub has_and_f : OrHoleF → (OrF → State) → AndF → State
has_and_f h k g = have_f (fill_or_f h g) k

unfoldable pub about_chop_f : AndHoleF → (OrF → State) → State
about_chop_f h k = want_f (no_chop_f h) k

unfoldable pub has_chop_f : AndHoleF → (OrF → State) → ChopF → State
has_chop_f h k c = have_f (fill_and_f h c) k

unfoldable pub about_unit_f : HoleF → (OrF → State) → State
about_unit_f h k = want_f h k

unfoldable pub has_unit_f : HoleF → (OrF → State) → UnitF → State
has_unit_f h k u = have_f (fill_f h u) k

-- a formula, its colon and its names
unfoldable pub about_part : (TypedPart → State) → State
about_part k = about_or_f (λ f. sign colon_sign (more_names [] (λ us. k (record { formula = f; names = us }))))

unfoldable pub has_part : (TypedPart → State) → TypedPart → State
has_part k d = more_names d.names (λ us. k (record { formula = d.formula; names = us }))

-- the parts of a clause in their brackets
unfoldable pub one_part : (TypedPart → TypedClause) → (TypedClause → State) → State
one_part c k = sign open_round (about_part (λ d. sign close_round (k (c d))))

unfoldable pub two_parts : (TypedPart → TypedPart → TypedClause) → (TypedClause → State) → State
two_parts c k = sign open_round (about_part (λ d₁. sign comma_sign (about_part (λ d₂. sign close_round (k (c d₁ d₂))))))

unfoldable pub three_parts : (TypedPart → TypedPart → TypedPart → TypedClause) → (TypedClause → State) → State
three_parts c k =
    sign open_round
    (about_part (λ d₁. sign comma_sign (about_part (λ d₂. sign comma_sign (about_part (λ d₃. sign close_round (k (c d₁ d₂ d₃))))))))

-- the clause of a line, and the line's end
unfoldable pub a_line : (TypedClause → Line) → ℕ → ℕ → List Line → State
a_line l s m ls = a_clause (λ c. sign line_end (at_line s m (ls ++ l c ∷ [])))

-- the last operand of |, of & and of ^, which the next &, ^ or star takes
unfoldable pub last_or_p : {A : Type 0} → OrP → (OrHoleP → AndP → A) → A
last_or_p (one_p q) k = k no_or_p q
last_or_p (or_p p q) k = k (after_or_p p) q

unfoldable pub last_or_f : {A : Type 0} → OrF → (OrHoleF → AndF → A) → A
last_or_f (one_f g) k = k no_or_f g
last_or_f (or_f f g) k = k (after_or_f f) g

unfoldable pub last_and_f : {A : Type 0} → OrHoleF → AndF → (AndHoleF → ChopF → A) → A
last_and_f h (chain_f c) k = k (no_and_f h) c
last_and_f h (and_f g c) k = k (after_and_f h g) c

unfoldable pub last_chop_f : {A : Type 0} → AndHoleF → ChopF → (HoleF → UnitF → A) → A
last_chop_f h (unit_f u) k = k (no_chop_f h) u
last_chop_f h (chop_f c u) k = k (after_chop_f h c) u

-- a star after a piece: only after a bracketed formula
unfoldable pub starred : UnitF → (UnitF → State) → State
starred (bracketF f) k = k (starF f)
starred (starF f) k = failed
starred (pointF p) k = failed
starred (stretchF p) k = failed
starred (wholeF p) k = failed
starred (braceF p) k = failed
starred (slen_f c n) k = failed
starred (scountF p c n) k = failed
starred (sdurF p c n) k = failed
starred (draw_f q s) k = failed
starred (at_f u) k = failed
starred (gap_f u v a b) k = failed

-- the state s where the token is this word or sign, carries a number, a name, a signal, else `other`
unfoldable pub if_plain : Token → ℕ → State → State → State
if_plain (plain m) n s other = cond (eqb m n) s other
if_plain (signalled k) n s other = other
if_plain (named u) n s other = other
if_plain (number x) n s other = other
if_plain outside n s other = other

unfoldable pub if_number : Token → (ℕ → State) → State → State
if_number (plain m) s other = other
if_number (signalled k) s other = other
if_number (named u) s other = other
if_number (number x) s other = s x
if_number outside s other = other

unfoldable pub if_name : Token → (ℕ → State) → State → State
if_name (plain m) s other = other
if_name (signalled k) s other = other
if_name (named u) s other = s u
if_name (number x) s other = other
if_name outside s other = other

unfoldable pub if_signal : Token → (ℕ → State) → State → State
if_signal (plain m) s other = other
if_signal (signalled k) s other = s k
if_signal (named u) s other = other
if_signal (number x) s other = other
if_signal outside s other = other

-- the first token of a piece
unfoldable pub start_p : HoleP → (OrP → State) → Token → State
start_p h k t =
    if_plain t true_word (has_unit_p h k trueP)
    (if_plain t false_word (has_unit_p h k falseP)
    (if_plain t not_sign (about_unit_p (after_not_p h) k)
    (if_plain t open_round (about_or_p (λ p. sign close_round (has_unit_p h k (bracket_p p))))
    (if_signal t (λ i. has_unit_p h k (signalP i)) (if_name t (λ u. has_unit_p h k (nameP u)) failed)))))

unfoldable pub start_f : HoleF → (OrF → State) → Token → State
start_f h k t =
    if_plain t (comparison_sign below) (about_or_p (λ p. sign (comparison_sign above) (has_unit_f h k (pointF p))))
    (if_plain t open_square (about_or_p (λ p. sign close_square (has_unit_f h k (stretchF p))))
    (if_plain t open_squares (about_or_p (λ p. sign close_squares (has_unit_f h k (wholeF p))))
    (if_plain t open_braces (about_or_p (λ p. sign close_braces (has_unit_f h k (braceF p))))
    (if_plain t slen_word (a_comparison (λ c. a_number (λ n. has_unit_f h k (slen_f c n))))
    (if_plain t scount_word
    (sign open_round (about_or_p (λ p. sign close_round (a_comparison (λ c. a_number (λ n. has_unit_f h k (scountF p c n)))))))
    (if_plain t sdur_word
    (sign open_round (about_or_p (λ p. sign close_round (a_comparison (λ c. a_number (λ n. has_unit_f h k (sdurF p c n)))))))
    (if_plain t draw_word
    (sign open_round (a_number (λ q. sign comma_sign (a_signal (λ i. sign close_round (has_unit_f h k (draw_f q i)))))))
    (if_plain t at_word (sign open_round (a_name (λ u. sign close_round (has_unit_f h k (at_f u)))))
    (if_plain t gap_word
    (sign open_round
    (a_name (λ u. sign comma_sign (a_name (λ v. sign comma_sign
    (a_number (λ a. sign comma_sign (a_number (λ b. sign close_round (has_unit_f h k (gap_f u v a b)))))))))))
    (if_plain t open_round (about_or_f (λ f. sign close_round (has_unit_f h k (bracketF f)))) failed))))))))))

unfoldable pub step : State → Token → State
step failed t = failed
step (sign n s) t = if_plain t n s failed
step (a_number k) t = if_number t k failed
step (a_name k) t = if_name t k failed
step (a_signal k) t = if_signal t k failed
step (a_comparison k) t =
    if_plain t (comparison_sign below) (k below)
    (if_plain t (comparison_sign at_most) (k at_most)
    (if_plain t (comparison_sign equal) (k equal)
    (if_plain t (comparison_sign at_least) (k at_least)
    (if_plain t (comparison_sign above) (k above) failed))))
step (more_names us k) t = if_name t (λ u. cond (is_among u us) failed (more_names (us ++ u ∷ []) k)) (step (k us) t)
step (want_p h k) t = start_p h k t
step (have_p p k) t =
    if_plain t or_sign (about_and_p (after_or_p p) k)
    (if_plain t and_sign (last_or_p p (λ h q. about_unit_p (no_not_p (after_and_p h q)) k))
    (step (k p) t))
step (want_f h k) t = start_f h k t
step (have_f f k) t =
    if_plain t or_sign (about_and_f (after_or_f f) k)
    (if_plain t and_sign (last_or_f f (λ h g. about_chop_f (after_and_f h g) k))
    (if_plain t chop_sign (last_or_f f (λ h g. last_and_f h g (λ h c. about_unit_f (after_chop_f h c) k)))
    (if_plain t star_sign (last_or_f f (λ h g. last_and_f h g (λ h c. last_chop_f h c (λ h u. starred u (has_unit_f h k)))))
    (step (k f) t))))
step (a_clause k) t =
    if_plain t (type_word 1) (one_part pref_c k)
    (if_plain t (type_word 2) (two_parts init_c k)
    (if_plain t (type_word 3) (one_part anti_c k)
    (if_plain t (type_word 4) (two_parts implies_c k)
    (if_plain t (type_word 5) (three_parts follows_c k)
    (if_plain t (type_word 6) (three_parts triggers_c k) failed)))))
step (at_line s m ls) t = if_plain t assume_word (a_line assume_l s m ls) (if_plain t require_word (a_line require_l s m ls) failed)

-- the state after all tokens
unfoldable pub read : State → List Token → State
read s [] = s
read s (t ∷ ts) = read (step s t) ts

-- The same where only `room` more round brackets may be opened.
unfoldable pub one_less : ℕ → ℕ
one_less zero = zero
one_less (suc room) = room

unfoldable pub room_after : ℕ → Token → ℕ
room_after room (plain n) = cond (eqb n open_round) (one_less room) (cond (eqb n close_round) (suc room) room)
room_after room (signalled k) = room
room_after room (named u) = room
room_after room (number n) = room
room_after room outside = room

unfoldable pub if_room : ℕ → State → State
if_room zero s = failed
if_room (suc room) s = s

unfoldable pub step_in : ℕ → State → Token → State
step_in room s t = if_plain t open_round (if_room room (step s t)) (step s t)

unfoldable pub run : ℕ → State → List Token → State
run room s [] = s
run room s (t ∷ ts) = run (room_after room t) (step_in room s t) ts

unfoldable pub start : State
start = a_number (λ s. a_number (λ m. sign line_end (at_line s m [])))

unfoldable pub answer : State → Option TypedSheet
answer failed = none
answer (sign n s) = none
answer (a_number k) = none
answer (a_name k) = none
answer (a_signal k) = none
answer (a_comparison k) = none
answer (more_names us k) = none
answer (want_p h k) = none
answer (have_p p k) = none
answer (want_f h k) = none
answer (have_f f k) = none
answer (a_clause k) = none
answer (at_line s m ls) = some (record { signals = s; names = m; lines = ls })

-- the sheet that the tokens say, where at most `limit` round brackets are open at any place
unfoldable pub parse : ℕ → List Token → Option TypedSheet
parse limit ts = answer (run limit start ts)
