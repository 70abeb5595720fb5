-- What is read was said: each state of the reader stands for the tokens read so far, and a step adds its token to them.
use Rattle.std.proofs.Common.{ℕ, Bool, true, false, cond, ◌&&◌, List, [], ◌∷◌, ◌++◌, append-nil, ◌≡◌, refl, sym, ap, ◌∙◌, subst, eqb, eqb-true}
use mathlib.Core.Option.{some, none-ne-some, some-injective}
use mathlib.Core.Path.{fun_ext}
use Rattle.semantics.specs.Formula.{Comparison, below, at_most, equal, at_least, above}
use Rattle.semantics.proofs.Tests.{and_left, and_right, both}
use Rattle.grammar.specs.Token.{Token, plain, signalled, named, number, outside, line_end, assume_word, require_word, open_round, close_round, or_sign, and_sign, chop_sign, not_sign, star_sign, comparison_sign, open_square, open_squares, open_braces, slen_word, scount_word, sdur_word, draw_word, at_word, gap_word, true_word, false_word, type_word, colon_sign, comma_sign}
use Rattle.grammar.specs.Tree.{OrP, one_p, or_p, AndP, UnitP, trueP, falseP, signalP, nameP, not_p, bracket_p, OrF, one_f, or_f, AndF, chain_f, and_f, ChopF, unit_f, chop_f, UnitF, pointF, stretchF, wholeF, braceF, slen_f, scountF, sdurF, draw_f, at_f, gap_f, bracketF, starF, TypedPart, TypedClause, pref_c, anti_c, init_c, implies_c, follows_c, triggers_c, Line, assume_l, require_l, TypedSheet}
use Rattle.grammar.specs.Spelled.{say_or_p, say_and_p, say_unit_p, say_compared, say_or_f, say_and_f, say_chop_f, say_unit_f, say_names, say_part, say_clause, say_line, say_lines, say_sheet, is_among, none_twice, clause_single, lines_single}
use Rattle.grammar.specs.Reader.{OrHoleP, no_or_p, after_or_p, AndHoleP, no_and_p, after_and_p, HoleP, no_not_p, after_not_p, OrHoleF, no_or_f, after_or_f, AndHoleF, no_and_f, after_and_f, HoleF, no_chop_f, after_chop_f, fill_p, fill_f, State, failed, sign, a_number, a_name, a_signal, a_comparison, more_names, want_p, have_p, want_f, have_f, a_clause, at_line, about_or_p, about_and_p, about_unit_p, has_unit_p, about_or_f, about_and_f, about_chop_f, about_unit_f, has_unit_f, about_part, one_part, two_parts, three_parts, a_line, last_or_p, last_or_f, last_and_f, last_chop_f, starred, if_plain, if_number, if_name, if_signal, start_p, start_f, step, read, start, answer}
use Rattle.grammar.proofs.Names.{single_more}
use Rattle.grammar.proofs.Said.{computing}

-- tokens, said before what follows them; one token more
abbrev Saying : Type 0
Saying = List Token → List Token

abbrev and_then : Saying → Token → Saying
and_then said t rest = said (t ∷ rest)

-- what stands before a hole
abbrev say_or_hole_p : OrHoleP → Saying
say_or_hole_p no_or_p rest = rest
say_or_hole_p (after_or_p p) rest = say_or_p p (plain or_sign ∷ rest)

abbrev say_and_hole_p : AndHoleP → Saying
say_and_hole_p (no_and_p h) rest = say_or_hole_p h rest
say_and_hole_p (after_and_p h q) rest = say_or_hole_p h (say_and_p q (plain and_sign ∷ rest))

abbrev say_hole_p : HoleP → Saying
say_hole_p (no_not_p h) rest = say_and_hole_p h rest
say_hole_p (after_not_p h) rest = say_hole_p h (plain not_sign ∷ rest)

abbrev say_or_hole_f : OrHoleF → Saying
say_or_hole_f no_or_f rest = rest
say_or_hole_f (after_or_f f) rest = say_or_f f (plain or_sign ∷ rest)

abbrev say_and_hole_f : AndHoleF → Saying
say_and_hole_f (no_and_f h) rest = say_or_hole_f h rest
say_and_hole_f (after_and_f h g) rest = say_or_hole_f h (say_and_f g (plain and_sign ∷ rest))

abbrev say_hole_f : HoleF → Saying
say_hole_f (no_chop_f h) rest = say_and_hole_f h rest
say_hole_f (after_chop_f h c) rest = say_and_hole_f h (say_chop_f c (plain chop_sign ∷ rest))

abbrev say_lines_then : List Line → Saying
say_lines_then [] rest = rest
say_lines_then (l ∷ ls) rest = say_line l (say_lines_then ls rest)

-- What was said ends in `here`; `next` tells of what stands before that.
record Within (said here : Saying) (Next : Saying → Type 0) : Type 0 where
  before : Saying
  split : (rest : List Token) → said rest ≡ before (here rest)
  next : Next before

goes_on : {said here : Saying} {Next : Saying → Type 0} → Within said here Next → (more here' : Saying)
    → ((rest : List Token) → here (more rest) ≡ here' rest) → Within (λ rest. said (more rest)) here' Next
goes_on w more here' e = record { before = w.before; split = λ rest. w.split (more rest) ∙ ap w.before (e rest); next = w.next }

-- the state may stand after what was said
Reads : State → Saying → Type 0
Reads failed said = Unit {0}
Reads (sign n s) said = Reads s (and_then said (plain n))
Reads (a_number k) said = (n : ℕ) → Reads (k n) (and_then said (number n))
Reads (a_name k) said = (u : ℕ) → Reads (k u) (and_then said (named u))
Reads (a_signal k) said = (i : ℕ) → Reads (k i) (and_then said (signalled i))
Reads (a_comparison k) said = (c : Comparison) → Reads (k c) (and_then said (plain (comparison_sign c)))
Reads (more_names us k) said =
    (none_twice us ≡ true)
    × Within said (say_names us) (λ before. (vs : List ℕ) → none_twice vs ≡ true → Reads (k vs) (λ rest. before (say_names vs rest)))
Reads (want_p h k) said = Within said (say_hole_p h) (λ before. (p : OrP) → Reads (k p) (λ rest. before (say_or_p p rest)))
Reads (have_p p k) said = Within said (say_or_p p) (λ before. (p : OrP) → Reads (k p) (λ rest. before (say_or_p p rest)))
Reads (want_f h k) said = Within said (say_hole_f h) (λ before. (f : OrF) → Reads (k f) (λ rest. before (say_or_f f rest)))
Reads (have_f f k) said = Within said (say_or_f f) (λ before. (f : OrF) → Reads (k f) (λ rest. before (say_or_f f rest)))
Reads (a_clause k) said = (c : TypedClause) → clause_single c ≡ true → Reads (k c) (λ rest. said (say_clause c rest))
Reads (at_line s m ls) said =
    (lines_single ls ≡ true) × ((rest : List Token) → said rest ≡ number s ∷ number m ∷ plain line_end ∷ say_lines_then ls rest)

same_said : (s : State) (said said' : Saying) → ((rest : List Token) → said rest ≡ said' rest) → Reads s said → Reads s said'
same_said s said said' e r = subst (Reads s) (fun_ext e) r

-- the choices by a token
if_plain_lem : (t : Token) (n : ℕ) (s other : State) (said : Saying) → Reads s (and_then said (plain n)) → Reads other (and_then said t)
    → Reads (if_plain t n s other) (and_then said t)
unfolding if_plain
if_plain_lem (plain m) n s other said r r' = go (eqb m n) refl
  where
    go : (b : Bool) → eqb m n ≡ b → Reads (cond b s other) (and_then said (plain m))
    go true e = rw (eqb-true m n e) r
    go false e = r'
if_plain_lem (signalled i) n s other said r r' = r'
if_plain_lem (named u) n s other said r r' = r'
if_plain_lem (number x) n s other said r r' = r'
if_plain_lem outside n s other said r r' = r'

if_number_lem : (t : Token) (k : ℕ → State) (other : State) (said : Saying) → ((n : ℕ) → Reads (k n) (and_then said (number n)))
    → Reads other (and_then said t) → Reads (if_number t k other) (and_then said t)
unfolding if_number
if_number_lem (plain m) k other said r r' = r'
if_number_lem (signalled i) k other said r r' = r'
if_number_lem (named u) k other said r r' = r'
if_number_lem (number x) k other said r r' = r x
if_number_lem outside k other said r r' = r'

if_name_lem : (t : Token) (k : ℕ → State) (other : State) (said : Saying) → ((u : ℕ) → Reads (k u) (and_then said (named u)))
    → Reads other (and_then said t) → Reads (if_name t k other) (and_then said t)
unfolding if_name
if_name_lem (plain m) k other said r r' = r'
if_name_lem (signalled i) k other said r r' = r'
if_name_lem (named u) k other said r r' = r u
if_name_lem (number x) k other said r r' = r'
if_name_lem outside k other said r r' = r'

if_signal_lem : (t : Token) (k : ℕ → State) (other : State) (said : Saying) → ((i : ℕ) → Reads (k i) (and_then said (signalled i)))
    → Reads other (and_then said t) → Reads (if_signal t k other) (and_then said t)
unfolding if_signal
if_signal_lem (plain m) k other said r r' = r'
if_signal_lem (signalled i) k other said r r' = r i
if_signal_lem (named u) k other said r r' = r'
if_signal_lem (number x) k other said r r' = r'
if_signal_lem outside k other said r r' = r'

-- a tree is said as what stands before its hole, then what is in it
said_fill_p : (h : HoleP) (u : UnitP) (rest : List Token) → say_or_p (fill_p h u) rest ≡ say_hole_p h (say_unit_p u rest)
unfolding computing say_or_p say_and_p say_unit_p
said_fill_p (no_not_p (no_and_p no_or_p)) u rest = refl
said_fill_p (no_not_p (no_and_p (after_or_p p))) u rest = refl
said_fill_p (no_not_p (after_and_p no_or_p q)) u rest = refl
said_fill_p (no_not_p (after_and_p (after_or_p p) q)) u rest = refl
said_fill_p (after_not_p h) u rest = said_fill_p h (not_p u) rest

said_fill_f : (h : HoleF) (u : UnitF) (rest : List Token) → say_or_f (fill_f h u) rest ≡ say_hole_f h (say_unit_f u rest)
unfolding computing say_or_f say_and_f say_chop_f
said_fill_f (no_chop_f (no_and_f no_or_f)) u rest = refl
said_fill_f (no_chop_f (no_and_f (after_or_f f))) u rest = refl
said_fill_f (no_chop_f (after_and_f no_or_f g)) u rest = refl
said_fill_f (no_chop_f (after_and_f (after_or_f f) g)) u rest = refl
said_fill_f (after_chop_f (no_and_f no_or_f) c) u rest = refl
said_fill_f (after_chop_f (no_and_f (after_or_f f)) c) u rest = refl
said_fill_f (after_chop_f (after_and_f no_or_f g) c) u rest = refl
said_fill_f (after_chop_f (after_and_f (after_or_f f) g) c) u rest = refl

has_unit_p_lem : (h : HoleP) (k : OrP → State) (said : Saying) → Reads (want_p h k) said → (u : UnitP)
    → Reads (has_unit_p h k u) (λ rest. said (say_unit_p u rest))
unfolding Reads has_unit_p
has_unit_p_lem h k said r u = goes_on r (say_unit_p u) (say_or_p (fill_p h u)) (λ rest. sym (said_fill_p h u rest))

has_unit_f_lem : (h : HoleF) (k : OrF → State) (said : Saying) → Reads (want_f h k) said → (u : UnitF)
    → Reads (has_unit_f h k u) (λ rest. said (say_unit_f u rest))
unfolding Reads has_unit_f
has_unit_f_lem h k said r u = goes_on r (say_unit_f u) (say_or_f (fill_f h u)) (λ rest. sym (said_fill_f h u rest))

about_p : (k : OrP → State) (said : Saying) → ((p : OrP) → Reads (k p) (λ rest. said (say_or_p p rest))) → Reads (about_or_p k) said
unfolding Reads about_or_p
about_p k said next = record { before = said; split = λ rest. refl; next = next }

about_f : (k : OrF → State) (said : Saying) → ((f : OrF) → Reads (k f) (λ rest. said (say_or_f f rest))) → Reads (about_or_f k) said
unfolding Reads about_or_f
about_f k said next = record { before = said; split = λ rest. refl; next = next }

about_part_lem : (k : TypedPart → State) (said : Saying) → ((d : TypedPart) → none_twice d.names ≡ true → Reads (k d) (λ rest. said (say_part d rest)))
    → Reads (about_part k) said
unfolding Reads about_part say_part say_names none_twice
about_part_lem k said next =
    about_f (λ f. sign colon_sign (more_names [] (λ us. k (record { formula = f; names = us })))) said
    (λ f. (
      refl,
      record {
        before = λ rest. said (say_or_f f (plain colon_sign ∷ rest));
        split = λ rest. refl;
        next = λ us single. next (record { formula = f; names = us }) single;
      },
    ))

-- a piece begun
start_p_lem : (h : HoleP) (k : OrP → State) (said : Saying) (t : Token) → Reads (want_p h k) said → Reads (start_p h k t) (and_then said t)
unfolding Reads start_p about_unit_p say_unit_p
start_p_lem h k said t r =
    if_plain_lem t true_word _ _ said (unit trueP)
    (if_plain_lem t false_word _ _ said (unit falseP)
    (if_plain_lem t not_sign _ _ said (goes_on r (λ rest. plain not_sign ∷ rest) (say_hole_p (after_not_p h)) (λ rest. refl))
    (if_plain_lem t open_round _ _ said (about_p _ (and_then said (plain open_round)) (λ p. unit (bracket_p p)))
    (if_signal_lem t _ _ said (λ i. unit (signalP i)) (if_name_lem t _ _ said (λ u. unit (nameP u)) tt)))))
  where
    unit : (u : UnitP) → Reads (has_unit_p h k u) (λ rest. said (say_unit_p u rest))
    unit u = has_unit_p_lem h k said r u

start_f_lem : (h : HoleF) (k : OrF → State) (said : Saying) (t : Token) → Reads (want_f h k) said → Reads (start_f h k t) (and_then said t)
unfolding Reads start_f say_unit_f say_compared
start_f_lem h k said t r =
    if_plain_lem t (comparison_sign below) _ _ said (about_p _ (and_then said (plain (comparison_sign below))) (λ p. unit (pointF p)))
    (if_plain_lem t open_square _ _ said (about_p _ (and_then said (plain open_square)) (λ p. unit (stretchF p)))
    (if_plain_lem t open_squares _ _ said (about_p _ (and_then said (plain open_squares)) (λ p. unit (wholeF p)))
    (if_plain_lem t open_braces _ _ said (about_p _ (and_then said (plain open_braces)) (λ p. unit (braceF p)))
    (if_plain_lem t slen_word _ _ said (λ c n. unit (slen_f c n))
    (if_plain_lem t scount_word _ _ said (about_p _ (and_then (and_then said (plain scount_word)) (plain open_round)) (λ p c n. unit (scountF p c n)))
    (if_plain_lem t sdur_word _ _ said (about_p _ (and_then (and_then said (plain sdur_word)) (plain open_round)) (λ p c n. unit (sdurF p c n)))
    (if_plain_lem t draw_word _ _ said (λ q i. unit (draw_f q i))
    (if_plain_lem t at_word _ _ said (λ u. unit (at_f u))
    (if_plain_lem t gap_word _ _ said (λ u v a b. unit (gap_f u v a b))
    (if_plain_lem t open_round _ _ said (about_f _ (and_then said (plain open_round)) (λ f. unit (bracketF f))) tt))))))))))
  where
    unit : (u : UnitF) → Reads (has_unit_f h k u) (λ rest. said (say_unit_f u rest))
    unit u = has_unit_f_lem h k said r u

-- the parts of a clause, after the word of its type
one_part_lem : (c : TypedPart → TypedClause) (k : TypedClause → State) (said : Saying)
    → ((d : TypedPart) → none_twice d.names ≡ true → Reads (k (c d)) (λ rest. said (plain open_round ∷ say_part d (plain close_round ∷ rest))))
    → Reads (one_part c k) said
unfolding Reads one_part
one_part_lem c k said next = about_part_lem _ (and_then said (plain open_round)) next

two_parts_lem : (c : TypedPart → TypedPart → TypedClause) (k : TypedClause → State) (said : Saying)
    → ((d₁ d₂ : TypedPart) → none_twice d₁.names && none_twice d₂.names ≡ true
    → Reads (k (c d₁ d₂)) (λ rest. said (plain open_round ∷ say_part d₁ (plain comma_sign ∷ say_part d₂ (plain close_round ∷ rest)))))
    → Reads (two_parts c k) said
unfolding Reads two_parts
two_parts_lem c k said next =
    about_part_lem _ (and_then said (plain open_round))
    (λ d₁ s₁. about_part_lem _ (λ rest. said (plain open_round ∷ say_part d₁ (plain comma_sign ∷ rest))) (λ d₂ s₂. next d₁ d₂ (both s₁ s₂)))

three_parts_lem : (c : TypedPart → TypedPart → TypedPart → TypedClause) (k : TypedClause → State) (said : Saying)
    → ((d₁ d₂ d₃ : TypedPart) → none_twice d₁.names && (none_twice d₂.names && none_twice d₃.names) ≡ true
    → Reads (k (c d₁ d₂ d₃))
    (λ rest. said (plain open_round ∷ say_part d₁ (plain comma_sign ∷ say_part d₂ (plain comma_sign ∷ say_part d₃ (plain close_round ∷ rest))))))
    → Reads (three_parts c k) said
unfolding Reads three_parts
three_parts_lem c k said next =
    about_part_lem _ (and_then said (plain open_round))
    (λ d₁ s₁. about_part_lem _ (λ rest. said (plain open_round ∷ say_part d₁ (plain comma_sign ∷ rest)))
    (λ d₂ s₂. about_part_lem _ (λ rest. said (plain open_round ∷ say_part d₁ (plain comma_sign ∷ say_part d₂ (plain comma_sign ∷ rest))))
    (λ d₃ s₃. next d₁ d₂ d₃ (both s₁ (both s₂ s₃)))))

step_clause : (k : TypedClause → State) (said : Saying) (t : Token) → Reads (a_clause k) said → Reads (step (a_clause k) t) (and_then said t)
unfolding Reads step say_clause clause_single
step_clause k said t r =
    if_plain_lem t (type_word 1) _ _ said (one_part_lem pref_c k (and_then said (plain (type_word 1))) (λ d. r (pref_c d)))
    (if_plain_lem t (type_word 2) _ _ said (two_parts_lem init_c k (and_then said (plain (type_word 2))) (λ d₁ d₂. r (init_c d₁ d₂)))
    (if_plain_lem t (type_word 3) _ _ said (one_part_lem anti_c k (and_then said (plain (type_word 3))) (λ d. r (anti_c d)))
    (if_plain_lem t (type_word 4) _ _ said (two_parts_lem implies_c k (and_then said (plain (type_word 4))) (λ d₁ d₂. r (implies_c d₁ d₂)))
    (if_plain_lem t (type_word 5) _ _ said (three_parts_lem follows_c k (and_then said (plain (type_word 5))) (λ d₁ d₂ d₃. r (follows_c d₁ d₂ d₃)))
    (if_plain_lem t (type_word 6) _ _ said (three_parts_lem triggers_c k (and_then said (plain (type_word 6))) (λ d₁ d₂ d₃. r (triggers_c d₁ d₂ d₃))) tt)))))

-- one line more
said_lines_more : (ls : List Line) (l : Line) (rest : List Token) → say_lines_then (ls ++ l ∷ []) rest ≡ say_lines_then ls (say_line l rest)
said_lines_more [] l rest = refl
said_lines_more (x ∷ ls) l rest = ap (say_line x) (said_lines_more ls l rest)

lines_single_more : (ls : List Line) (l : Line) → lines_single ls ≡ true → lines_single (l ∷ []) ≡ true → lines_single (ls ++ l ∷ []) ≡ true
unfolding lines_single
lines_single_more [] l p q = q
lines_single_more (assume_l c ∷ ls) l p q =
    both (and_left (clause_single c) (lines_single ls) p) (lines_single_more ls l (and_right (clause_single c) (lines_single ls) p) q)
lines_single_more (require_l c ∷ ls) l p q =
    both (and_left (clause_single c) (lines_single ls) p) (lines_single_more ls l (and_right (clause_single c) (lines_single ls) p) q)

step_line : (s m : ℕ) (ls : List Line) (said : Saying) (t : Token) → Reads (at_line s m ls) said → Reads (step (at_line s m ls) t) (and_then said t)
unfolding Reads step a_line say_line lines_single
step_line s m ls said t r =
    if_plain_lem t assume_word _ _ said (λ c single. grown (assume_l c) (both single refl))
    (if_plain_lem t require_word _ _ said (λ c single. grown (require_l c) (both single refl)) tt)
  where
    grown : (l : Line) → lines_single (l ∷ []) ≡ true → Reads (at_line s m (ls ++ l ∷ [])) (λ rest. said (say_line l rest))
    grown l single = (
      lines_single_more ls l r.0 single,
      λ rest. r.1 (say_line l rest) ∙ ap (λ ts. number s ∷ number m ∷ plain line_end ∷ ts) (sym (said_lines_more ls l rest)),
    )

-- a name more, or what follows the names
said_names_more : (us : List ℕ) (u : ℕ) (rest : List Token) → say_names (us ++ u ∷ []) rest ≡ say_names us (named u ∷ rest)
unfolding say_names
said_names_more [] u rest = refl
said_names_more (v ∷ us) u rest = ap (λ ts. named v ∷ ts) (said_names_more us u rest)

name_more : (us : List ℕ) (k : List ℕ → State) (said : Saying) → Reads (more_names us k) said → (u : ℕ)
    → Reads (cond (is_among u us) failed (more_names (us ++ u ∷ []) k)) (and_then said (named u))
unfolding Reads
name_more us k said r u = go (is_among u us) refl
  where
    go : (b : Bool) → is_among u us ≡ b → Reads (cond b failed (more_names (us ++ u ∷ []) k)) (and_then said (named u))
    go true e = tt
    go false e = (
      single_more us u r.0 e,
      goes_on r.1 (λ rest. named u ∷ rest) (say_names (us ++ u ∷ [])) (λ rest. sym (said_names_more us u rest)),
    )

-- a tree taken apart at its last operand is said as before
last_or_p_lem : (p : OrP) (Q : State → Type 0) (k : OrHoleP → AndP → State)
    → ((h : OrHoleP) (q : AndP) → ((rest : List Token) → say_or_p p rest ≡ say_or_hole_p h (say_and_p q rest)) → Q (k h q)) → Q (last_or_p p k)
unfolding last_or_p say_or_p
last_or_p_lem (one_p q) Q k r = r no_or_p q (λ rest. refl)
last_or_p_lem (or_p p q) Q k r = r (after_or_p p) q (λ rest. refl)

last_or_f_lem : (f : OrF) (Q : State → Type 0) (k : OrHoleF → AndF → State)
    → ((h : OrHoleF) (g : AndF) → ((rest : List Token) → say_or_f f rest ≡ say_or_hole_f h (say_and_f g rest)) → Q (k h g)) → Q (last_or_f f k)
unfolding last_or_f say_or_f
last_or_f_lem (one_f g) Q k r = r no_or_f g (λ rest. refl)
last_or_f_lem (or_f f g) Q k r = r (after_or_f f) g (λ rest. refl)

last_and_f_lem : (h : OrHoleF) (g : AndF) (Q : State → Type 0) (k : AndHoleF → ChopF → State)
    → ((h' : AndHoleF) (c : ChopF) → ((rest : List Token) → say_or_hole_f h (say_and_f g rest) ≡ say_and_hole_f h' (say_chop_f c rest)) → Q (k h' c))
    → Q (last_and_f h g k)
unfolding last_and_f say_and_f
last_and_f_lem h (chain_f c) Q k r = r (no_and_f h) c (λ rest. refl)
last_and_f_lem h (and_f g c) Q k r = r (after_and_f h g) c (λ rest. refl)

last_chop_f_lem : (h : AndHoleF) (c : ChopF) (Q : State → Type 0) (k : HoleF → UnitF → State)
    → ((h' : HoleF) (u : UnitF) → ((rest : List Token) → say_and_hole_f h (say_chop_f c rest) ≡ say_hole_f h' (say_unit_f u rest)) → Q (k h' u))
    → Q (last_chop_f h c k)
unfolding last_chop_f say_chop_f
last_chop_f_lem h (unit_f u) Q k r = r (no_chop_f h) u (λ rest. refl)
last_chop_f_lem h (chop_f c u) Q k r = r (after_chop_f h c) u (λ rest. refl)

-- a star after a piece
star_unit : (u : UnitF) (h : HoleF) (k : OrF → State) (said : Saying) → Reads (want_f h k) said
    → Reads (starred u (has_unit_f h k)) (λ rest. said (say_unit_f u (plain star_sign ∷ rest)))
unfolding Reads starred say_unit_f
star_unit (bracketF f) h k said r = has_unit_f_lem h k said r (starF f)
star_unit (starF f) h k said r = tt
star_unit (pointF p) h k said r = tt
star_unit (stretchF p) h k said r = tt
star_unit (wholeF p) h k said r = tt
star_unit (braceF p) h k said r = tt
star_unit (slen_f c n) h k said r = tt
star_unit (scountF p c n) h k said r = tt
star_unit (sdurF p c n) h k said r = tt
star_unit (draw_f q i) h k said r = tt
star_unit (at_f u) h k said r = tt
star_unit (gap_f u v a b) h k said r = tt

-- after a whole proposition or formula: a joiner, or what follows it
step_have_p : (p : OrP) (k : OrP → State) (said : Saying) (t : Token) → Reads (have_p p k) said
    → ((said : Saying) → Reads (k p) said → Reads (step (k p) t) (and_then said t)) → Reads (step (have_p p k) t) (and_then said t)
unfolding Reads step about_and_p about_unit_p
step_have_p p k said t r follows =
    if_plain_lem t or_sign _ _ said (goes_on r (λ rest. plain or_sign ∷ rest) (say_hole_p (no_not_p (no_and_p (after_or_p p)))) (λ rest. refl))
    (if_plain_lem t and_sign _ _ said
    (last_or_p_lem p (λ s. Reads s (and_then said (plain and_sign))) (λ h q. about_unit_p (no_not_p (after_and_p h q)) k)
    (λ h q e. goes_on r (λ rest. plain and_sign ∷ rest) (say_hole_p (no_not_p (after_and_p h q))) (λ rest. e (plain and_sign ∷ rest))))
    (same_said (step (k p) t) (and_then (λ rest. r.before (say_or_p p rest)) t) (and_then said t) (λ rest. sym (r.split (t ∷ rest)))
    (follows (λ rest. r.before (say_or_p p rest)) (r.next p))))

step_have_f : (f : OrF) (k : OrF → State) (said : Saying) (t : Token) → Reads (have_f f k) said
    → ((said : Saying) → Reads (k f) said → Reads (step (k f) t) (and_then said t)) → Reads (step (have_f f k) t) (and_then said t)
unfolding Reads step about_and_f about_chop_f about_unit_f
step_have_f f k said t r follows =
    if_plain_lem t or_sign _ _ said (goes_on r (λ rest. plain or_sign ∷ rest) (say_hole_f (no_chop_f (no_and_f (after_or_f f)))) (λ rest. refl))
    (if_plain_lem t and_sign _ _ said
    (last_or_f_lem f (λ s. Reads s (and_then said (plain and_sign))) (λ h g. about_chop_f (after_and_f h g) k)
    (λ h g e. goes_on r (λ rest. plain and_sign ∷ rest) (say_hole_f (no_chop_f (after_and_f h g))) (λ rest. e (plain and_sign ∷ rest))))
    (if_plain_lem t chop_sign _ _ said
    (last_or_f_lem f (λ s. Reads s (and_then said (plain chop_sign))) (λ h g. last_and_f h g (λ h c. about_unit_f (after_chop_f h c) k))
    (λ h g e. last_and_f_lem h g (λ s. Reads s (and_then said (plain chop_sign))) (λ h c. about_unit_f (after_chop_f h c) k)
    (λ h c e'. goes_on r (λ rest. plain chop_sign ∷ rest) (say_hole_f (after_chop_f h c))
    (λ rest. e (plain chop_sign ∷ rest) ∙ e' (plain chop_sign ∷ rest)))))
    (if_plain_lem t star_sign _ _ said
    (last_or_f_lem f (λ s. Reads s (and_then said (plain star_sign))) (λ h g. last_and_f h g (λ h c. last_chop_f h c (λ h u. starred u (has_unit_f h k))))
    (λ h g e. last_and_f_lem h g (λ s. Reads s (and_then said (plain star_sign))) (λ h c. last_chop_f h c (λ h u. starred u (has_unit_f h k)))
    (λ h c e'. last_chop_f_lem h c (λ s. Reads s (and_then said (plain star_sign))) (λ h u. starred u (has_unit_f h k))
    (λ h u e''. star h u (λ rest. e rest ∙ e' rest ∙ e'' rest)))))
    (same_said (step (k f) t) (and_then (λ rest. r.before (say_or_f f rest)) t) (and_then said t) (λ rest. sym (r.split (t ∷ rest)))
    (follows (λ rest. r.before (say_or_f f rest)) (r.next f))))))
  where
    star : (h : HoleF) (u : UnitF) → ((rest : List Token) → say_or_f f rest ≡ say_hole_f h (say_unit_f u rest))
        → Reads (starred u (has_unit_f h k)) (and_then said (plain star_sign))
    star h u e =
        same_said (starred u (has_unit_f h k)) (λ rest. r.before (say_hole_f h (say_unit_f u (plain star_sign ∷ rest)))) (and_then said (plain star_sign))
        (λ rest. ap r.before (sym (e (plain star_sign ∷ rest))) ∙ sym (r.split (plain star_sign ∷ rest)))
        (star_unit u h k (λ rest. r.before (say_hole_f h rest)) (record { before = r.before; split = λ rest. refl; next = r.next }))

-- a step adds its token to what was said
step_reads : (s : State) (said : Saying) (t : Token) → Reads s said → Reads (step s t) (and_then said t)
unfolding Reads step
step_reads failed said t r = tt
step_reads (sign n s) said t r = if_plain_lem t n s failed said r tt
step_reads (a_number k) said t r = if_number_lem t k failed said r tt
step_reads (a_name k) said t r = if_name_lem t k failed said r tt
step_reads (a_signal k) said t r = if_signal_lem t k failed said r tt
step_reads (a_comparison k) said t r =
    if_plain_lem t (comparison_sign below) _ _ said (r below)
    (if_plain_lem t (comparison_sign at_most) _ _ said (r at_most)
    (if_plain_lem t (comparison_sign equal) _ _ said (r equal)
    (if_plain_lem t (comparison_sign at_least) _ _ said (r at_least) (if_plain_lem t (comparison_sign above) _ _ said (r above) tt))))
step_reads (more_names us k) said t r =
    if_name_lem t _ _ said (name_more us k said r)
    (same_said (step (k us) t) (and_then (λ rest. r.1.before (say_names us rest)) t) (and_then said t) (λ rest. sym (r.1.split (t ∷ rest)))
    (step_reads (k us) (λ rest. r.1.before (say_names us rest)) t (r.1.next us r.0)))
step_reads (want_p h k) said t r = start_p_lem h k said t r
step_reads (have_p p k) said t r = step_have_p p k said t r (λ said. step_reads (k p) said t)
step_reads (want_f h k) said t r = start_f_lem h k said t r
step_reads (have_f f k) said t r = step_have_f f k said t r (λ said. step_reads (k f) said t)
step_reads (a_clause k) said t r = step_clause k said t r
step_reads (at_line s m ls) said t r = step_line s m ls said t r

read_reads : (s : State) (said : Saying) (ts : List Token) → Reads s said → Reads (read s ts) (λ rest. said (ts ++ rest))
unfolding read
read_reads s said [] r = r
read_reads s said (t ∷ ts) r = read_reads (step s t) (and_then said t) ts (step_reads s said t r)

start_reads : Reads start (λ rest. rest)
unfolding Reads start lines_single
start_reads s m = (refl, λ rest. refl)

said_lines_then : (ls : List Line) → say_lines_then ls [] ≡ say_lines ls
unfolding say_lines
said_lines_then [] = refl
said_lines_then (l ∷ ls) = ap (say_line l) (said_lines_then ls)

-- an answer is the sheet that was said
record Told (said : Saying) (t : TypedSheet) : Type 0 where
  spelled : say_sheet t ≡ said []
  single : lines_single t.lines ≡ true

told : (s m : ℕ) (ls : List Line) (said : Saying) → Reads (at_line s m ls) said → Told said (record { signals = s; names = m; lines = ls })
unfolding Reads say_sheet
told s m ls said r =
    record {
      spelled = ap (λ ts. number s ∷ number m ∷ plain line_end ∷ ts) (sym (said_lines_then ls)) ∙ sym (r.1 []);
      single = r.0;
    }

answer_told : (s : State) (said : Saying) (t : TypedSheet) → Reads s said → answer s ≡ some t → Told said t
unfolding answer
answer_told failed said t r e = absurd (none-ne-some _ e)
answer_told (sign n s) said t r e = absurd (none-ne-some _ e)
answer_told (a_number k) said t r e = absurd (none-ne-some _ e)
answer_told (a_name k) said t r e = absurd (none-ne-some _ e)
answer_told (a_signal k) said t r e = absurd (none-ne-some _ e)
answer_told (a_comparison k) said t r e = absurd (none-ne-some _ e)
answer_told (more_names us k) said t r e = absurd (none-ne-some _ e)
answer_told (want_p h k) said t r e = absurd (none-ne-some _ e)
answer_told (have_p p k) said t r e = absurd (none-ne-some _ e)
answer_told (want_f h k) said t r e = absurd (none-ne-some _ e)
answer_told (have_f f k) said t r e = absurd (none-ne-some _ e)
answer_told (a_clause k) said t r e = absurd (none-ne-some _ e)
answer_told (at_line s m ls) said t r e =
    subst (Told said) (some-injective (record { signals = s; names = m; lines = ls }) t e) (told s m ls said r)

pub read_said : (ts : List Token) (t : TypedSheet) → answer (read start ts) ≡ some t → (say_sheet t ≡ ts) × (lines_single t.lines ≡ true)
read_said ts t e =
    let w = answer_told (read start ts) (λ rest. ts ++ rest) t (read_reads start (λ rest. rest) ts start_reads) e in
    (w.spelled ∙ append-nil ts, w.single)
