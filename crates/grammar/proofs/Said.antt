-- What is said is read: over the tokens of a tree the reader comes from "about to read it" to "has read it".
use Rattle.std.proofs.Common.{ℕ, zero, suc, true, cond, ◌&&◌, List, [], ◌∷◌, ◌++◌, append-nil, append_assoc, ◌≡◌, refl, sym, ap, ◌∙◌}
use mathlib.Core.Option.{some}
use Rattle.semantics.proofs.Tests.{and_left, and_right}
use Rattle.semantics.specs.Formula.{Comparison, below, at_most, equal, at_least, above}
use Rattle.grammar.specs.Token.{Token, plain, number, line_end, close_round, open_round, comparison_sign, close_square, close_squares, close_braces, or_sign, and_sign, chop_sign, star_sign, comma_sign, colon_sign}
use Rattle.grammar.specs.Tree.{OrP, one_p, or_p, AndP, unit_p, and_p, UnitP, trueP, falseP, signalP, nameP, not_p, bracket_p, OrF, one_f, or_f, AndF, chain_f, and_f, ChopF, unit_f, chop_f, UnitF, pointF, stretchF, wholeF, braceF, slen_f, scountF, sdurF, draw_f, at_f, gap_f, bracketF, starF, TypedPart, TypedClause, pref_c, anti_c, init_c, implies_c, follows_c, triggers_c, Line, assume_l, require_l, TypedSheet}
use Rattle.grammar.specs.Spelled.{say_or_p, say_and_p, say_unit_p, say_compared, say_or_f, say_and_f, say_chop_f, say_unit_f, say_names, say_part, say_clause, say_line, say_lines, say_sheet, none_twice, clause_single, lines_single}
use Rattle.grammar.proofs.Names.{new_name}
use Rattle.grammar.specs.Reader.{OrHoleP, no_or_p, after_or_p, no_and_p, after_and_p, HoleP, no_not_p, after_not_p, OrHoleF, no_or_f, after_or_f, AndHoleF, no_and_f, after_and_f, HoleF, no_chop_f, after_chop_f, fill_or_p, fill_and_p, fill_p, fill_or_f, fill_and_f, fill_f, State, failed, sign, a_number, a_comparison, more_names, a_clause, at_line, about_or_p, has_or_p, about_and_p, has_and_p, about_unit_p, has_unit_p, about_or_f, has_or_f, about_and_f, has_and_f, about_chop_f, has_chop_f, about_unit_f, has_unit_f, about_part, has_part, one_part, two_parts, three_parts, a_line, last_or_p, last_or_f, last_and_f, last_chop_f, starred, if_plain, if_number, if_name, if_signal, start_p, start_f, step, read, one_less, room_after, if_room, step_in, run, start, answer, parse, nots, after_nots}

-- everything that the reader computes with
unfoldable pub computing : ℕ
unfolding fill_or_p fill_and_p fill_p fill_or_f fill_and_f fill_f about_or_p has_or_p about_and_p has_and_p about_unit_p has_unit_p about_or_f has_or_f about_and_f has_and_f about_chop_f has_chop_f about_unit_f has_unit_f about_part has_part one_part two_parts three_parts a_line last_or_p last_or_f last_and_f last_chop_f starred if_plain if_number if_name if_signal start_p start_f step read one_less room_after if_room step_in run start answer parse
computing = 0

-- & after an operand of |
pub and_next_p : (h : OrHoleP) (q : AndP) (k : OrP → State) → step (has_and_p h k q) (plain and_sign) ≡ about_unit_p (no_not_p (after_and_p h q)) k
unfolding computing
and_next_p no_or_p q k = refl
and_next_p (after_or_p p) q k = refl

-- ! any number of times
pub fill_nots : (n : ℕ) (h : HoleP) (u : UnitP) → fill_p (after_nots n h) u ≡ fill_p h (nots n u)
unfolding computing after_nots nots
fill_nots zero h u = refl
fill_nots (suc n) h u = fill_nots n h (not_p u)

mutual
  unfolding computing say_or_p say_and_p say_unit_p

  pub said_or_p : (p : OrP) (k : OrP → State) (rest : List Token) → read (about_or_p k) (say_or_p p rest) ≡ read (has_or_p k p) rest
  said_or_p (one_p q) k rest = said_and_p q no_or_p k rest
  said_or_p (or_p p q) k rest = said_or_p p k (plain or_sign ∷ say_and_p q rest) ∙ said_and_p q (after_or_p p) k rest

  pub said_and_p : (q : AndP) (h : OrHoleP) (k : OrP → State) (rest : List Token) → read (about_and_p h k) (say_and_p q rest) ≡ read (has_and_p h k q) rest
  said_and_p (unit_p u) h k rest = said_unit_p u (no_not_p (no_and_p h)) k rest
  said_and_p (and_p q u) h k rest =
      said_and_p q h k (plain and_sign ∷ say_unit_p u rest) ∙ ap (λ s. read s (say_unit_p u rest)) (and_next_p h q k)
      ∙ said_unit_p u (no_not_p (after_and_p h q)) k rest

  pub said_unit_p : (u : UnitP) (h : HoleP) (k : OrP → State) (rest : List Token)
      → read (about_unit_p h k) (say_unit_p u rest) ≡ read (has_unit_p h k u) rest
  said_unit_p trueP h k rest = refl
  said_unit_p falseP h k rest = refl
  said_unit_p (signalP i) h k rest = refl
  said_unit_p (nameP u) h k rest = refl
  said_unit_p (not_p u) h k rest = said_unit_p u (after_not_p h) k rest
  said_unit_p (bracket_p p) h k rest = said_or_p p (λ p. sign close_round (has_unit_p h k (bracket_p p))) (plain close_round ∷ rest)

-- & after an operand of |, ^ after an operand of &, a star after a bracketed formula
pub and_next_f : (h : OrHoleF) (g : AndF) (k : OrF → State) → step (has_and_f h k g) (plain and_sign) ≡ about_chop_f (after_and_f h g) k
unfolding computing
and_next_f no_or_f g k = refl
and_next_f (after_or_f f) g k = refl

pub chop_next_f : (h : AndHoleF) (c : ChopF) (k : OrF → State) → step (has_chop_f h k c) (plain chop_sign) ≡ about_unit_f (after_chop_f h c) k
unfolding computing
chop_next_f (no_and_f no_or_f) c k = refl
chop_next_f (no_and_f (after_or_f f)) c k = refl
chop_next_f (after_and_f no_or_f g) c k = refl
chop_next_f (after_and_f (after_or_f f) g) c k = refl

pub star_next_f : (h : HoleF) (f : OrF) (k : OrF → State) → step (has_unit_f h k (bracketF f)) (plain star_sign) ≡ has_unit_f h k (starF f)
unfolding computing
star_next_f (no_chop_f (no_and_f no_or_f)) f k = refl
star_next_f (no_chop_f (no_and_f (after_or_f g))) f k = refl
star_next_f (no_chop_f (after_and_f no_or_f g)) f k = refl
star_next_f (no_chop_f (after_and_f (after_or_f e) g)) f k = refl
star_next_f (after_chop_f (no_and_f no_or_f) c) f k = refl
star_next_f (after_chop_f (no_and_f (after_or_f g)) c) f k = refl
star_next_f (after_chop_f (after_and_f no_or_f g) c) f k = refl
star_next_f (after_chop_f (after_and_f (after_or_f e) g) c) f k = refl

pub said_comparison : (c : Comparison) (k : Comparison → State) → step (a_comparison k) (plain (comparison_sign c)) ≡ k c
unfolding computing
said_comparison below k = refl
said_comparison at_most k = refl
said_comparison equal k = refl
said_comparison at_least k = refl
said_comparison above k = refl

said_compared : (c : Comparison) (n : ℕ) (k : Comparison → ℕ → State) (rest : List Token)
    → read (a_comparison (λ c. a_number (k c))) (say_compared c n rest) ≡ read (k c n) rest
unfolding computing say_compared
said_compared c n k rest = ap (λ s. read s (number n ∷ rest)) (said_comparison c (λ c. a_number (k c)))

mutual
  unfolding computing say_or_f say_and_f say_chop_f say_unit_f

  pub said_or_f : (f : OrF) (k : OrF → State) (rest : List Token) → read (about_or_f k) (say_or_f f rest) ≡ read (has_or_f k f) rest
  said_or_f (one_f g) k rest = said_and_f g no_or_f k rest
  said_or_f (or_f f g) k rest = said_or_f f k (plain or_sign ∷ say_and_f g rest) ∙ said_and_f g (after_or_f f) k rest

  pub said_and_f : (g : AndF) (h : OrHoleF) (k : OrF → State) (rest : List Token) → read (about_and_f h k) (say_and_f g rest) ≡ read (has_and_f h k g) rest
  said_and_f (chain_f c) h k rest = said_chop_f c (no_and_f h) k rest
  said_and_f (and_f g c) h k rest =
      said_and_f g h k (plain and_sign ∷ say_chop_f c rest) ∙ ap (λ s. read s (say_chop_f c rest)) (and_next_f h g k)
      ∙ said_chop_f c (after_and_f h g) k rest

  pub said_chop_f : (c : ChopF) (h : AndHoleF) (k : OrF → State) (rest : List Token)
      → read (about_chop_f h k) (say_chop_f c rest) ≡ read (has_chop_f h k c) rest
  said_chop_f (unit_f u) h k rest = said_unit_f u (no_chop_f h) k rest
  said_chop_f (chop_f c u) h k rest =
      said_chop_f c h k (plain chop_sign ∷ say_unit_f u rest) ∙ ap (λ s. read s (say_unit_f u rest)) (chop_next_f h c k)
      ∙ said_unit_f u (after_chop_f h c) k rest

  pub said_unit_f : (u : UnitF) (h : HoleF) (k : OrF → State) (rest : List Token)
      → read (about_unit_f h k) (say_unit_f u rest) ≡ read (has_unit_f h k u) rest
  said_unit_f (pointF p) h k rest =
      said_or_p p (λ p. sign (comparison_sign above) (has_unit_f h k (pointF p))) (plain (comparison_sign above) ∷ rest)
  said_unit_f (stretchF p) h k rest = said_or_p p (λ p. sign close_square (has_unit_f h k (stretchF p))) (plain close_square ∷ rest)
  said_unit_f (wholeF p) h k rest = said_or_p p (λ p. sign close_squares (has_unit_f h k (wholeF p))) (plain close_squares ∷ rest)
  said_unit_f (braceF p) h k rest = said_or_p p (λ p. sign close_braces (has_unit_f h k (braceF p))) (plain close_braces ∷ rest)
  said_unit_f (slen_f c n) h k rest = said_compared c n (λ c n. has_unit_f h k (slen_f c n)) rest
  said_unit_f (scountF p c n) h k rest =
      said_or_p p (λ p. sign close_round (a_comparison (λ c. a_number (λ n. has_unit_f h k (scountF p c n))))) (plain close_round ∷ say_compared c n rest)
      ∙ said_compared c n (λ c n. has_unit_f h k (scountF p c n)) rest
  said_unit_f (sdurF p c n) h k rest =
      said_or_p p (λ p. sign close_round (a_comparison (λ c. a_number (λ n. has_unit_f h k (sdurF p c n))))) (plain close_round ∷ say_compared c n rest)
      ∙ said_compared c n (λ c n. has_unit_f h k (sdurF p c n)) rest
  said_unit_f (draw_f q i) h k rest = refl
  said_unit_f (at_f u) h k rest = refl
  said_unit_f (gap_f u v a b) h k rest = refl
  said_unit_f (bracketF f) h k rest = said_or_f f (λ f. sign close_round (has_unit_f h k (bracketF f))) (plain close_round ∷ rest)
  said_unit_f (starF f) h k rest =
      said_or_f f (λ f. sign close_round (has_unit_f h k (bracketF f))) (plain close_round ∷ plain star_sign ∷ rest)
      ∙ ap (λ s. read s rest) (star_next_f h f k)

pub said_names : (us vs : List ℕ) (k : List ℕ → State) (rest : List Token) → none_twice (us ++ vs) ≡ true
    → read (more_names us k) (say_names vs rest) ≡ read (more_names (us ++ vs) k) rest
unfolding computing say_names
said_names us [] k rest single = ap (λ us. read (more_names us k) rest) (sym (append-nil us))
said_names us (v ∷ vs) k rest single =
    let same : us ++ v ∷ [] ++ vs ≡ us ++ v ∷ vs = append_assoc us (v ∷ []) vs in
    ap (λ b. read (cond b failed (more_names (us ++ v ∷ []) k)) (say_names vs rest)) (new_name us v vs single)
    ∙ said_names (us ++ v ∷ []) vs k rest (ap none_twice same ∙ single) ∙ ap (λ us. read (more_names us k) rest) same

pub said_part : (d : TypedPart) (k : TypedPart → State) (rest : List Token) → none_twice d.names ≡ true
    → read (about_part k) (say_part d rest) ≡ read (has_part k d) rest
unfolding computing say_part
said_part d k rest single =
    said_or_f d.formula (λ f. sign colon_sign (more_names [] (λ us. k (record { formula = f; names = us }))))
    (plain colon_sign ∷ say_names d.names rest)
    ∙ said_names [] d.names (λ us. k (record { formula = d.formula; names = us })) rest single

-- the parts of a clause in their brackets
said_one : (c : TypedPart → TypedClause) (d : TypedPart) (k : TypedClause → State) (rest : List Token) → none_twice d.names ≡ true
    → read (one_part c k) (plain open_round ∷ say_part d (plain close_round ∷ rest)) ≡ read (k (c d)) rest
unfolding computing
said_one c d k rest single = said_part d (λ d. sign close_round (k (c d))) (plain close_round ∷ rest) single

said_two : (c : TypedPart → TypedPart → TypedClause) (d₁ d₂ : TypedPart) (k : TypedClause → State) (rest : List Token)
    → none_twice d₁.names && none_twice d₂.names ≡ true
    → read (two_parts c k) (plain open_round ∷ say_part d₁ (plain comma_sign ∷ say_part d₂ (plain close_round ∷ rest))) ≡ read (k (c d₁ d₂)) rest
unfolding computing
said_two c d₁ d₂ k rest single =
    said_part d₁ (λ d₁. sign comma_sign (about_part (λ d₂. sign close_round (k (c d₁ d₂))))) (plain comma_sign ∷ say_part d₂ (plain close_round ∷ rest))
    (and_left (none_twice d₁.names) (none_twice d₂.names) single)
    ∙ said_part d₂ (λ d₂. sign close_round (k (c d₁ d₂))) (plain close_round ∷ rest) (and_right (none_twice d₁.names) (none_twice d₂.names) single)

said_three : (c : TypedPart → TypedPart → TypedPart → TypedClause) (d₁ d₂ d₃ : TypedPart) (k : TypedClause → State) (rest : List Token)
    → none_twice d₁.names && (none_twice d₂.names && none_twice d₃.names) ≡ true
    → read (three_parts c k)
    (plain open_round ∷ say_part d₁ (plain comma_sign ∷ say_part d₂ (plain comma_sign ∷ say_part d₃ (plain close_round ∷ rest))))
    ≡ read (k (c d₁ d₂ d₃)) rest
unfolding computing
said_three c d₁ d₂ d₃ k rest single =
    let others = and_right (none_twice d₁.names) (none_twice d₂.names && none_twice d₃.names) single in
    said_part d₁ (λ d₁. sign comma_sign (about_part (λ d₂. sign comma_sign (about_part (λ d₃. sign close_round (k (c d₁ d₂ d₃)))))))
    (plain comma_sign ∷ say_part d₂ (plain comma_sign ∷ say_part d₃ (plain close_round ∷ rest)))
    (and_left (none_twice d₁.names) (none_twice d₂.names && none_twice d₃.names) single)
    ∙ said_part d₂ (λ d₂. sign comma_sign (about_part (λ d₃. sign close_round (k (c d₁ d₂ d₃)))))
    (plain comma_sign ∷ say_part d₃ (plain close_round ∷ rest))
    (and_left (none_twice d₂.names) (none_twice d₃.names) others)
    ∙ said_part d₃ (λ d₃. sign close_round (k (c d₁ d₂ d₃))) (plain close_round ∷ rest)
    (and_right (none_twice d₂.names) (none_twice d₃.names) others)

pub said_clause : (c : TypedClause) (k : TypedClause → State) (rest : List Token) → clause_single c ≡ true
    → read (a_clause k) (say_clause c rest) ≡ read (k c) rest
unfolding computing say_clause clause_single
said_clause (pref_c d) k rest single = said_one pref_c d k rest single
said_clause (anti_c d) k rest single = said_one anti_c d k rest single
said_clause (init_c d₁ d₂) k rest single = said_two init_c d₁ d₂ k rest single
said_clause (implies_c d₁ d₂) k rest single = said_two implies_c d₁ d₂ k rest single
said_clause (follows_c d₁ d₂ d₃) k rest single = said_three follows_c d₁ d₂ d₃ k rest single
said_clause (triggers_c d₁ d₂ d₃) k rest single = said_three triggers_c d₁ d₂ d₃ k rest single

-- a clause and the end of its line, after `before`
said_line : (l : TypedClause → Line) (c : TypedClause) (s m : ℕ) (before : List Line) (rest : List Token) → clause_single c ≡ true
    → read (a_line l s m before) (say_clause c (plain line_end ∷ rest)) ≡ read (at_line s m (before ++ l c ∷ [])) rest
unfolding computing
said_line l c s m before rest single = said_clause c (λ c. sign line_end (at_line s m (before ++ l c ∷ []))) (plain line_end ∷ rest) single

pub said_lines : (s m : ℕ) (before ls : List Line) → lines_single ls ≡ true → read (at_line s m before) (say_lines ls) ≡ at_line s m (before ++ ls)
unfolding computing say_lines say_line lines_single
said_lines s m before [] single = ap (at_line s m) (sym (append-nil before))
said_lines s m before (assume_l c ∷ ls) single =
    said_line assume_l c s m before (say_lines ls) (and_left (clause_single c) (lines_single ls) single)
    ∙ said_lines s m (before ++ assume_l c ∷ []) ls (and_right (clause_single c) (lines_single ls) single)
    ∙ ap (at_line s m) (append_assoc before (assume_l c ∷ []) ls)
said_lines s m before (require_l c ∷ ls) single =
    said_line require_l c s m before (say_lines ls) (and_left (clause_single c) (lines_single ls) single)
    ∙ said_lines s m (before ++ require_l c ∷ []) ls (and_right (clause_single c) (lines_single ls) single)
    ∙ ap (at_line s m) (append_assoc before (require_l c ∷ []) ls)

pub said_sheet : (t : TypedSheet) → lines_single t.lines ≡ true → answer (read start (say_sheet t)) ≡ some t
unfolding computing say_sheet
said_sheet t single = ap answer (said_lines t.signals t.names [] t.lines single)
