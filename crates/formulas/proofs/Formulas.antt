-- Formulas: a piece by the word or sign that it begins with, pieces joined, and a whole formula.
use Rattle.std.proofs.Common.{ℕ, zero, suc, ◌+◌, ◌-◌, ◌≤◌, ◌<◌, arith, Bool, true, ◌&&◌, true≢false, List, [], ◌∷◌, ◌⊎◌, inl, inr, ◌≡◌, refl, sym, ap, subst, ◌∙◌, leb, eqb, leb-true, ne_eqb, eqb-true, Option}
use mathlib.Core.Option.{none}
use borrow.Author.Tests.{eqb-false}
use Rattle.semantics.proofs.Tests.{test, and_left, and_right}
use Rattle.grammar.specs.Token.{Token, plain, signalled, named, number, outside, open_round, close_round, star_sign}
use Rattle.grammar.specs.Tree.{OrF, one_f, or_f, chain_f, and_f, unit_f, chop_f, UnitF, pointF, stretchF, wholeF, braceF, slen_f, scountF, sdurF, draw_f, at_f, gap_f, bracketF, starF}
use Rattle.grammar.specs.Reader.{no_or_f, after_or_f, no_and_f, after_and_f, HoleF, no_chop_f, after_chop_f, State, failed, sign, about_or_f, has_or_f, has_unit_f, starred, if_plain, step, if_room, room_after, run, answer}
use Rattle.grammar.proofs.Said.{computing}
use Rattle.grammar.proofs.Room.{failed_none, stuck_none}
use Rattle.grammar.proofs.Next.{or_f_lem, and_f_lem, chop_f_lem, star_f}
use Rattle.lexer.specs.declared.Lexed.{Lexed}
use Rattle.lexer.specs.declared.Token.{Token as Told}
use Rattle.lexer.specs.declared.Token.TheVariants.{Plain, Signal, Name, Number, Outside as NoToken, End}
use Rattle.lexer.specs.Lexed.{meant, is_end, Next}
use Rattle.typed.specs.Draft.{Draft, last, node, put_over, put_or_f, put_and_f, put_chop_f, put_unit_f}
use Rattle.propositions.specs.declared.nodes.Nodes.{Nodes}
use Rattle.propositions.specs.Lexemes.{Opens}
use Rattle.propositions.specs.Nodes.{so_far, NodePut}
use Rattle.propositions.specs.Reads.{ahead, Comes, Stuck, Took, Outside, Reads, Ended, Then, next, after, before_f}
use Rattle.formulas.specs.Pieces.{about_bounded, put_bounded, about_slen, put_slen, about_counted, put_counted, about_draw, put_draw, about_at, put_at, about_gap, put_gap, Place, about_level, has_level, put_level, Taken, about_piece, about_bracket_f, ReadsLevel, ReadsPiece}
use Rattle.propositions.proofs.Chains.{Chain}
use Rattle.propositions.proofs.Leaves.{comes, stuck_at}
use Rattle.propositions.proofs.Steps.{sign_run}
use Rattle.propositions.proofs.Went.{Went, went_at, went_leaf, went_took, none_at, none_from, ended_from, ended_put, either, bracket_inner_none, bracket_close_none, bracket_took}

-- a star after a piece
star_next : (h : HoleF) (u : UnitF) (k : OrF → State) → step (has_unit_f h k u) (plain star_sign) ≡ starred u (has_unit_f h k)
unfolding computing
star_next (no_chop_f (no_and_f no_or_f)) u k = refl
star_next (no_chop_f (no_and_f (after_or_f g))) u k = refl
star_next (no_chop_f (after_and_f no_or_f g)) u k = refl
star_next (no_chop_f (after_and_f (after_or_f e) g)) u k = refl
star_next (after_chop_f (no_and_f no_or_f) c) u k = refl
star_next (after_chop_f (no_and_f (after_or_f g)) c) u k = refl
star_next (after_chop_f (after_and_f no_or_f g) c) u k = refl
star_next (after_chop_f (after_and_f (after_or_f e) g) c) u k = refl

pub star_none : (w : Place 0) (u : UnitF) (room n : ℕ) (ts : List Token) → ((k : UnitF → State) → starred u k ≡ failed) → Taken 0 n
    → answer (run room (has_level 0 w u) (plain n ∷ ts)) ≡ none
star_none w u room n ts bare taken = elim taken [
  | inl e ↦ rw e (stuck_none room (has_unit_f w.0 w.1 u) (plain star_sign) ts (star_next w.0 u w.1 ∙ bare (has_unit_f w.0 w.1)))
  | inr h ↦ absurd (let low = h.0 in let high = h.1 in omega arith)
]

-- a piece as it was read by the word or sign that it begins with
module _ (room : ℕ) (text : List ℕ) (at : ℕ) (x y : Nodes) (r : Option ℕ) where
  -- it is the unit u of what was read
  closes_piece : {T : Type 0} (word : ℕ) (about : (T → State) → State) (put : T → Draft → Draft) (u : T → UnitF)
      → ((w : Place 0) → about_piece word w ≡ about (λ t. has_unit_f w.0 w.1 (u t))) → ((t : T) (d : Draft) → put t d ≡ put_unit_f (u t) d)
      → ((t : T) (k : UnitF → State) → starred (u t) k ≡ failed) → Reads about next put room text at x y r
      → ReadsPiece (about_piece word) room text at x y r
  closes_piece word about put u same puts bare =
      either r
      (λ out.
      record { fails = λ w. ap (λ s. answer (run room s (ahead text at))) (same w) ∙ out.fails (λ t. has_unit_f w.0 w.1 (u t)) })
      (λ got t.
      record {
        took =
            record {
              tree = u t.tree;
              goes = λ w. ap (λ s. answer (run room s (ahead text at))) (same w) ∙ t.goes (λ t. has_unit_f w.0 w.1 (u t));
              drafted = t.drafted ∙ puts t.tree (so_far x);
              onward = t.onward;
              within = t.within;
              more = t.more;
              taken = t.taken;
            };
        stops = λ w n ts taken there. star_none w (u t.tree) room n ts (bare t.tree) taken;
      })

  pub point_closes : {word : ℕ} → word ≡ 17 → Reads (about_bounded 21) next (put_bounded 16) room text at x y r
      → ReadsPiece (about_piece word) room text at x y r
  unfolding computing put_unit_f
  point_closes {word = word} e = closes_piece word (about_bounded 21) (put_bounded 16) pointF (λ w. rw e) (λ t d. refl) (λ t k. refl)

  pub stretch_closes : {word : ℕ} → word ≡ 24 → Reads (about_bounded 25) next (put_bounded 17) room text at x y r
      → ReadsPiece (about_piece word) room text at x y r
  unfolding computing put_unit_f
  stretch_closes {word = word} e = closes_piece word (about_bounded 25) (put_bounded 17) stretchF (λ w. rw e) (λ t d. refl) (λ t k. refl)

  pub whole_closes : {word : ℕ} → word ≡ 26 → Reads (about_bounded 27) next (put_bounded 18) room text at x y r
      → ReadsPiece (about_piece word) room text at x y r
  unfolding computing put_unit_f
  whole_closes {word = word} e = closes_piece word (about_bounded 27) (put_bounded 18) wholeF (λ w. rw e) (λ t d. refl) (λ t k. refl)

  pub brace_closes : {word : ℕ} → word ≡ 28 → Reads (about_bounded 29) next (put_bounded 19) room text at x y r
      → ReadsPiece (about_piece word) room text at x y r
  unfolding computing put_unit_f
  brace_closes {word = word} e = closes_piece word (about_bounded 29) (put_bounded 19) braceF (λ w. rw e) (λ t d. refl) (λ t k. refl)

  pub scount_closes : {word : ℕ} → word ≡ 12 → Reads about_counted next (put_counted 25) room text at x y r
      → ReadsPiece (about_piece word) room text at x y r
  unfolding computing put_unit_f
  scount_closes {word = word} e =
      closes_piece word about_counted (put_counted 25) (λ t. scountF t.0 t.1 t.2) (λ w. rw e) (λ t d. refl) (λ t k. refl)

  pub sdur_closes : {word : ℕ} → word ≡ 13 → Reads about_counted next (put_counted 26) room text at x y r
      → ReadsPiece (about_piece word) room text at x y r
  unfolding computing put_unit_f
  sdur_closes {word = word} e =
      closes_piece word about_counted (put_counted 26) (λ t. sdurF t.0 t.1 t.2) (λ w. rw e) (λ t d. refl) (λ t k. refl)

  pub slen_closes : {word : ℕ} → word ≡ 11 → Reads about_slen next put_slen room text at x y r
      → ReadsPiece (about_piece word) room text at x y r
  unfolding computing
  slen_closes {word = word} e = closes_piece word about_slen put_slen (λ t. slen_f t.0 t.1) (λ w. rw e) (λ t d. refl) (λ t k. refl)

  pub draw_closes : {word : ℕ} → word ≡ 14 → Reads about_draw next put_draw room text at x y r
      → ReadsPiece (about_piece word) room text at x y r
  unfolding computing
  draw_closes {word = word} e = closes_piece word about_draw put_draw (λ t. draw_f t.0 t.1) (λ w. rw e) (λ t d. refl) (λ t k. refl)

  pub at_closes : {word : ℕ} → word ≡ 15 → Reads about_at next put_at room text at x y r
      → ReadsPiece (about_piece word) room text at x y r
  unfolding computing
  at_closes {word = word} e = closes_piece word about_at put_at at_f (λ w. rw e) (λ t d. refl) (λ t k. refl)

  pub gap_closes : {word : ℕ} → word ≡ 16 → Reads about_gap next put_gap room text at x y r
      → ReadsPiece (about_piece word) room text at x y r
  unfolding computing
  gap_closes {word = word} e = closes_piece word about_gap put_gap (λ t. gap_f t.0 t.1 t.2 t.3) (λ w. rw e) (λ t d. refl) (λ t k. refl)

-- no piece begins with this word or sign
pub other_none : {room : ℕ} {text : List ℕ} {at word : ℕ} → (word ≡ 17 → ⊥) → (word ≡ 24 → ⊥) → (word ≡ 26 → ⊥) → (word ≡ 28 → ⊥)
    → (word ≡ 11 → ⊥) → (word ≡ 12 → ⊥) → (word ≡ 13 → ⊥) → (word ≡ 14 → ⊥) → (word ≡ 15 → ⊥) → (word ≡ 16 → ⊥) → (word ≡ 22 → ⊥)
    → Outside (about_piece word) room text at
unfolding computing
other_none {room} {text} {at} {word} h₁ h₂ h₃ h₄ h₅ h₆ h₇ h₈ h₉ h₁₀ h₁₁ =
    record {
      fails = λ w.
          rw (ne_eqb word 17 h₁, ne_eqb word 24 h₂, ne_eqb word 26 h₃, ne_eqb word 28 h₄, ne_eqb word 11 h₅, ne_eqb word 12 h₆)
          (rw (ne_eqb word 13 h₇, ne_eqb word 14 h₈, ne_eqb word 15 h₉, ne_eqb word 16 h₁₀, ne_eqb word 22 h₁₁) (failed_none room (ahead text at)));
    }

-- ---- pieces joined
one : (l n : ℕ) → Taken (suc l) n → (n ≡ 32 - l) ⊎ Taken l n
one l n (inl e) = inr (inl e)
one l n (inr h) = elim (test (eqb n (32 - l))) [
  | inl e ↦ inl (eqb-true n (32 - l) e)
  | inr e ↦ inr (inr (let low = h.0 in let high = h.1 in let other = eqb-false n (32 - l) e in (omega arith, omega arith)))
]

-- each level joins what the level below it reads
pub level_chain : (l : ℕ) → (l ≡ 0 → ⊥) → l ≤ 3
    → Chain (20 + (l - 1)) (32 - (l - 1)) (about_level l) (has_level l) (put_level l) (Taken l)
    (about_level (l - 1)) (has_level (l - 1)) (put_level (l - 1)) (Taken (l - 1))
unfolding computing put_chop_f put_and_f put_or_f
level_chain zero some h = absurd (some refl)
level_chain (suc zero) some h =
    record {
      op_fits = omega arith;
      taken = λ n t. one 0 n t;
      passes = λ room s ts. refl;
      first = λ w. (no_chop_f w.0, w.1);
      single = unit_f;
      first_about = λ w. refl;
      first_has = λ w u. refl;
      first_puts = λ u d. refl;
      next = λ w c. (after_chop_f w.0 c, w.1);
      joined = chop_f;
      next_about = λ room w c ts. chop_f_lem room w.0 w.1 c ts;
      next_has = λ w c u. refl;
      next_puts = λ c u d. refl;
    }
level_chain (suc (suc zero)) some h =
    record {
      op_fits = omega arith;
      taken = λ n t. one 1 n t;
      passes = λ room s ts. refl;
      first = λ w. (no_and_f w.0, w.1);
      single = chain_f;
      first_about = λ w. refl;
      first_has = λ w u. refl;
      first_puts = λ u d. refl;
      next = λ w g. (after_and_f w.0 g, w.1);
      joined = and_f;
      next_about = λ room w g ts. and_f_lem room w.0 w.1 g ts;
      next_has = λ w g u. refl;
      next_puts = λ g u d. refl;
    }
level_chain (suc (suc (suc zero))) some h =
    record {
      op_fits = omega arith;
      taken = λ n t. one 2 n t;
      passes = λ room s ts. refl;
      first = λ w. (no_or_f, w.1);
      single = one_f;
      first_about = λ w. refl;
      first_has = λ w u. refl;
      first_puts = λ u d. refl;
      next = λ w f. (after_or_f f, w.1);
      joined = or_f;
      next_about = λ room w f ts. or_f_lem room w.1 f ts;
      next_has = λ w f u. refl;
      next_puts = λ f u d. refl;
    }
level_chain (suc (suc (suc (suc l)))) some h = absurd (omega arith)

pub level_zero : (room : ℕ) (text : List ℕ) (at : ℕ) (x y : Nodes) (r : Option ℕ) (l : ℕ) → l ≡ 0
    → ReadsLevel 0 room text at x y r → ReadsLevel l room text at x y r
level_zero room text at x y r l e closes = subst (λ l. ReadsLevel l room text at x y r) (sym e) closes

-- ---- a whole formula
abbrev is_joiner : ℕ → Bool
is_joiner n = leb 30 n && leb n 32

takes : (n : ℕ) → Taken 3 n ⊎ ((n ≡ 30 → ⊥) × (n ≡ 31 → ⊥) × (n ≡ 32 → ⊥) × (n ≡ 34 → ⊥))
takes n = elim (test (is_joiner n)) [
  | inl e ↦
      let low = leb-true 30 n (and_left (leb 30 n) (leb n 32) e) in
      let high = leb-true n 32 (and_right (leb 30 n) (leb n 32) e) in
      inl (inr (omega arith, omega arith))
  | inr e ↦
      let isnt : (j : ℕ) → is_joiner j ≡ true → n ≡ j → ⊥ = λ j h same. true≢false (sym (ap is_joiner same ∙ h) ∙ e) in
      elim (test (eqb n 34)) [
        | inl star ↦ inl (inl (eqb-true n 34 star))
        | inr bare ↦ inr (isnt 30 refl, isnt 31 refl, isnt 32 refl, eqb-false n 34 bare)
      ]
]

apart : (n wanted : ℕ) → Taken 3 n → (wanted < 30) ⊎ (34 < wanted) → n ≡ wanted → ⊥
apart n wanted (inl e) (inl h) same = omega arith
apart n wanted (inl e) (inr h) same = omega arith
apart n wanted (inr t) (inl h) same = let low = t.0 in let high = t.1 in omega arith
apart n wanted (inr t) (inr h) same = let low = t.0 in let high = t.1 in omega arith

-- after it the sign that must come, where none of the signs that it takes can
follow : (f : OrF) (k : Then OrF) (room : ℕ) (ts : List Token)
    → ((n : ℕ) (rest : List Token) → Taken 3 n → ts ≡ plain n ∷ rest → answer (run room (has_or_f (after k) f) (plain n ∷ rest)) ≡ none)
    → answer (run room (has_or_f (after k) f) ts) ≡ answer (run room (after k f) ts)
unfolding computing
follow f k room [] stops = refl
follow f k room (plain n ∷ ts) stops = elim (takes n) [
  | inl taken ↦
      stops n ts taken refl
      ∙ sym (stuck_none room (after k f) (plain n) ts (rw (ne_eqb n k.wanted (apart n k.wanted taken k.closing))))
  | inr others ↦
      ap (λ s. answer (run (room_after room (plain n)) (if_plain (plain n) open_round (if_room room s) s) ts))
      (rw (ne_eqb n 30 others.0, ne_eqb n 31 others.1, ne_eqb n 32 others.2, ne_eqb n 34 others.3))
]
follow f k room (signalled i ∷ ts) stops = refl
follow f k room (named u ∷ ts) stops = refl
follow f k room (number n ∷ ts) stops = refl
follow f k room (outside ∷ ts) stops = refl

pub formula_reads : (room : ℕ) (text : List ℕ) (at : ℕ) (x y : Nodes) (r : Option ℕ)
    → ReadsLevel 3 room text at x y r → Reads before_f after put_or_f room text at x y r
formula_reads room text at x y r =
    either r (λ out. record { fails = λ k. out.fails (tt, after k) })
    (λ got ended.
    let t = ended.took in
    record {
      tree = t.tree;
      goes = λ k.
          t.goes (tt, after k)
          ∙ follow t.tree k room (ahead text got) (λ n ts taken there. ended.stops (tt, after k) n ts taken there);
      drafted = t.drafted;
      onward = t.onward;
      within = t.within;
      more = t.more;
      taken = t.taken;
    })

-- ---- a single piece, by its first token
-- a piece after its first word or sign
enter : (w : Place 0) (word room : ℕ) (ts : List Token) → (word ≡ 22 → ⊥)
    → answer (run room (about_level 0 w) (plain word ∷ ts)) ≡ answer (run room (about_piece word w) ts)
unfolding computing
enter w word room ts h = elim (test (eqb word 23)) [
  | inl e ↦ rw (eqb-true word 23 e) (failed_none (suc room) ts ∙ sym (failed_none room ts))
  | inr e ↦ rw (ne_eqb word 22 h, e)
]

bracket_first : (w : Place 0) (room : ℕ) (ts : List Token)
    → run room (about_level 0 w) (plain open_round ∷ ts) ≡ run room (about_bracket_f w) (plain open_round ∷ ts)
unfolding computing
bracket_first w room ts = refl

no_word : (w : Place 0) (t : Told) → ((n : ℕ) → t ≡ Plain n → ⊥) → step (about_level 0 w) (meant t) ≡ failed
unfolding computing meant
no_word w (Plain n) other = absurd (other n refl)
no_word w (Signal i) other = refl
no_word w (Name u) other = refl
no_word w (Number n) other = refl
no_word w NoToken other = refl
no_word w End other = refl

unended : (w : Place 0) → answer (about_level 0 w) ≡ none
unfolding computing
unended w = refl

-- by its first token
module _ {text : List ℕ} {at : ℕ} {first : Lexed} (lexed : Next text at first) where
  pub term_none : {room : ℕ} → ((n : ℕ) → first.token ≡ Plain n → ⊥) → Outside (about_level 0) room text at
  term_none {room} other =
      let never = stuck_at lexed (about_level 0) (λ _ w. unended w) (λ w. no_word w first.token other) in
      record { fails = λ w. never.fails room w }

  module _ (room : ℕ) (x y : Nodes) (r : Option ℕ) where
    pub term_piece : (word : ℕ) → first.token ≡ Plain word → (word ≡ 22 → ⊥) → ReadsPiece (about_piece word) room text first.at x y r
        → ReadsLevel 0 room text at x y r
    unfolding meant is_end
    term_piece word e h =
        let there = comes lexed (Plain word) e refl in
        let on = there.onward in
        let goes : (w : Place 0)
        → answer (run room (about_level 0 w) (ahead text at)) ≡ answer (run room (about_piece word w) (ahead text first.at)) =
        λ w. ap (λ ts. answer (run room (about_level 0 w) ts)) there.next ∙ enter w word room (ahead text first.at) h in
        either r (none_from goes) (λ got. ended_from (omega arith) goes)

    pub term_bracket : first.token ≡ Plain open_round → ReadsPiece about_bracket_f room text at x y r
        → ReadsLevel 0 room text at x y r
    unfolding meant is_end
    term_bracket e =
        let there = (comes lexed (Plain open_round) e refl).next in
        let goes : (w : Place 0)
        → answer (run room (about_level 0 w) (ahead text at)) ≡ answer (run room (about_bracket_f w) (ahead text at)) =
        λ w.
        ap (λ ts. answer (run room (about_level 0 w) ts)) there ∙ ap answer (bracket_first w room (ahead text first.at))
        ∙ ap (λ ts. answer (run room (about_bracket_f w) ts)) (sym there) in
        either r (none_from goes) (λ got. ended_from (omega arith) goes)

-- ---- a formula in brackets
within_bracket : Place 0 → OrF → State
within_bracket w f = has_level 0 w (bracketF f)

module _ {text : List ℕ} {at depth : ℕ} where
  module _ {opening : ℕ} (opens : Opens text at depth opening) where
    pub bracket_empty : Outside before_f (depth - 1) text opening → Outside about_bracket_f depth text at
    unfolding within_bracket
    bracket_empty out = none_at within_bracket (bracket_inner_none about_or_f opens out)

    module _ {x z : Nodes} {inner : ℕ} (t : Took before_f after put_or_f (depth - 1) text opening x z inner) where
      pub bracket_unclosed : Stuck (sign close_round) text inner → Outside about_bracket_f depth text at
      unfolding within_bracket
      bracket_unclosed never = none_at within_bracket (bracket_close_none about_or_f opens t never)

      module _ {close : ℕ} (leaf : Comes (plain close_round) text inner close) where
        -- up to the closing bracket
        inside : Took (λ (k : OrF → State). sign open_round (about_or_f (λ f. sign close_round (k f)))) next put_or_f depth text at x z close
        inside = bracket_took about_or_f opens t leaf

        bracketed : Went about_bracket_f depth text at depth close (λ w. has_level 0 w (bracketF inside.tree))
        unfolding within_bracket
        bracketed = went_at within_bracket (went_took inside)

        -- no star follows
        pub bracket_bare : Stuck (sign star_sign) text close
            → Ended about_bracket_f (has_level 0) put_unit_f (Taken 0) depth text at x z close
        unfolding put_unit_f
        bracket_bare bare =
            record {
              took =
                  record {
                    tree = bracketF inside.tree;
                    goes = bracketed.goes;
                    drafted = inside.drafted;
                    onward = inside.onward;
                    within = inside.within;
                    more = inside.more;
                    taken = inside.taken;
                  };
              stops = λ w n ts taken there. elim taken [
                | inl is ↦
                    let f = inside.tree in
                    let s = has_level 0 w (starF f) in
                    ap (λ n. answer (run depth (has_level 0 w (bracketF f)) (plain n ∷ ts))) is ∙ ap answer (star_f depth w.0 w.1 f ts)
                    ∙ ap answer (sym (sign_run star_sign depth s ts (λ e. omega arith) (λ e. omega arith)))
                    ∙ ap (λ ts. answer (run depth (sign star_sign s) ts)) (sym (there ∙ ap (λ n. plain n ∷ ts) is)) ∙ bare.fails depth s
                | inr h ↦ absurd (let low = h.0 in let high = h.1 in omega arith)
              ];
            }

        pub bracket_star : {star : ℕ} {y : Nodes} → Comes (plain star_sign) text close star
            → NodePut (node 23 0 (z.count - 1) 0) z y
            → Ended about_bracket_f (has_level 0) put_unit_f (Taken 0) depth text at x y star
        unfolding computing put_unit_f put_over last
        bracket_star starry p =
            let more = inside.more in
            let taken = inside.taken in
            let onward = inside.onward in
            let h = starry.onward in
            ended_put (starF inside.tree)
            (went_leaf depth (λ w. has_level 0 w (starF inside.tree)) bracketed starry (λ w ts. star_f depth w.0 w.1 inside.tree ts))
            p (ap (put_over 23 0 0) inside.drafted) (omega arith) (omega arith) (omega arith)
            (λ w n ts taken there. star_none w (starF inside.tree) depth n ts (λ k. refl) taken)
