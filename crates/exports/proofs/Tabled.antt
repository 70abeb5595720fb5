-- The table's rows in the lent ones, and its refusals where these are too few.
use Rattle.std.proofs.Common.{ℕ, zero, suc, ◌+◌, ◌*◌, ◌≤◌, ◌<◌, Bool, true, false, cond, ◌&&◌, List, [], ◌∷◌, ◌++◌, ◌≡◌, refl, sym, ◌∙◌, ap, ap₂, subst, arith, not-suc-le-zero, le_of_suc-le-suc, add-one, ne_eqb, le-leb, eqb, leb, length, get_or, set, take, drop, replicate, take_all, Result, Ok, Err, is_err}
use borrow.Author.Tests.{eqb-false, lt-leb}
use lib.ListN.{length-replicate}
use Rattle.stored.specs.Layout.{least_words}
use Rattle.stored.specs.Bytes.{lowest}
use Rattle.stored.specs.Sheet.{header_of, sheet_refusal}
use Rattle.traces.specs.Trace.{trace_refusal}
use Rattle.stored.specs.Tree.{pick}
use Rattle.stored.proofs.Rules.{length_in_order}
use Rattle.stored.specs.declared.refusal.Refusal.{Refusal}
use Rattle.stored.specs.Refusal.{number_of, answered, answer_number}
use Rattle.stored.proofs.Refusals.{number_some, of_refusal, number_answered}
use Rattle.checker.proofs.Whole.{refused_zero}
use Rattle.checker.specs.Table.{or_else, words_refusal, table_refusal, table_answer, table_words, words_after}
use Rattle.checker.proofs.Bounds.{table_small}
use Rattle.exports.specs.Packed.{packed_table, lent_refusal, rows_refusal, rows_of, rows_after}

picked_put : (b : Bool) (table rows : List ℕ) → pick b (pick b table (replicate 64 0) ++ drop 64 rows) rows ≡ pick b (table ++ drop 64 rows) rows
unfolding pick
picked_put true table rows = refl
picked_put false table rows = refl

or_some : (a b : ℕ) → (b ≡ 0 → ⊥) → or_else a b ≡ 0 → ⊥
unfolding or_else
or_some a b h e = go (eqb a 0) refl e
  where
    go : (t : Bool) → eqb a 0 ≡ t → cond t b a ≡ 0 → ⊥
    go true s e = h e
    go false s e = eqb-false a 0 s e

-- ---- the table's answer
module _ (s t : List ℕ) (node p0 p1 p2 : ℕ) (words : List ℕ) where
  answer_is : answer_number (table_answer s t node p0 p1 p2 words) ≡ table_refusal s t node p0 p1 p2 words
  unfolding table_answer
  answer_is = number_answered (table_refusal s t node p0 p1 p2 words) _ (table_small s t node p0 p1 p2 words)

  -- its words are zero only where they are not put
  answer_put : (rows : List ℕ) → rows_after (answer_number (table_answer s t node p0 p1 p2 words)) (table_words (table_answer s t node p0 p1 p2 words)) rows
      ≡ rows_after (table_refusal s t node p0 p1 p2 words) (rows_of s t node p0 p1 p2) rows
  unfolding rows_of rows_after
  answer_put rows =
      ap₂ (λ (n : ℕ) (table : List ℕ). pick (eqb n 0) (table ++ drop 64 rows) rows) answer_is (refused_zero s t node p0 p1 p2 words)
      ∙ picked_put (eqb (table_refusal s t node p0 p1 p2 words) 0) (rows_of s t node p0 p1 p2) rows

-- the table in one word is refused
module _ (s t : List ℕ) where
  abbrev short_number : ℕ
  short_number = or_else (sheet_refusal s) (or_else (trace_refusal (header_of s).signals t) 15)

  one_word : table_refusal s t 0 0 0 0 (0 ∷ []) ≡ short_number
  unfolding table_refusal words_refusal lowest or_else
  one_word = refl

  short_some : short_number ≡ 0 → ⊥
  short_some = or_some _ _ (or_some _ 15 (λ z. omega arith))

  pub short_refused : is_err (table_answer s t 0 0 0 0 (0 ∷ [])) ≡ true
  unfolding table_answer answered pick
  short_refused = rw (one_word, ne_eqb short_number 0 short_some)

  pub short_number_lem : (e : Refusal) → table_answer s t 0 0 0 0 (0 ∷ []) ≡ Err e → number_of e ≡ short_number
  unfolding table_answer
  short_number_lem e is = of_refusal (table_refusal s t 0 0 0 0 (0 ∷ [])) _ e (table_small s t 0 0 0 0 (0 ∷ [])) is ∙ one_word

-- ---- a refusal, and none
put_none : (number : ℕ) (table rows : List ℕ) → (number ≡ 0 → ⊥) → (number * 256 ≡ packed_table number) × (rows ≡ rows_after number table rows)
unfolding packed_table rows_after pick
put_none number table rows h = (rw (ne_eqb number 0 h), rw (ne_eqb number 0 h))

pub put_refused : (answer : Result (List ℕ) Refusal) (e : Refusal) (rows : List ℕ) → answer ≡ Err e
    → (number_of e * 256 ≡ packed_table (answer_number answer)) × (rows ≡ rows_after (answer_number answer) (table_words answer) rows)
unfolding answer_number
put_refused answer e rows is = rw is (put_none (number_of e) _ rows (λ z. let some = number_some e in omega arith))

pub put_table : (answer : Result (List ℕ) Refusal) (table rows : List ℕ) → answer ≡ Ok table
    → (4 ≡ packed_table (answer_number answer)) × (table ++ drop 64 rows ≡ rows_after (answer_number answer) (table_words answer) rows)
unfolding packed_table rows_after answer_number table_words pick
put_table answer table rows is = (rw is, rw is)

words_kept : (number : ℕ) (words : List ℕ) → (number ≡ 0 → ⊥) → words ≡ words_after number words
unfolding words_after pick
words_kept number words h = rw (ne_eqb number 0 h)

-- ---- too few rows
lent_short : (words rows : List ℕ) → length rows < 64 → lent_refusal words rows ≡ 15
unfolding lent_refusal lowest
lent_short words rows h =
    ap (λ (b : Bool). lowest 15 ((leb least_words (length words) && b) ∷ [])) (lt-leb 64 (length rows) h) ∙ go (leb least_words (length words))
  where
    go : (b : Bool) → lowest 15 ((b && false) ∷ []) ≡ 15
    go true = refl
    go false = refl

lent_long : (words rows : List ℕ) → 64 ≤ length rows → lent_refusal words rows ≡ words_refusal words
unfolding lent_refusal words_refusal lowest
lent_long words rows h =
    ap (λ (b : Bool). lowest 15 ((leb least_words (length words) && b) ∷ [])) (le-leb 64 (length rows) h) ∙ go (leb least_words (length words))
  where
    go : (b : Bool) → lowest 15 ((b && true) ∷ []) ≡ lowest 15 (b ∷ [])
    go true = refl
    go false = refl

refusal_short : (s t : List ℕ) (node p0 p1 p2 : ℕ) (words rows : List ℕ) → length rows < 64
    → rows_refusal s t node p0 p1 p2 words rows ≡ or_else (sheet_refusal s) (or_else (trace_refusal (header_of s).signals t) 15)
unfolding rows_refusal or_else
refusal_short s t node p0 p1 p2 words rows h = rw (lent_short words rows h)

refusal_long : (s t : List ℕ) (node p0 p1 p2 : ℕ) (words rows : List ℕ) → 64 ≤ length rows
    → rows_refusal s t node p0 p1 p2 words rows ≡ table_refusal s t node p0 p1 p2 words
unfolding rows_refusal table_refusal
refusal_long s t node p0 p1 p2 words rows h = rw (lent_long words rows h)

pub short_law : (s t : List ℕ) (node p0 p1 p2 : ℕ) (words rows : List ℕ) (r : ℕ) → length rows < 64
    → r ≡ or_else (sheet_refusal s) (or_else (trace_refusal (header_of s).signals t) 15) * 256
    → (r ≡ packed_table (rows_refusal s t node p0 p1 p2 words rows))
    × ((words ≡ words_after (rows_refusal s t node p0 p1 p2 words rows) words) × (rows ≡ rows_after (rows_refusal s t node p0 p1 p2 words rows) (rows_of s t node p0 p1 p2) rows))
short_law s t node p0 p1 p2 words rows r h e =
    let number = or_else (sheet_refusal s) (or_else (trace_refusal (header_of s).signals t) 15) in
    let some : number ≡ 0 → ⊥ = or_some _ _ (or_some _ 15 (λ z. omega arith)) in
    let table = rows_of s t node p0 p1 p2 in
    let kept = put_none number table rows some in
    subst
    (λ (n : ℕ). (r ≡ packed_table n) × ((words ≡ words_after n words) × (rows ≡ rows_after n table rows)))
    (sym (refusal_short s t node p0 p1 p2 words rows h))
    (e ∙ kept.0, (words_kept number words some, kept.1))

pub long_law : (s t : List ℕ) (node p0 p1 p2 : ℕ) (words rows after put : List ℕ) (a : Result (List ℕ) Refusal) (r : ℕ) → 64 ≤ length rows
    → a ≡ table_answer s t node p0 p1 p2 words → after ≡ words_after (table_refusal s t node p0 p1 p2 words) words
    → r ≡ packed_table (answer_number a) → put ≡ rows_after (answer_number a) (table_words a) rows
    → (r ≡ packed_table (rows_refusal s t node p0 p1 p2 words rows))
    × ((after ≡ words_after (rows_refusal s t node p0 p1 p2 words rows) words) × (put ≡ rows_after (rows_refusal s t node p0 p1 p2 words rows) (rows_of s t node p0 p1 p2) rows))
long_law s t node p0 p1 p2 words rows after put a r h e f g p =
    let table = rows_of s t node p0 p1 p2 in
    subst
    (λ (n : ℕ). (r ≡ packed_table n) × ((after ≡ words_after n words) × (put ≡ rows_after n table rows)))
    (sym (refusal_long s t node p0 p1 p2 words rows h)) (
      g ∙ ap (λ (x : Result (List ℕ) Refusal). packed_table (answer_number x)) e ∙ ap packed_table (answer_is s t node p0 p1 p2 words),
      (f, p ∙ ap (λ (x : Result (List ℕ) Refusal). rows_after (answer_number x) (table_words x) rows) e ∙ answer_put s t node p0 p1 p2 words rows),
    )
