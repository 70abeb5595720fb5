-- The order of the refusals of check and table.
use Rattle.std.proofs.Common.{ℕ, zero, suc, ◌≤◌, ◌<◌, Bool, true, false, not, cond, ◌||◌, List, [], ◌∷◌, ◌≡◌, sym, ◌∙◌, ap, arith, eq-eqb, ltb-true, le-leb, ltb, eqb, length, replicate, Result, Ok, Err}
use borrow.Author.Tests.{lt-leb}
use Rattle.stored.specs.Layout.{least_words}
use Rattle.semantics.proofs.Tests.{and_left, and_right}
use Rattle.stored.specs.declared.Node.{Node}
use Rattle.stored.specs.Bytes.{lowest}
use Rattle.stored.specs.Node.{requirement_sorts, is_formula_node}
use Rattle.stored.specs.Sheet.{header_of, sheet_refusal, sheet_answer}
use Rattle.stored.specs.Refusal.{number_of, answered}
use Rattle.stored.specs.declared.Header.{Header}
use Rattle.stored.specs.declared.refusal.Refusal.{Refusal}
use Rattle.stored.specs.declared.refusal.Refusal.TheVariants.{FewWords, NotAFormula, NameOffTrace}
use Rattle.stored.proofs.Refusals.{refusal_applies, answered_value, answered_refusal}
use Rattle.stored.proofs.Accepted.{answer_accepted, answer_refused}
use Rattle.traces.specs.Trace.{trace_refusal, trace_answer}
use Rattle.traces.proofs.Accepted.{cycles_accepted, cycles_refused}
use Rattle.stored.specs.Tree.{pick}
use Rattle.tables.specs.Table.{standing, Inside}
use Rattle.checker.specs.Table.{name_placed, names_placed, heeded, node_rules, node_refusal, or_else, words_refusal, words_after}

pub or_first : (a b : ℕ) → eqb a 0 ≡ false → or_else a b ≡ a
unfolding or_else
or_first a b e = rw e

pub or_second : (a b : ℕ) → a ≡ 0 → or_else a b ≡ b
unfolding or_else
or_second a b e = rw (eq-eqb a 0 e)

-- what is answered, and what the words hold, for a number
pub record Answers {A : Type 0} (number : ℕ) (value : A) (old : List ℕ) (answer : Result A Refusal) (new : List ℕ) : Type 0 where
  pub given : answer ≡ answered number value
  pub left : new ≡ words_after number old

module _ {A : Type 0} (number : ℕ) (value : A) (words : List ℕ) where
  pub answers_refused : (e : Refusal) → number_of e ≡ number → Answers number value words (Err e) words
  unfolding words_after pick
  answers_refused e is = record { given = answered_refusal number value e is; left = rw (refusal_applies e is) }

  pub answers_value : number ≡ 0 → Answers number value words (Ok value) (replicate (length words) 0)
  unfolding words_after pick
  answers_value e = record { given = answered_value number value e; left = rw e }

-- refusals 16 and 17
module _ (x : ℕ → Node) (count n m node p0 p1 p2 : ℕ) where
  pub node_16 : is_formula_node requirement_sorts x count node ≡ false → number_of NotAFormula ≡ node_refusal x count n m node p0 p1 p2
  unfolding number_of node_refusal node_rules lowest
  node_16 e = rw e

  pub node_17 : is_formula_node requirement_sorts x count node ≡ true → names_placed m n p0 p1 p2 ≡ false → number_of NameOffTrace ≡ node_refusal x count n m node p0 p1 p2
  unfolding number_of node_refusal node_rules lowest
  node_17 e f = rw (e, f)

  pub node_right_lem : is_formula_node requirement_sorts x count node ≡ true → names_placed m n p0 p1 p2 ≡ true → node_refusal x count n m node p0 p1 p2 ≡ 0
  unfolding node_refusal node_rules lowest
  node_right_lem e f = rw (e, f)

-- a cycle that is heeded is one of the trace
heeded_inside : (m n u p : ℕ) → 1 ≤ n → name_placed m n u p ≡ true → heeded m u p < n
unfolding name_placed heeded
heeded_inside m n u p l h = go (ltb u m) h
  where
    go : (b : Bool) → (not b || ltb p n) ≡ true → cond b p 0 < n
    go true e = ltb-true p n e
    go false e = omega arith

pub names_inside : (m n p0 p1 p2 : ℕ) → 1 ≤ n → names_placed m n p0 p1 p2 ≡ true → Inside n (heeded m 0 p0 ∷ heeded m 1 p1 ∷ heeded m 2 p2 ∷ [])
unfolding names_placed standing
names_inside m n p0 p1 p2 l h = record { stands = stands }
  where
    stands : (u : ℕ) → u < 3 → standing (heeded m 0 p0 ∷ heeded m 1 p1 ∷ heeded m 2 p2 ∷ []) u < n
    stands zero k = heeded_inside m n 0 p0 l (and_left (name_placed m n 0 p0) _ h)
    stands (suc zero) k = heeded_inside m n 1 p1 l (and_left (name_placed m n 1 p1) (name_placed m n 2 p2) (and_right (name_placed m n 0 p0) _ h))
    stands (suc (suc zero)) k = heeded_inside m n 2 p2 l (and_right (name_placed m n 1 p1) (name_placed m n 2 p2) (and_right (name_placed m n 0 p0) _ h))
    stands (suc (suc (suc u))) k = absurd (omega arith)

pub words_few : (words : List ℕ) → length words < least_words → words_refusal words ≡ 15
unfolding words_refusal lowest
words_few words l = rw (lt-leb least_words (length words) l)

pub words_many : (words : List ℕ) → least_words ≤ length words → words_refusal words ≡ 0
unfolding words_refusal lowest
words_many words l = rw (le-leb least_words (length words) l)

-- the sheet's number, the trace's, then the rest
module _ (s t : List ℕ) (rest : ℕ) where
  abbrev number : ℕ
  number = or_else (sheet_refusal s) (or_else (trace_refusal (header_of s).signals t) rest)

  module _ (h : Header) (accepted : sheet_answer s ≡ Ok h) where
    after_sheet : number ≡ or_else (trace_refusal (header_of s).signals t) rest
    after_sheet = or_second (sheet_refusal s) _ (answer_accepted s h accepted).0

    same_header : trace_answer (header_of s).signals t ≡ trace_answer h.signals t
    same_header = ap (λ (g : Header). trace_answer g.signals t) (answer_accepted s h accepted).1

    pub after_trace : (n : ℕ) → trace_answer h.signals t ≡ Ok n → number ≡ rest
    after_trace n cycled = after_sheet ∙ or_second (trace_refusal (header_of s).signals t) rest (cycles_accepted (header_of s).signals t n (same_header ∙ cycled)).0

  module _ {A : Type 0} (value : A) (words : List ℕ) where
    pub sheet_refuses : (e : Refusal) → sheet_answer s ≡ Err e → Answers number value words (Err e) words
    sheet_refuses e is =
        let applies = answer_refused s e is in
        answers_refused number value words e (applies ∙ sym (or_first (sheet_refusal s) _ (refusal_applies e applies)))

    module _ (h : Header) (accepted : sheet_answer s ≡ Ok h) where
      pub trace_refuses : (e : Refusal) → trace_answer h.signals t ≡ Err e → Answers number value words (Err e) words
      trace_refuses e is =
          let applies = cycles_refused (header_of s).signals t e (same_header h accepted ∙ is) in
          answers_refused number value words e
          (applies ∙ sym (after_sheet h accepted ∙ or_first (trace_refusal (header_of s).signals t) rest (refusal_applies e applies)))

      pub rest_refuses : (n : ℕ) → trace_answer h.signals t ≡ Ok n → (e : Refusal) → number_of e ≡ rest → Answers number value words (Err e) words
      rest_refuses n cycled e is = answers_refused number value words e (is ∙ sym (after_trace h accepted n cycled))

pub few_words : (words : List ℕ) → length words < least_words → number_of FewWords ≡ words_refusal words
unfolding number_of
few_words words l = sym (words_few words l)

pub few_words_first : (words : List ℕ) (rest : ℕ) → length words < least_words → number_of FewWords ≡ or_else (words_refusal words) rest
unfolding number_of
few_words_first words rest l =
    let few = words_few words l in
    sym (or_first (words_refusal words) rest (ap (λ (k : ℕ). eqb k 0) few) ∙ few)

pub words_cleared : (number : ℕ) (words : List ℕ) → number ≡ 0 → replicate (length words) 0 ≡ words_after number words
unfolding words_after pick
words_cleared number words e = rw e
