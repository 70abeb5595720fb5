-- Whether a board takes a cycle: the order of the refusals, and what is known where none applies.
use Rattle.std.proofs.Common.{ℕ, zero, suc, ◌-◌, ◌^◌, ◌≤◌, ◌<◌, Bool, true, false, ◌&&◌, List, [], ◌∷◌, ◌≡◌, refl, sym, ◌∙◌, ap, arith, eqb-true, ltb-true, lt-ltb, le-ltb, leb, ltb, eqb, length, get_or, take, drop, Ok, Err, add-one}
use Rattle.semantics.proofs.Tests.{and_right}
use Rattle.stored.specs.declared.Header.{Header}
use Rattle.stored.specs.declared.refusal.Refusal.{Refusal}
use Rattle.stored.specs.declared.refusal.Refusal.TheVariants.{InvalidCycles, FewWords, InvalidCycle, BoardFull}
use Rattle.stored.specs.Refusal.{number_of, last_number}
use Rattle.stored.proofs.Refusals.{refusal_applies, answered_value, answered_refusal, of_value, of_refusal}
use Rattle.std.specs.List.{list_all}
use Rattle.std.proofs.lemmas.List.Folds.{list_all_more}
use Rattle.stored.specs.Bytes.{every_below, lowest}
use Rattle.stored.specs.Layout.{most_cycles, least_words}
use Rattle.stored.specs.Sheet.{header_of, sheet_refusal, sheet_rules, sheet_answer}
use Rattle.stored.proofs.Rules.{every_at, lowest_kept}
use Rattle.stored.proofs.Accepted.{opened, answer_accepted, answer_refused}
use Rattle.checker.specs.Table.{or_else, words_refusal}
use Rattle.checker.proofs.Bounds.{lowest_small, or_small, or_zero}
use Rattle.checker.proofs.Refusals.{or_first, or_second, words_few, words_many}
use Rattle.lines.specs.Input.{split_at, sheet_of}
use Rattle.board.specs.declared.Board.{Board}
use Rattle.board.specs.Board.{sheet_on, signals_on, cycle_fits, held_at, held_right, board_refusal, cycle_rules, feed_refusal, admission_of}

-- ---- where no number applies
pub record Takes (b : Board) (cycle : ℕ) (words : List ℕ) : Type 0 where
  pub sheet_accepted : sheet_refusal (sheet_on b) ≡ 0
  pub few_signals : signals_on b ≤ 16
  pub held_small : (i : ℕ) → i < b.taken → get_or b.cycles i 0 < 2 ^ signals_on b
  pub words_enough : words_refusal words ≡ 0
  pub cycle_small : cycle < 2 ^ signals_on b
  pub room : b.taken < most_cycles

pub takes : (b : Board) (cycle : ℕ) (words : List ℕ) → feed_refusal b cycle words ≡ 0 → Takes b cycle words
unfolding feed_refusal board_refusal cycle_rules held_right held_at cycle_fits signals_on
takes b cycle words e =
    let s = (header_of (sheet_on b)).signals in
    let board = or_zero _ _ e in
    let sheet = or_zero _ _ board.0 in
    let rest = or_zero _ _ board.1 in
    let held = (lowest_kept 13 _ _ (omega arith) sheet.1).0 in
    let r₂₁ = lowest_kept 21 _ _ (omega arith) rest.1 in
    let r₂₂ = lowest_kept 22 _ _ (omega arith) r₂₁.1 in
    record {
      sheet_accepted = sheet.0;
      few_signals = (opened (sheet_on b) sheet.0).in_range.few_signals;
      held_small = λ i h. ltb-true (get_or b.cycles i 0) (2 ^ s)
          (every_at b.taken (held_at s b.cycles) (and_right (leb b.taken most_cycles) _ held) i h);
      words_enough = rest.0;
      cycle_small = ltb-true cycle (2 ^ s) r₂₁.0;
      room = ltb-true b.taken most_cycles r₂₂.0;
    }

-- the first so many cycles of a list, one by one
pub held_listed : (s : ℕ) (cycles : List ℕ) (n : ℕ) → n ≤ length cycles → list_all (cycle_fits s) (take n cycles) ≡ every_below n (held_at s cycles)
unfolding every_below held_at
held_listed s cycles zero l = refl
held_listed s cycles (suc n) l =
    rw (← add-one n) (list_all_more (cycle_fits s) cycles n 0 (omega arith))
    ∙ ap (λ (b : Bool). b && cycle_fits s (get_or cycles n 0)) (held_listed s cycles n (omega arith))

-- ---- the order
-- the part of a board's bytes that is its sheet
pub sheet_part : (b : Board) (end : ℕ) → end ≡ split_at b.sheet → take (end - 0) (drop 0 b.sheet) ≡ sheet_on b
unfolding sheet_on sheet_of
sheet_part b end e = let whole : end - 0 ≡ split_at b.sheet = omega arith in ap (λ (k : ℕ). take k b.sheet) whole

module _ (b : Board) (cycle : ℕ) (words : List ℕ) where
  refused_as : (e : Refusal) → number_of e ≡ feed_refusal b cycle words → Err e ≡ admission_of b cycle words
  unfolding admission_of
  refused_as e is = answered_refusal (feed_refusal b cycle words) (signals_on b) e is

  pub admit_sheet : (e : Refusal) → sheet_answer (sheet_on b) ≡ Err e → Err e ≡ admission_of b cycle words
  unfolding feed_refusal board_refusal
  admit_sheet e is =
      let number = answer_refused (sheet_on b) e is in
      let first = or_first (sheet_refusal (sheet_on b)) (lowest 13 (held_right (signals_on b) b.taken b.cycles ∷ [])) (refusal_applies e number) in
      refused_as e (number ∙ sym (or_first _ _ (ap (λ (x : ℕ). eqb x 0) first ∙ refusal_applies e number) ∙ first))

  module _ (h : Header) (accepted : sheet_answer (sheet_on b) ≡ Ok h) where
    pub signals_are : signals_on b ≡ h.signals
    unfolding signals_on
    signals_are = ap (λ (g : Header). g.signals) (answer_accepted (sheet_on b) h accepted).1

    at_held : feed_refusal b cycle words ≡ or_else (lowest 13 (held_right h.signals b.taken b.cycles ∷ [])) (or_else (words_refusal words) (lowest 21 (cycle_rules b cycle)))
    unfolding feed_refusal board_refusal
    at_held =
        ap (λ (x : ℕ). or_else x (or_else (words_refusal words) (lowest 21 (cycle_rules b cycle))))
        (or_second (sheet_refusal (sheet_on b)) _ (answer_accepted (sheet_on b) h accepted).0
        ∙ ap (λ (s : ℕ). lowest 13 (held_right s b.taken b.cycles ∷ [])) signals_are)

    pub admit_held : (ok : Bool) → ok ≡ held_right h.signals b.taken b.cycles → ok ≡ false → Err InvalidCycles ≡ admission_of b cycle words
    unfolding lowest or_else number_of
    admit_held ok e f = refused_as InvalidCycles (sym (at_held ∙ rw (sym e ∙ f)))

    module _ (ok : Bool) (held : ok ≡ held_right h.signals b.taken b.cycles) (passed : ok ≡ true) where
      at_words : feed_refusal b cycle words ≡ or_else (words_refusal words) (lowest 21 (cycle_rules b cycle))
      unfolding lowest or_else
      at_words = at_held ∙ rw (sym held ∙ passed)

      pub admit_words : length words < least_words → Err FewWords ≡ admission_of b cycle words
      unfolding number_of
      admit_words l =
          let few = words_few words l in
          refused_as FewWords (sym (at_words ∙ or_first (words_refusal words) _ (ap (λ (x : ℕ). eqb x 0) few) ∙ few))

      module _ (many : least_words ≤ length words) where
        at_cycle : feed_refusal b cycle words ≡ lowest 21 (cycle_fits h.signals cycle ∷ ltb b.taken most_cycles ∷ [])
        unfolding cycle_rules
        at_cycle =
            at_words
            ∙ or_second (words_refusal words) _ (words_many words many)
            ∙ ap (λ (s : ℕ). lowest 21 (cycle_fits s cycle ∷ ltb b.taken most_cycles ∷ [])) signals_are

        pub admit_signals : (fits : Bool) → fits ≡ ltb cycle (2 ^ h.signals) → fits ≡ false → Err InvalidCycle ≡ admission_of b cycle words
        unfolding lowest cycle_fits number_of
        admit_signals fits e f = refused_as InvalidCycle (sym (at_cycle ∙ rw (sym e ∙ f)))

        module _ (fits : Bool) (small : fits ≡ ltb cycle (2 ^ h.signals)) (within : fits ≡ true) where
          pub admit_full : most_cycles ≤ b.taken → Err BoardFull ≡ admission_of b cycle words
          unfolding lowest cycle_fits number_of
          admit_full l = refused_as BoardFull (sym (at_cycle ∙ rw (sym small ∙ within, le-ltb b.taken most_cycles l)))

          pub admitted : b.taken < most_cycles → Ok h.signals ≡ admission_of b cycle words
          unfolding lowest cycle_fits admission_of
          admitted l =
              let none : feed_refusal b cycle words ≡ 0 = at_cycle ∙ rw (sym small ∙ within, lt-ltb b.taken most_cycles l) in
              ap Ok (sym signals_are) ∙ answered_value (feed_refusal b cycle words) (signals_on b) none

-- ---- what an admission says
module _ (b : Board) (cycle : ℕ) (words : List ℕ) where
  pub feed_most : feed_refusal b cycle words ≤ last_number
  unfolding feed_refusal board_refusal words_refusal cycle_rules sheet_refusal sheet_rules
  feed_most =
      or_small _ _
      (or_small _ _ (lowest_small 1 (sheet_rules (sheet_on b)) (omega arith) (omega arith)) (lowest_small 13 (held_right (signals_on b) b.taken b.cycles ∷ []) (omega arith) (omega arith)))
      (or_small _ _ (lowest_small 15 (leb least_words (length words) ∷ []) (omega arith) (omega arith))
      (lowest_small 21 (cycle_rules b cycle) (omega arith) (omega arith)))

  pub when_admitted : (s : ℕ) → admission_of b cycle words ≡ Ok s → (feed_refusal b cycle words ≡ 0) × (s ≡ signals_on b)
  unfolding admission_of
  when_admitted s e = let z = of_value (feed_refusal b cycle words) (signals_on b) s e in (z.0, sym z.1)

  pub when_refused : (e : Refusal) → admission_of b cycle words ≡ Err e → number_of e ≡ feed_refusal b cycle words
  unfolding admission_of
  when_refused e is = of_refusal (feed_refusal b cycle words) (signals_on b) e feed_most is
