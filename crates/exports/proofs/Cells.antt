-- A board in lent cells: what open and feed leave there.
use Rattle.std.proofs.Common.{ℕ, ◌*◌, ◌<◌, false, List, ◌≡◌, refl, sym, ◌∙◌, ap, ap₂, subst, arith, ne_eqb, eqb, None, Result, Ok, Err, IfOk}
use Rattle.stored.specs.Sheet.{sheet_refusal}
use Rattle.stored.specs.Tree.{pick}
use Rattle.checker.specs.declared.check.Verdict.{Verdict}
use Rattle.std.specs.Result.{result_ok}
use Rattle.stored.specs.declared.refusal.Refusal.{Refusal}
use Rattle.stored.specs.Refusal.{number_of}
use Rattle.stored.proofs.Refusals.{refusal_applies, of_value, of_refusal}
use Rattle.stored.proofs.Accepted.{sheet_small}
use Rattle.checker.specs.Small.{SmallVerdict}
use Rattle.checker.specs.Table.{words_after}
use Rattle.board.specs.declared.Board.{Board}
use Rattle.board.specs.Board.{new_board, open_answer, feed_refusal, feed_answer, with_cycle, next_board}
use Rattle.board.proofs.Feeds.{refusal_unseen, answer_unseen, next_unseen, next_same, next_is}
use Rattle.board.proofs.Answers.{feed_fits, said_refused, said_checked}
use Rattle.exports.specs.Packed.{packed, unpacked, packed_table}
use Rattle.exports.specs.Board.{shown_in, board_in, cell_after}
use Rattle.exports.proofs.Unpacking.{back}

-- ---- open
new_taken : (s : List ℕ) → (new_board s).taken ≡ 0
unfolding new_board
new_taken s = refl

module _ (s bytes cycles : List ℕ) (taken verdict : ℕ) where
  -- what is answered, and what the four cells hold
  abbrev Leaves : ℕ → List ℕ → List ℕ → ℕ → ℕ → Type 0
  Leaves r bytes' cycles' taken' verdict' =
      (r ≡ packed_table (sheet_refusal s))
      × ((bytes' ≡ cell_after (sheet_refusal s) (new_board s).sheet bytes)
      × ((cycles' ≡ cell_after (sheet_refusal s) (new_board s).cycles cycles)
      × ((taken' ≡ cell_after (sheet_refusal s) 0 taken) × (verdict' ≡ cell_after (sheet_refusal s) 0 verdict))))

  pub open_kept : (e : Refusal) → open_answer s ≡ Err e → Leaves (number_of e * 256) bytes cycles taken verdict
  unfolding open_answer packed_table cell_after pick
  open_kept e is =
      let number = of_refusal (sheet_refusal s) (new_board s) e (let small = sheet_small s in omega arith) is in
      let f = refusal_applies e number in
      (rw f (ap (λ (n : ℕ). n * 256) number), (rw f, (rw f, (rw f, rw f))))

  pub open_put : (b : Board) → open_answer s ≡ Ok b → Leaves 4 b.sheet b.cycles b.taken 0
  unfolding open_answer packed_table cell_after pick
  open_put b is =
      let opened = of_value (sheet_refusal s) (new_board s) b is in
      let none = opened.0 in
      subst (λ (x : Board). Leaves 4 x.sheet x.cycles x.taken 0) opened.1 (rw none, (rw none, (rw none, (rw none (new_taken s), rw none))))

-- ---- feed
module _ (bytes cycles : List ℕ) (taken verdict cycle : ℕ) (words : List ℕ) where
  abbrev here : Board
  here = board_in bytes cycles taken verdict

  -- the board without its verdict, which is what the feed is given
  abbrev pub bare : Board
  bare = record { sheet = bytes; cycles = cycles; taken = taken; verdict = None }

  bare_refusal : feed_refusal bare cycle words ≡ feed_refusal here cycle words
  unfolding board_in
  bare_refusal = refusal_unseen here None cycle words

  bare_answer : feed_answer bare cycle words ≡ feed_answer here cycle words
  unfolding board_in
  bare_answer = answer_unseen here None cycle words

  -- what is answered, and what the cells and the words hold
  abbrev Feeds : ℕ → List ℕ → ℕ → ℕ → List ℕ → Type 0
  Feeds r cycles' taken' verdict' words' =
      (r ≡ packed (feed_answer here cycle words))
      × ((unpacked r ≡ feed_answer here cycle words)
      × ((board_in bytes cycles' taken' verdict' ≡ next_board here cycle words)
      × ((verdict' ≡ cell_after (feed_refusal here cycle words) r verdict) × (words' ≡ words_after (feed_refusal here cycle words) words))))

  module _ (answer : Result Verdict Refusal) (words' : List ℕ) (told : answer ≡ feed_answer bare cycle words) (left : words' ≡ words_after (feed_refusal bare cycle words) words) where
    left_here : words' ≡ words_after (feed_refusal here cycle words) words
    left_here = left ∙ ap (λ (n : ℕ). words_after n words) bare_refusal

    said : answer ≡ feed_answer here cycle words
    said = told ∙ bare_answer

    read_back : (r : ℕ) → r ≡ packed answer → unpacked r ≡ feed_answer here cycle words
    read_back r e = ap unpacked (e ∙ ap packed said) ∙ back (feed_answer here cycle words) (feed_fits here cycle words)

    pub checked_small : (v : Verdict) → answer ≡ Ok v → SmallVerdict v
    checked_small v e = subst (λ (x : Result Verdict Refusal). IfOk x SmallVerdict) (sym told ∙ e) (feed_fits bare cycle words)

    pub feed_kept : (e : Refusal) → answer ≡ Err e → Feeds (number_of e * 256) cycles taken verdict words'
    unfolding packed cell_after pick
    feed_kept e is =
        let f = refusal_applies e (said_refused here cycle words e (sym said ∙ is)) in
        let number : number_of e * 256 ≡ packed answer = sym (ap packed is) in
        (number ∙ ap packed said, (read_back (number_of e * 256) number, (sym (next_same here cycle words f), (rw f, left_here))))

    pub feed_put : (v : Verdict) (r : ℕ) (next : Board) → answer ≡ Ok v → r ≡ packed (Ok v) → next ≡ next_board bare cycle words
        → Feeds r next.cycles next.taken r words'
    unfolding cell_after pick board_in shown_in with_cycle
    feed_put v r next e packs ahead =
        let none = said_checked here cycle words v (sym said ∙ e) in
        let number : r ≡ packed answer = packs ∙ sym (ap packed e) in
        let shown = read_back r number in
        let same : next ≡ next_board here cycle words = ahead ∙ next_unseen here None cycle words none in
        (number ∙ ap packed said, (shown, (stands none shown same, (rw none, left_here))))
      where
        stands : feed_refusal here cycle words ≡ 0 → unpacked r ≡ feed_answer here cycle words → next ≡ next_board here cycle words
            → board_in bytes next.cycles next.taken r ≡ next_board here cycle words
        stands none shown same =
            let ahead = next_is here cycle words none in
            ap₂ (λ (x : Board) (a : Result Verdict Refusal). record { sheet = bytes; cycles = x.cycles; taken = x.taken; verdict = result_ok a }) (same ∙ ahead) shown
            ∙ sym ahead
