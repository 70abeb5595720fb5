-- The request's claim: what a new board shows after feeds.
use Rattle.std.proofs.Common.{ℕ, List, ◌++◌, arith, ◌≡◌, sym, ◌∙◌, ap, ap₂, subst, Some, Ok, Err}
use Rattle.semantics.specs.Verdict.{verdict}
use Rattle.stored.specs.Sheet.{header_of, clauses_of, sheet_refusal}
use Rattle.stored.specs.Tree.{pick}
use Rattle.traces.specs.Written.{trace_bytes}
use Rattle.checker.specs.Check.{told_whole, check_answer}
use Rattle.lines.specs.Input.{sheet_of}
use Rattle.board.specs.declared.Board.{Board}
use Rattle.stored.specs.Refusal.{answered}
use Rattle.stored.proofs.Accepted.{sheet_small}
use Rattle.stored.specs.declared.refusal.Refusal.{Refusal}
use Rattle.stored.proofs.Refusals.{refusal_applies, answered_value, answered_refusal, of_value, of_refusal}
use Rattle.board.specs.Board.{sheet_on, signals_on, cycles_on, new_board, open_answer, check_on}
use Rattle.board.specs.Feeds.{Feed, board_after, taken_from, taken_watching, lent, words_left, verdict_on, Told, Watched}
use Rattle.board.proofs.Opening.{new_sized, new_sheet, new_cycles}
use Rattle.board.proofs.Feeds.{told}

pub watched : (s : List ℕ) (feeds : List Feed) (r : Board) → sheet_refusal s ≡ 0 → Told (new_board s) feeds r → Watched s (taken_from (new_board s) feeds) r
unfolding check_on signals_on sheet_on verdict_on new_board
watched s feeds r accepted tells =
    let taken = taken_from (new_board s) feeds in
    let sheet : sheet_on r ≡ s = ap sheet_of tells.sheet ∙ new_sheet s accepted in
    let cycles : cycles_on r ≡ taken = tells.cycles ∙ ap (λ (l : List ℕ). l ++ taken) (new_cycles s) in
    let same : verdict_on r ≡ told_whole (verdict (clauses_of s) taken) = ap₂ (λ (x ws : List ℕ). told_whole (verdict (clauses_of x) ws)) sheet cycles in
    record {
      cycles = cycles;
      none = λ e. ap (λ (x : Board). x.verdict) (tells.none e);
      checked = λ h words enough.
          sym (ap₂ (λ (x ws : List ℕ). check_answer x (trace_bytes (header_of x).signals ws) words) sheet cycles)
          ∙ (tells.some h).checked words enough
          ∙ ap Ok same;
      given = λ h. (tells.some h).given ∙ ap Some same;
    }

-- over every list of feeds, each with the words lent to it
pub claim : (s : List ℕ) → sheet_refusal s ≡ 0 → (feeds : List Feed) → Watched s (taken_from (new_board s) feeds) (board_after (new_board s) feeds)
claim s accepted feeds = watched s feeds (board_after (new_board s) feeds) accepted (told (new_board s) (new_sized s) feeds)

-- ---- what watching an offer answers, and what it leaves in the words
module _ (s words cycles : List ℕ) where
  pub watch_refused : (e : Refusal) → open_answer s ≡ Err e
      → (Err e ≡ answered (sheet_refusal s) (board_after (new_board s) (lent words cycles))) × (words ≡ words_left (taken_watching s (lent words cycles)) words)
  unfolding open_answer taken_watching words_left pick
  watch_refused e is =
      let number = of_refusal (sheet_refusal s) (new_board s) e (let small = sheet_small s in omega arith) is in
      (answered_refusal (sheet_refusal s) _ e number, rw (refusal_applies e number))

  -- of the board that was opened
  pub record Opened (b r : Board) (after : List ℕ) : Type 0 where
    pub value : Ok r ≡ answered (sheet_refusal s) (board_after (new_board s) (lent words cycles))
    pub told_new : Told (new_board s) (lent words cycles) r
    pub watched_new : Watched s (taken_from (new_board s) (lent words cycles)) r
    pub left : after ≡ words_left (taken_watching s (lent words cycles)) words

  pub watch_opened : (b r : Board) (after : List ℕ) → open_answer s ≡ Ok b → Told b (lent words cycles) r
      → after ≡ words_left (taken_from b (lent words cycles)) words → Opened b r after
  unfolding open_answer taken_watching pick
  watch_opened b r after is tells left =
      let opened = of_value (sheet_refusal s) (new_board s) b is in
      let new : Told (new_board s) (lent words cycles) r = subst (λ (x : Board). Told x (lent words cycles) r) (sym opened.1) tells in
      record {
        value = ap Ok new.after ∙ answered_value (sheet_refusal s) _ opened.0;
        told_new = new;
        watched_new = watched s (lent words cycles) r opened.0 new;
        left = left ∙ ap (λ (x : Board). words_left (taken_from x (lent words cycles)) words) (sym opened.1) ∙ rw opened.0;
      }
