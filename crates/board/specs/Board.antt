-- Request 6, "The open offer on the wall": a board, what opens it, and what a feed does. "Board" and "feed" are the request's words.
use Rattle.std.specs.Prelude.{ℕ, suc, ◌^◌, Bool, ◌&&◌, List, [], ◌∷◌, ◌++◌, ◌≡◌, leb, ltb, eqb, length, get_or, set, take, replicate, Option, None, Result, Err}
use Rattle.std.proofs.lemmas.List.Edits.{sets}
use Rattle.std.specs.Result.{result_ok}
use Rattle.stored.specs.Bytes.{every_below, lowest}
use Rattle.stored.specs.Layout.{most_sheet, most_cycles}
use Rattle.stored.specs.declared.refusal.Refusal.{Refusal}
use Rattle.stored.specs.Refusal.{refusal_numbered, answered}
use Rattle.stored.specs.Sheet.{header_of, sheet_refusal}
use Rattle.stored.specs.Tree.{pick}
use Rattle.traces.specs.Written.{trace_bytes}
use Rattle.checker.specs.declared.check.Verdict.{Verdict}
use Rattle.checker.specs.Table.{or_else, words_refusal}
use Rattle.checker.specs.Check.{check_answer}
use Rattle.lines.specs.Input.{sheet_of}
use Rattle.board.specs.declared.Board.{Board}

-- ---- what a board holds
-- its arrays are as long as its type says
pub record Sized (b : Board) : Type 0 where
  pub sheet_long : length b.sheet ≡ most_sheet
  pub cycles_long : length b.cycles ≡ most_cycles

-- its sheet, which ends where its length field says, or with the board's bytes
unfoldable pub sheet_on : Board → List ℕ
sheet_on b = sheet_of b.sheet

unfoldable pub signals_on : Board → ℕ
signals_on b = (header_of (sheet_on b)).signals

-- the cycles taken so far
unfoldable pub cycles_on : Board → List ℕ
cycles_on b = take b.taken b.cycles

-- ---- a new board
unfoldable pub new_board : List ℕ → Board
new_board s = record { sheet = sets (replicate most_sheet 0) 0 s; cycles = replicate most_cycles 0; taken = 0; verdict = None }

-- the sheet's new board, or the refusal with the lowest number from 1 to 9 that applies
unfoldable pub open_answer : List ℕ → Result Board Refusal
open_answer s = answered (sheet_refusal s) (new_board s)

-- ---- which cycles a board takes
-- no bit from s up is set
unfoldable pub cycle_fits : ℕ → ℕ → Bool
cycle_fits s cycle = ltb cycle (2 ^ s)

unfoldable pub held_at : ℕ → List ℕ → ℕ → Bool
held_at s cycles i = cycle_fits s (get_or cycles i 0)

-- 13, of the cycles on a board: there are at most 64, none is allowed, and no bit from s up is set.
unfoldable pub held_right : ℕ → ℕ → List ℕ → Bool
held_right s taken cycles = leb taken most_cycles && every_below taken (held_at s cycles)

-- the lowest number that applies to a board, or 0: it passes
unfoldable pub board_refusal : Board → ℕ
board_refusal b = or_else (sheet_refusal (sheet_on b)) (lowest 13 (held_right (signals_on b) b.taken b.cycles ∷ []))

-- 21. The cycle has no bit from s up. 22. There are fewer than 64 cycles before it.
unfoldable pub cycle_rules : Board → ℕ → List Bool
cycle_rules b cycle = cycle_fits (signals_on b) cycle ∷ ltb b.taken most_cycles ∷ []

-- the number that a feed is refused by, or 0: the cycle is taken
unfoldable pub feed_refusal : Board → ℕ → List ℕ → ℕ
feed_refusal b cycle words = or_else (board_refusal b) (or_else (words_refusal words) (lowest 21 (cycle_rules b cycle)))

-- how many signals the sheet has, where the cycle is taken, or the refusal with that number
unfoldable pub admission_of : Board → ℕ → List ℕ → Result ℕ Refusal
admission_of b cycle words = answered (feed_refusal b cycle words) (signals_on b)

-- ---- what a feed answers
-- the check's answer on a board's sheet and the stored trace of cycles
unfoldable pub check_on : Board → List ℕ → List ℕ → Result Verdict Refusal
check_on b cycles words = check_answer (sheet_on b) (trace_bytes (signals_on b) cycles) words

-- the refusal with that number, or the check's answer on the cycles taken before and this one
unfoldable pub feed_answer : Board → ℕ → List ℕ → Result Verdict Refusal
feed_answer b cycle words = pick (eqb (feed_refusal b cycle words) 0) (check_on b (cycles_on b ++ (cycle ∷ [])) words) (Err (refusal_numbered (feed_refusal b cycle words)))

-- the board with one cycle more, and the verdict of an answer
unfoldable pub with_cycle : Board → ℕ → Result Verdict Refusal → Board
with_cycle b cycle answer = record { sheet = b.sheet; cycles = set b.cycles b.taken cycle; taken = suc b.taken; verdict = result_ok answer }

-- the board that a feed hands back: as it was where it is refused
unfoldable pub next_board : Board → ℕ → List ℕ → Board
next_board b cycle words = pick (eqb (feed_refusal b cycle words) 0) (with_cycle b cycle (feed_answer b cycle words)) b
