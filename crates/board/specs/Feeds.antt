-- Request 6, of a list of feeds: which cycles are taken, and what the board shows after them.
use Rattle.std.specs.Prelude.{ℕ, ◌<◌, List, [], ◌∷◌, ◌++◌, ◌≡◌, eqb, length, replicate, None, Some, Ok}
use Rattle.semantics.specs.Verdict.{verdict}
use Rattle.stored.specs.Sheet.{header_of, clauses_of, sheet_refusal}
use Rattle.stored.specs.Tree.{pick}
use Rattle.traces.specs.Written.{trace_bytes}
use Rattle.checker.specs.declared.check.Verdict.{Verdict}
use Rattle.checker.specs.Table.{words_refusal}
use Rattle.checker.specs.Check.{told_whole, check_answer}
use Rattle.board.specs.declared.Board.{Board}
use Rattle.board.specs.Board.{sheet_on, cycles_on, new_board, feed_refusal, check_on, next_board}

-- one feed: its cycle, and the words lent to it
pub record Feed : Type 0 where
  pub cycle : ℕ
  pub words : List ℕ

-- the board after feeds, one after the other
unfoldable pub board_after : Board → List Feed → Board
board_after b [] = b
board_after b (f ∷ feeds) = board_after (next_board b f.cycle f.words) feeds

-- a cycle before the rest where no number refuses it, else the rest alone
unfoldable pub kept : ℕ → ℕ → List ℕ → List ℕ
kept number cycle rest = pick (eqb number 0) (cycle ∷ rest) rest

-- the cycles taken, refused ones left out
unfoldable pub taken_from : Board → List Feed → List ℕ
taken_from b [] = []
taken_from b (f ∷ feeds) = kept (feed_refusal b f.cycle f.words) f.cycle (taken_from (next_board b f.cycle f.words) feeds)

-- the cycles taken of feeds to the new board of a sheet: none where the sheet is refused, since it has no board
unfoldable pub taken_watching : List ℕ → List Feed → List ℕ
taken_watching s feeds = pick (eqb (sheet_refusal s) 0) (taken_from (new_board s) feeds) []

-- the feeds of cycles, the same words lent to each
unfoldable pub lent : List ℕ → List ℕ → List Feed
lent words [] = []
lent words (cycle ∷ cycles) = record { cycle = cycle; words = words } ∷ lent words cycles

-- what words lent to feeds hold afterwards: they are all zero, and unchanged where no cycle was taken
unfoldable pub words_left : List ℕ → List ℕ → List ℕ
words_left taken words = pick (eqb (length taken) 0) words (replicate (length words) 0)

-- the verdict on a board's sheet and cycles
unfoldable pub verdict_on : Board → Verdict
verdict_on b = told_whole (verdict (clauses_of (sheet_on b)) (cycles_on b))

-- A board shows its verdict: it is the check's answer on the stored trace of its cycles, whatever words are lent to that check.
pub record Shows (b : Board) : Type 0 where
  pub checked : (words : List ℕ) → words_refusal words ≡ 0 → check_on b (cycles_on b) words ≡ Ok (verdict_on b)
  pub given : b.verdict ≡ Some (verdict_on b)

-- What board r tells after feeds of board b, whichever board that is. The cycles taken stand after those of b. Where none was taken r is b,
-- so that a new board still has no verdict; where one was, r shows its verdict.
pub record Told (b : Board) (feeds : List Feed) (r : Board) : Type 0 where
  pub after : r ≡ board_after b feeds
  pub sheet : r.sheet ≡ b.sheet
  pub cycles : cycles_on r ≡ cycles_on b ++ taken_from b feeds
  pub none : taken_from b feeds ≡ [] → r ≡ b
  pub some : 0 < length (taken_from b feeds) → Shows r

-- The request's claim, of board r after feeds of the new board of sheet s: its cycles are those taken; where there are none it has no
-- verdict; else its verdict is the check's answer on the stored trace of the cycles taken, whatever words are lent to that check.
pub record Watched (s taken : List ℕ) (r : Board) : Type 0 where
  pub cycles : cycles_on r ≡ taken
  pub none : taken ≡ [] → r.verdict ≡ None
  pub checked : 0 < length taken → (words : List ℕ) → words_refusal words ≡ 0
      → check_answer s (trace_bytes (header_of s).signals taken) words ≡ Ok (told_whole (verdict (clauses_of s) taken))
  pub given : 0 < length taken → r.verdict ≡ Some (told_whole (verdict (clauses_of s) taken))
