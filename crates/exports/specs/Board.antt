-- A board in lent cells: its sheet's bytes, its cycles, how many of them are taken, and the verdict last given as one number, 0 for none.
use Rattle.std.specs.Prelude.{ℕ, List, eqb, Option}
use Rattle.std.specs.Result.{result_ok}
use Rattle.stored.specs.Tree.{pick}
use Rattle.board.specs.declared.Board.{Board}
use Rattle.checker.specs.declared.check.Verdict.{Verdict}
use Rattle.exports.specs.Packed.{unpacked}

-- what a number says of the verdict last given: that of an answer, and none where it is no verdict's
unfoldable pub shown_in : ℕ → Option Verdict
shown_in number = result_ok (unpacked number)

-- the board that lent cells are
unfoldable pub board_in : List ℕ → List ℕ → ℕ → ℕ → Board
board_in sheet cycles taken verdict = record { sheet = sheet; cycles = cycles; taken = taken; verdict = shown_in verdict }

-- what a lent cell holds afterwards: what is put, and unchanged where there is a refusal
unfoldable pub cell_after : {A : Type 0} → ℕ → A → A → A
cell_after number new old = pick (eqb number 0) new old
