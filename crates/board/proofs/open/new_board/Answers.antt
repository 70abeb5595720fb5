-- `board::open::new_board` meets its contract.
use Rattle.std.proofs.Common.{arith, length, ℕ, ◌∙◌, ap}
use lib.ListN.{length-replicate}
use Rattle.stored.specs.Layout.{most_sheet}
use Rattle.board.specs.Board.{new_board}
use Rattle.board.proofs.open.new_board.Goals as goal

pub put_word-requires : goal.put_word-requires
put_word-requires c = let size = ap length c.zeros-bytes.ensures ∙ length-replicate {A = ℕ} most_sheet 0 in omega (arith, c.requires)

pub returns : goal.returns
unfolding new_board
returns c = rw (c.put_word.ensures.bytes, c.zeros-bytes.ensures, c.no_cycles-cycles.ensures)
