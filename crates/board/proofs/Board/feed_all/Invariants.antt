-- `board::Board::feed_all` meets its contract.
use Rattle.board.proofs.Feeds.{Feeding}
use Rattle.board.proofs.Board.feed_all.Given as goal

abbrev pub invariant-loop-cycle : goal.invariant-loop-cycle
invariant-loop-cycle l = Feeding l.initial.board l.initial.words l.cycles l.cycle-index l.words l.board
