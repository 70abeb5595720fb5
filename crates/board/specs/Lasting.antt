-- Request 7, of a board: what a board says of the board after feeds of it.
use Rattle.std.specs.Prelude.{true, ◌≡◌, Option, None, Some}
use Rattle.semantics.specs.Clause.{Clause, fails}
use Rattle.semantics.specs.Verdict as semantics
use Rattle.semantics.specs.Lasting.{Lasting}
use Rattle.checker.specs.declared.check.Finding.{Finding}
use Rattle.checker.specs.declared.check.Finding.TheVariants.{Excused, Broken, Holds}
use Rattle.checker.specs.declared.check.Verdict.{Verdict}
use Rattle.board.specs.declared.Board.{Board}
use Rattle.board.specs.Board.{cycles_on}
use Rattle.board.specs.Feeds.{Shows}

-- what a finding and a verdict say, in the words of the meanings: the way back from `told` and `toldWhole`
unfoldable pub meant : Finding → semantics.Finding
meant (Excused clause) = semantics.Excused clause
meant (Broken p) = semantics.Broken (record { clause = p.clause; i = p.i; j = p.j; k = p.k })
meant Holds = semantics.Holds

unfoldable pub meant_whole : Verdict → semantics.Verdict
meant_whole v = record { finding = meant v.finding; advice = v.advice }

-- the verdict that is shown lasts: it is not taken down, and what comes in its place is one that may
abbrev pub LastingShown : Option Verdict → Option Verdict → Type 0
LastingShown None later = Unit
LastingShown (Some v) None = ⊥
LastingShown (Some v) (Some w) = Lasting (meant_whole v) (meant_whole w)

-- A clause that is false of the cycles on board b is false of those on board r, whichever clause that is. Where b shows the verdict on its
-- cycles, as every board does that took one, that verdict lasts on r.
pub record Unhealed (b r : Board) : Type 0 where
  pub clauses : (c : Clause) → fails c (cycles_on b) ≡ true → fails c (cycles_on r) ≡ true
  pub verdict : Shows b → LastingShown b.verdict r.verdict
