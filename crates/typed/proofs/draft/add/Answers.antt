-- `typed::draft::add` meets its contract.
use Rattle.std.proofs.Common.{arith}
use Rattle.typed.proofs.Writing.{added_there, added_none}
use Rattle.typed.proofs.draft.add.Goals as goal
use Rattle.typed.proofs.draft.add.Goals.{then-count-MOST, else-count-MOST}

pub returns : goal.returns
returns g c =
    elim c.if-count-MOST.branch [
      | then-count-MOST w ↦ rw (w.area-is, w.write.ensures, w.SIZE.ensures) (added_there _ _ _ _ _ (omega (arith, c.MOST.ensures)))
      | else-count-MOST w ↦ rw w.area-is (added_none _ _ _ _ _ (omega (arith, c.MOST.ensures)))
    ]
