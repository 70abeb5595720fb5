-- `pruning::mark::mark_reached` meets its contract.
use Rattle.std.proofs.Common.{arith}
use Rattle.stored.specs.Written.{node_in}
use Rattle.pruning.specs.Pruned.{MarkedFrom}
use Rattle.pruning.proofs.Marking.{first_marked, pass_down, turn_down, marked_from}
use Rattle.pruning.proofs.mark.mark_reached.Goals as goal
use Rattle.pruning.proofs.mark.mark_reached.Goals.{Joined-marks-i, then-marks-i, else-marks-i}

pub loop-i-init : goal.loop-i-init
loop-i-init c = first_marked _ c.requires.in_marks c.requires.none_marked

-- node i has marked its operands, where it is marked
turn : (c : Joined-marks-i) → MarkedFrom (node_in c.args.draft.now) c.args.root c.loop-i.i c.if-marks-i.marks
turn c =
    let inv = c.loop-i.invariant in
    elim c.if-marks-i.branch [
      | then-marks-i w ↦ rw (w.marks-is, w.mark_node.ensures, w.node_in.ensures) (turn_down inv c.requires.operands_earlier c.loop-i.auto.i w.if-marks-i.true)
      | else-marks-i w ↦ rw w.marks-is (pass_down inv w.if-marks-i.false)
    ]

pub loop-i-preserved : goal.loop-i-preserved
loop-i-preserved c = marked_from (omega arith) (turn (goal.at.loop-i-preserved c).Joined-marks-i)

pub returns-after-marks-i : goal.returns-after-marks-i
returns-after-marks-i c = marked_from (omega arith) (turn (goal.at.returns-after-marks-i c).Joined-marks-i)
