-- `checker::failing::clause_place` meets its contract.
use Rattle.std.proofs.Common.{refl, arith}
use Rattle.checker.proofs.Clauses.{clause_walkable, clause_least}
use Rattle.checker.proofs.failing.clause_place.Goals as goal

pub task_of-task-requires : goal.task_of-task-requires
task_of-task-requires c = omega (arith, c.requires.sound.0.type_least, c.requires.sound.0.type_most)

pub walk-requires : goal.walk-requires
walk-requires c =
    let p = c.requires in
    record { walkable = clause_walkable c.args.parts.nodes c.args.parts.reach p.laid c.args.d _ c.task_of-task.ensures p.sound.0; rows_long = p.sound.1 }

pub returns : goal.returns
returns c =
    let p = c.requires in
    let r = c.walk.ensures in
    record { still_laid = r.laid; rows_long = r.rows_kept; least = clause_least p.laid c.args.d _ c.task_of-task.ensures p.sound.0 _ (r.walked.places refl) }
