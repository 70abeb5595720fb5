-- `places::task::task_of` meets its contract.
use Rattle.std.proofs.Common.{◌∙◌}
use Rattle.places.specs.Task.{type_numbered, task_of}
use Rattle.places.proofs.Tasks.{task_typed}
use Rattle.places.proofs.task.task_of.Goals as goal

pub returns-in-Pref : goal.returns-in-Pref
unfolding task_of type_numbered
returns-in-Pref c = c.task_over.ensures ∙ task_typed c.args.d _ c.in-Pref.ensures c.requires.0 c.requires.1

pub returns-in-Init : goal.returns-in-Init
unfolding task_of type_numbered
returns-in-Init c = c.task_over-in-Init.ensures ∙ task_typed c.args.d _ c.in-Init.ensures c.requires.0 c.requires.1

pub returns-in-Anti : goal.returns-in-Anti
unfolding task_of type_numbered
returns-in-Anti c = c.task_over-in-Anti.ensures ∙ task_typed c.args.d _ c.in-Anti.ensures c.requires.0 c.requires.1

pub returns-in-Implies : goal.returns-in-Implies
unfolding task_of type_numbered
returns-in-Implies c = c.task_over-in-Implies.ensures ∙ task_typed c.args.d _ c.in-Implies.ensures c.requires.0 c.requires.1

pub returns-in-Follows : goal.returns-in-Follows
unfolding task_of type_numbered
returns-in-Follows c = c.task_over-in-Follows.ensures ∙ task_typed c.args.d _ c.in-Follows.ensures c.requires.0 c.requires.1

pub returns-in-Triggers : goal.returns-in-Triggers
unfolding task_of type_numbered
returns-in-Triggers c = c.task_over-in-Triggers.ensures ∙ task_typed c.args.d _ c.in-Triggers.ensures c.requires.0 c.requires.1
