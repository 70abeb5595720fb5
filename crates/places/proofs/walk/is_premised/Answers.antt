-- `places::walk::is_premised` meets its contract.
use Rattle.intervals.specs.Search.{premised}
use Rattle.places.proofs.walk.is_premised.Goals as goal

pub returns-in-Pref : goal.returns-in-Pref
unfolding premised
returns-in-Pref c = rw c.in-Pref.is

pub returns-in-Init : goal.returns-in-Init
unfolding premised
returns-in-Init c = rw c.in-Init.is

pub returns-in-Anti : goal.returns-in-Anti
unfolding premised
returns-in-Anti c = rw c.in-Anti.is

pub returns-in-Implies : goal.returns-in-Implies
unfolding premised
returns-in-Implies c = rw c.in-Implies.is

pub returns-in-Follows : goal.returns-in-Follows
unfolding premised
returns-in-Follows c = rw c.in-Follows.is

pub returns-in-Triggers : goal.returns-in-Triggers
unfolding premised
returns-in-Triggers c = rw c.in-Triggers.is
