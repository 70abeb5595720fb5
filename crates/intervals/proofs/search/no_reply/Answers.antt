-- `intervals::search::no_reply` meets its contract.
use Rattle.intervals.specs.Rows.{test_of, unreplied}
use Rattle.intervals.proofs.search.no_reply.Goals as goal

pub returns-in-Pref : goal.returns-in-Pref
unfolding unreplied
returns-in-Pref c = rw c.in-Pref.is

pub returns-in-Init : goal.returns-in-Init
unfolding unreplied
returns-in-Init c = rw c.in-Init.is

pub returns-in-Anti : goal.returns-in-Anti
unfolding unreplied
returns-in-Anti c = rw c.in-Anti.is

pub returns-in-Implies : goal.returns-in-Implies
unfolding unreplied
returns-in-Implies c = rw c.in-Implies.is

pub returns-in-Follows : goal.returns-in-Follows
unfolding test_of unreplied
returns-in-Follows c = rw c.in-Follows.is c.none_between.ensures

pub returns-in-Triggers : goal.returns-in-Triggers
unfolding test_of unreplied
returns-in-Triggers c = rw c.in-Triggers.is c.none_between-in-Triggers.ensures
