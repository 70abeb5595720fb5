-- `clauses::clause::put_typed` meets its contract.
use Rattle.std.proofs.Common.{sym}
use Rattle.semantics.specs.Translation.{broken_of}
use Rattle.clauses.proofs.clause.put_typed.Goals as goal

pub returns-in-Pref : goal.returns-in-Pref
unfolding broken_of
returns-in-Pref c = rw (sym c.in-Pref.ensures) c.put_pref.ensures

pub returns-in-Init : goal.returns-in-Init
unfolding broken_of
returns-in-Init c = rw (sym c.in-Init.ensures) c.put_init.ensures

pub returns-in-Anti : goal.returns-in-Anti
unfolding broken_of
returns-in-Anti c = rw (sym c.in-Anti.ensures) c.put_anti.ensures

pub returns-in-Implies : goal.returns-in-Implies
unfolding broken_of
returns-in-Implies c = rw (sym c.in-Implies.ensures) c.put_implies.ensures

pub returns-in-Follows : goal.returns-in-Follows
unfolding broken_of
returns-in-Follows c = rw (sym c.in-Follows.ensures) c.put_follows.ensures

pub returns-in-Triggers : goal.returns-in-Triggers
unfolding broken_of
returns-in-Triggers c = rw (sym c.in-Triggers.ensures) c.put_triggers.ensures
