-- `text::clause::parts` meets its contract; there is one part fewer to read at each call of itself.
use Rattle.text.proofs.clause.+parts.Given as goal

abbrev pub decreases-parts : goal.decreases-parts
decreases-parts l = l.more
