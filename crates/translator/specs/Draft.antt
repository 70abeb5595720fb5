-- What the functions of the translator promise one another.
use Rattle.std.specs.Prelude.{ℕ, ◌+◌, ◌≤◌, List, ◌≡◌}
use Rattle.semantics.specs.Translation.{translation}
use Rattle.stored.specs.Sheet.{header_of, clauses_of}
use Rattle.plans.specs.Bound.{node_bound}
use Rattle.plans.specs.Emission.{count, Good, Has}

-- y is a formula for sheet s, with root r and perhaps nodes that r does not reach
pub record DraftOf (s y : List ℕ) (r : ℕ) : Type 0 where
  pub good : Good y
  pub last : count y ≡ r + 1
  pub signals : (header_of y).signals ≡ (header_of s).signals
  pub names : (header_of y).names ≡ (header_of s).names
  pub bound : count y ≤ node_bound s
  pub has : Has y r (translation (clauses_of s))
