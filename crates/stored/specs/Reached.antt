-- Which nodes the root of an emitted formula reaches, and under which quantifiers.
use Rattle.std.specs.Prelude.{ℕ, Bool, true, ◌&&◌, ◌||◌, ◌≡◌, eqb}
use Rattle.semantics.specs.Placement.{Names, no_names}
use Rattle.semantics.specs.Reach.{with}
use Rattle.stored.specs.declared.Node.{Node}
use Rattle.stored.specs.declared.nodes.Use.{Use}
use Rattle.stored.specs.Node.{is_operand, a_use, b_use}
use Rattle.stored.specs.Tree.{pick}

-- a field of value v, used so, is node i
unfoldable pub is_node : Use → ℕ → ℕ → Bool
is_node what v i = is_operand what && eqb v i

-- node i is an operand of n
unfoldable pub has_operand : Node → ℕ → Bool
has_operand n i = is_node (a_use n.op) n.a i || is_node (b_use n.op) n.b i

-- node r reaches itself and the operands of what it reaches
pub data Reached (x : ℕ → Node) (r : ℕ) : ℕ → Type 0 where
  itself : Reached x r r
  operand : {j i : ℕ} → Reached x r j → has_operand (x j) i ≡ true → Reached x r i

-- the names quantified over the operands of n, where those of K are over n
unfoldable pub under : Node → Names → Names
under n K = pick (eqb n.op 31) (with n.b K) K

-- a way from node r down to a node, with the names that are quantified on it
pub data Way (x : ℕ → Node) (r : ℕ) : Names → ℕ → Type 0 where
  start : Way x r no_names r
  down : {K : Names} {j i : ℕ} → Way x r K j → has_operand (x j) i ≡ true → Way x r (under (x j) K) i

-- some way
pub record SomeWay (x : ℕ → Node) (r i : ℕ) : Type 0 where
  pub names : Names
  pub way : Way x r names i
