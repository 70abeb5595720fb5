-- A drafted formula, and the one that is written: its nodes that the root reaches, in their order.
use Rattle.std.specs.Prelude.{ℕ, ◌+◌, ◌≤◌, ◌<◌, Bool, true, false, cond, ◌&&◌, List, ◌≡◌, ltb, length, get_or, set}
use Rattle.stored.specs.declared.Node.{Node}
use Rattle.stored.specs.declared.nodes.Use.{Use}
use Rattle.stored.specs.Node.{proposition, formula, emitted_sorts, sort_of, is_operand, a_use, b_use}
use Rattle.stored.specs.Tree.{proposition_at, formula_at}
use Rattle.stored.specs.Reached.{has_operand, Reached}
use Rattle.stored.specs.Sheet.{header_of}
use Rattle.stored.specs.Written.{node_in}
use Rattle.plans.specs.Emission.{count, Good, Step, HasProposition, Has}

-- ---- marks, one a node: true where the root reaches it
abbrev pub Live : List Bool → ℕ → Type 0
Live marks i = get_or marks i false ≡ true

-- the marks with that of a field of value v, used so
unfoldable pub marked : List Bool → Use → ℕ → List Bool
marked marks what v = cond (is_operand what && ltb v (length marks)) (set marks v true) marks

-- and with those of the operands of n
unfoldable pub marked_node : List Bool → Node → List Bool
marked_node marks n = marked (marked marks (a_use n.op) n.a) (b_use n.op) n.b

-- a marked node up to the root has node k as an operand
pub record Parent (x : ℕ → Node) (root : ℕ) (marks : List Bool) (k : ℕ) : Type 0 where
  pub node : ℕ
  pub most : node ≤ root
  pub live : Live marks node
  pub operand : has_operand (x node) k ≡ true

-- the root is marked, and nothing else but operands of marked nodes; those of the marked nodes from i on are
pub record MarkedFrom (x : ℕ → Node) (root i : ℕ) (marks : List Bool) : Type 0 where
  pub inside : root < length marks
  pub root_live : Live marks root
  pub closed : (p k : ℕ) → i ≤ p → p ≤ root → Live marks p → has_operand (x p) k ≡ true → Live marks k
  pub parented : (k : ℕ) → Live marks k → (k ≡ root → ⊥) → Parent x root marks k

-- ---- the nodes kept
-- node r is what node i of x is
pub record Same (x : ℕ → Node) (i : ℕ) (y : List ℕ) (r : ℕ) : Type 0 where
  pub proposition : sort_of emitted_sorts (x i).op ≡ proposition → HasProposition y r (proposition_at x i)
  pub formula : sort_of emitted_sorts (x i).op ≡ formula → Has y r (formula_at x i)

-- x became y by the nodes of d that its root reaches, of which the last is r
pub record PrunedTo (d : List ℕ) (root : ℕ) (x y : List ℕ) (r : ℕ) : Type 0 where
  pub step : Step x y (root + 1)
  pub last : count y ≡ r + 1
  pub same : Same (node_in d) root y r
  pub reached : (z : ℕ → Node) → ((i : ℕ) → i < count y → z i ≡ node_in y i) → (j : ℕ) → j < count y → Reached z r j

-- a formula that is drafted, and bytes for it that have a header and no node
pub record Drafted (d : List ℕ) (root : ℕ) (x : List ℕ) : Type 0 where
  pub good : Good d
  pub last : count d ≡ root + 1
  pub new : Good x
  pub none : count x ≡ 0
  pub signals : (header_of x).signals ≡ (header_of d).signals
  pub names : (header_of x).names ≡ (header_of d).names
