-- The sheet's nodes, as they are copied.
use Rattle.std.specs.Prelude.{ℕ, ◌+◌, ◌*◌, ◌≤◌, ◌<◌, true, false, cond, List, ◌≡◌, length}
use Rattle.semantics.specs.Proposition.{Proposition, never}
use Rattle.semantics.specs.Formula.{Formula}
use Rattle.semantics.specs.Cycles.{count_below}
use Rattle.semantics.specs.Translation.{nothing, undrawn}
use Rattle.stored.specs.declared.Node.{Node}
use Rattle.stored.specs.declared.nodes.Use.{Use}
use Rattle.stored.specs.Layout.{node_size, most_nodes}
use Rattle.stored.specs.Node.{proposition, formula, requirement_sorts, sort_of, a_use, b_use, is_operand, node_at, fields_right, operands_right}
use Rattle.stored.specs.Tree.{proposition_at, formula_op, formula_of, formula_at}
use Rattle.stored.specs.Reach.{entry_of}
use Rattle.stored.specs.Sheet.{header_of}
use Rattle.stored.specs.Written.{NodeFits}
use Rattle.plans.specs.Bound.{is_drawing, drawing_at}
use Rattle.plans.specs.Emission.{HasProposition, Has}
use Rattle.plans.specs.Plan.{Put, Wrote}

-- node r stands for node i of the sheet, its drawings told by other formulas
pub record Stands (x : ℕ → Node) (i : ℕ) (y : List ℕ) (r : ℕ) : Type 0 where
  pub proposition : sort_of requirement_sorts (x i).op ≡ proposition → HasProposition y r (proposition_at x i)
  pub formula : sort_of requirement_sorts (x i).op ≡ formula → Has y r (undrawn (formula_at x i))

-- the map gives the nodes that stand for the first i
abbrev pub Mapped : (ℕ → Node) → ℕ → List ℕ → List ℕ → Type 0
Mapped x i y map = (k : ℕ) → k < i → Stands x k y (entry_of map k)

-- a field of value v, used so, in the copy
unfoldable pub mapped_to : List ℕ → Use → ℕ → ℕ
mapped_to map what v = cond (is_operand what) (entry_of map v) v

unfoldable pub copied_node : List ℕ → Node → Node
copied_node map n =
    record { op = n.op; q = n.q; a = mapped_to map (a_use n.op) n.a; b = mapped_to map (b_use n.op) n.b }

-- a drawing has no operands
unfoldable pub no_propositions : ℕ → Proposition
no_propositions i = never

unfoldable pub no_formulas : ℕ → Formula
no_formulas i = nothing

unfoldable pub drawing_of : Node → Formula
drawing_of n = undrawn (formula_of (formula_op n.op) n no_propositions no_formulas)

-- x became y by the copy of node n, which is node r: told by other formulas where it is a drawing
pub data Copied (map : List ℕ) (n : Node) (x y : List ℕ) (r : ℕ) : Type 0 where
  by_others : is_drawing n ≡ true → NodeFits n → Wrote x y r (drawing_of n) → Copied map n x y r
  itself : is_drawing n ≡ false → NodeFits n → Put (copied_node map n) x y r → Copied map n x y r

-- the most nodes a copy takes; the first i nodes together
unfoldable pub copy_cost : Node → ℕ
copy_cost n = cond (is_drawing n) 12 1

unfoldable pub copy_costs : (ℕ → Node) → ℕ → ℕ
copy_costs x i = i + 11 * count_below i (drawing_at x)

-- the nodes of a sheet that rules 6 and 7 take
pub record NodesIn (y : List ℕ) (nodes : List ℕ) (n : ℕ) : Type 0 where
  pub few : n ≤ most_nodes
  pub inside : node_size * n ≤ length nodes
  pub fields : (i : ℕ) → i < n → fields_right requirement_sorts (header_of y).signals (header_of y).names (node_at nodes i) ≡ true
  pub operands : (i : ℕ) → i < n → operands_right requirement_sorts (node_at nodes) i ≡ true
