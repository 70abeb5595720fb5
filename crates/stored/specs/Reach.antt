-- The names that a node of a kind 1 sheet reaches, as a mask: bit u is name u. The laws say that they are the names of its tree.
use Rattle.std.specs.Prelude.{ℕ, ◌/◌, ◌%◌, Bool, not, ◌&&◌, ◌||◌, List, [], ◌∷◌, get_or}
use Rattle.std.specs.Int.Bits.{bit_or}
use Rattle.semantics.specs.Proposition.{bit}
use Rattle.semantics.specs.Placement.{Names}
use Rattle.stored.specs.declared.Node.{Node}
use Rattle.stored.specs.declared.nodes.Use.{Use}
use Rattle.stored.specs.declared.nodes.Use.TheVariants.{Name, TwoNames, PropositionNode, FormulaNode}
use Rattle.stored.specs.Bytes.{in_order}
use Rattle.stored.specs.Layout.{most_nodes}
use Rattle.stored.specs.Node.{q_use, a_use, b_use}
use Rattle.stored.specs.Tree.{earlier, made}

unfoldable pub joint : ℕ → ℕ → ℕ
joint r t = bit_or r t

unfoldable pub name_mask : ℕ → ℕ
name_mask u = get_or (1 ∷ 2 ∷ 4 ∷ []) u 0

-- what a field of value v adds, used so, where r gives the masks of earlier nodes
unfoldable pub field_reach : (ℕ → ℕ) → Use → ℕ → ℕ
field_reach r Name v = name_mask v
field_reach r TwoNames v = joint (name_mask (v / 16)) (name_mask (v % 16))
field_reach r PropositionNode v = r v
field_reach r FormulaNode v = r v
field_reach r _ v = 0

unfoldable pub node_reach : (ℕ → ℕ) → Node → ℕ
node_reach r n =
    joint
    (field_reach r (q_use n.op) n.q)
    (joint (field_reach r (a_use n.op) n.a) (field_reach r (b_use n.op) n.b))

unfoldable pub reach_step : (ℕ → Node) → ℕ → (ℕ → ℕ) → ℕ
reach_step x i r = node_reach r (x i)

unfoldable pub reach_at : (ℕ → Node) → ℕ → ℕ
reach_at x i = made 0 (reach_step x) i

-- the set has every name of the mask
unfoldable pub covers : ℕ → Names → Bool
covers r names = (not (bit r 0) || names 0) && ((not (bit r 1) || names 1) && (not (bit r 2) || names 2))

-- the masks of the first n nodes, in a table for the most that there can be
unfoldable pub reach_table : (ℕ → Node) → ℕ → List ℕ
reach_table x n = in_order most_nodes (earlier n 0 (reach_at x))

unfoldable pub entry_of : List ℕ → ℕ → ℕ
entry_of table i = get_or table i 0
