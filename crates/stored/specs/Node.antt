-- Document 01, "The stored sheet": a node's fields, what each op uses them for, and rules 6 and 7 at one node.
use Rattle.std.specs.Prelude.{ℕ, ◌+◌, ◌*◌, ◌/◌, ◌%◌, Bool, true, false, not, cond, ◌&&◌, ◌||◌, List, [], ◌∷◌, leb, ltb, eqb, get_or, Option, Some, None}
use Rattle.stored.specs.declared.Node.{Node}
use Rattle.std.specs.Option.{is_some}
use Rattle.stored.specs.declared.nodes.Sort.{Sort}
use Rattle.stored.specs.declared.nodes.Sort.TheVariants.{Proposition, Formula}
use Rattle.stored.specs.declared.nodes.Use.{Use}
use Rattle.stored.specs.declared.nodes.Use.TheVariants.{Nothing, Signal, Name, Comparison, Symbol, TwoNames, Number, PropositionNode, FormulaNode}
use Rattle.stored.specs.Bytes.{word}
use Rattle.stored.specs.Layout.{node_size}

-- node i of a node area
unfoldable pub node_at : List ℕ → ℕ → Node
node_at l i =
    record {
      op = get_or l (node_size * i) 0;
      q = get_or l (node_size * i + 1) 0;
      a = word l (node_size * i + 2);
      b = word l (node_size * i + 4);
    }

-- The sort of a node goes by its op, and by the kind of the sheet.
abbrev pub proposition : Option Sort
proposition = Some Proposition

abbrev pub formula : Option Sort
formula = Some Formula

-- what is no op of that kind
abbrev pub no_op : Option Sort
no_op = None

unfoldable pub same_sort : Option Sort → Option Sort → Bool
same_sort None None = true
same_sort (Some Proposition) (Some Proposition) = true
same_sort (Some Formula) (Some Formula) = true
same_sort _ _ = false

-- by op, from 0 to 31; kind 1 has no 30 and 31, kind 2 no 27 to 29
abbrev pub requirement_sorts : List (Option Sort)
requirement_sorts =
    no_op ∷ proposition ∷ proposition ∷ proposition ∷ proposition ∷ proposition ∷ proposition ∷ proposition
    ∷ no_op ∷ no_op ∷ no_op ∷ no_op ∷ no_op ∷ no_op ∷ no_op ∷ no_op
    ∷ formula ∷ formula ∷ formula ∷ formula ∷ formula ∷ formula ∷ formula ∷ formula
    ∷ formula ∷ formula ∷ formula ∷ formula ∷ formula ∷ formula ∷ no_op ∷ no_op ∷ []

abbrev pub emitted_sorts : List (Option Sort)
emitted_sorts =
    no_op ∷ proposition ∷ proposition ∷ proposition ∷ proposition ∷ proposition ∷ proposition ∷ proposition
    ∷ no_op ∷ no_op ∷ no_op ∷ no_op ∷ no_op ∷ no_op ∷ no_op ∷ no_op
    ∷ formula ∷ formula ∷ formula ∷ formula ∷ formula ∷ formula ∷ formula ∷ formula
    ∷ formula ∷ formula ∷ formula ∷ no_op ∷ no_op ∷ no_op ∷ formula ∷ formula ∷ []

unfoldable pub sort_of : List (Option Sort) → ℕ → Option Sort
sort_of sorts op = get_or sorts op no_op

-- What an op uses a field for, by op from 0 to 31.
abbrev pub q_uses : List Use
q_uses =
    Nothing ∷ Nothing ∷ Nothing ∷ Nothing ∷ Nothing ∷ Nothing ∷ Nothing ∷ Nothing
    ∷ Nothing ∷ Nothing ∷ Nothing ∷ Nothing ∷ Nothing ∷ Nothing ∷ Nothing ∷ Nothing
    ∷ Nothing ∷ Nothing ∷ Nothing ∷ Nothing ∷ Nothing ∷ Nothing ∷ Nothing ∷ Nothing
    ∷ Comparison ∷ Comparison ∷ Comparison ∷ Symbol ∷ Nothing ∷ TwoNames ∷ Nothing ∷ Nothing ∷ []

abbrev pub a_uses : List Use
a_uses =
    Nothing ∷ Nothing ∷ Nothing ∷ Signal ∷ Name ∷ PropositionNode ∷ PropositionNode ∷ PropositionNode
    ∷ Nothing ∷ Nothing ∷ Nothing ∷ Nothing ∷ Nothing ∷ Nothing ∷ Nothing ∷ Nothing
    ∷ PropositionNode ∷ PropositionNode ∷ PropositionNode ∷ PropositionNode ∷ FormulaNode ∷ FormulaNode ∷ FormulaNode ∷ FormulaNode
    ∷ Nothing ∷ PropositionNode ∷ PropositionNode ∷ Signal ∷ Name ∷ Number ∷ FormulaNode ∷ FormulaNode ∷ []

abbrev pub b_uses : List Use
b_uses =
    Nothing ∷ Nothing ∷ Nothing ∷ Nothing ∷ Nothing ∷ Nothing ∷ PropositionNode ∷ PropositionNode
    ∷ Nothing ∷ Nothing ∷ Nothing ∷ Nothing ∷ Nothing ∷ Nothing ∷ Nothing ∷ Nothing
    ∷ Nothing ∷ Nothing ∷ Nothing ∷ Nothing ∷ FormulaNode ∷ FormulaNode ∷ FormulaNode ∷ Nothing
    ∷ Number ∷ Number ∷ Number ∷ Nothing ∷ Nothing ∷ Number ∷ Nothing ∷ Name ∷ []

unfoldable pub q_use : ℕ → Use
q_use op = get_or q_uses op Nothing

unfoldable pub a_use : ℕ → Use
a_use op = get_or a_uses op Nothing

unfoldable pub b_use : ℕ → Use
b_use op = get_or b_uses op Nothing

-- a field used so is the number of a node
unfoldable pub is_operand : Use → Bool
is_operand PropositionNode = true
is_operand FormulaNode = true
is_operand _ = false

-- a field of value v, used so, on a sheet of s signals and m names: zero if unused, in range if used
unfoldable pub field_right : ℕ → ℕ → Use → ℕ → Bool
field_right s m Nothing v = eqb v 0
field_right s m Signal v = ltb v s
field_right s m Name v = ltb v m
field_right s m Comparison v = ltb v 5
field_right s m Symbol v = ltb v 8
field_right s m TwoNames v = ltb (v / 16) m && ltb (v % 16) m
field_right s m _ v = true

-- Rule 6 at one node: its op is one of the kind, its fields are right, and a gap has a ≤ b.
unfoldable pub fields_right : List (Option Sort) → ℕ → ℕ → Node → Bool
fields_right sorts s m n =
    is_some (sort_of sorts n.op)
    && (field_right s m (q_use n.op) n.q
    && (field_right s m (a_use n.op) n.a
    && (field_right s m (b_use n.op) n.b && (not (eqb n.op 29) || leb n.a n.b))))

unfoldable pub node_right : List (Option Sort) → ℕ → ℕ → (ℕ → Node) → ℕ → Bool
node_right sorts s m x i = fields_right sorts s m (x i)

-- the sort of node v where v is below i, else none
unfoldable pub sort_below : List (Option Sort) → (ℕ → Node) → ℕ → ℕ → Option Sort
sort_below sorts x i v = cond (ltb v i) (sort_of sorts (x v).op) no_op

-- field v of node i, used so, is an earlier node of the sort needed if it has to be one
unfoldable pub operand_right : List (Option Sort) → (ℕ → Node) → ℕ → Use → ℕ → Bool
operand_right sorts x i PropositionNode v = same_sort (sort_below sorts x i v) proposition
operand_right sorts x i FormulaNode v = same_sort (sort_below sorts x i v) formula
operand_right sorts x i _ v = true

-- Rule 7 at one node.
unfoldable pub operands_right : List (Option Sort) → (ℕ → Node) → ℕ → Bool
operands_right sorts x i =
    operand_right sorts x i (a_use (x i).op) (x i).a && operand_right sorts x i (b_use (x i).op) (x i).b

-- node i is one of the n, and a formula
unfoldable pub is_formula_node : List (Option Sort) → (ℕ → Node) → ℕ → ℕ → Bool
is_formula_node sorts x n i = same_sort (sort_below sorts x n i) formula
