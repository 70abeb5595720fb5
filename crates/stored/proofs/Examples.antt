-- Document 01's example sheet, and sheets that are refused.
use Rattle.std.proofs.Common.{ℕ, List, [], ◌∷◌, ◌≡◌, refl, set}
use Rattle.semantics.specs.Proposition.{signal, bit}
use Rattle.semantics.specs.Formula.{point}
use Rattle.semantics.specs.Reach.{within, proposition_within}
use Rattle.stored.specs.Bytes.{word, framed_from, every_below, in_order, lowest}
use Rattle.stored.specs.Node.{node_at, same_sort, sort_of, q_use, a_use, b_use, field_right, fields_right, node_right, sort_below, operand_right, operands_right, is_formula_node}
use Rattle.stored.specs.Tree.{pick, earlier, deep, made, proposition_op, formula_op, proposition_of, proposition_step, proposition_at, formula_of, formula_step, formula_at}
use Rattle.stored.specs.Clause.{stored_at, parts_used, part_right, clause_right, part_named, clause_named, clause_right_at, clause_named_at}
use Rattle.stored.specs.Sheet.{header_of, node_part, clause_part, nodes_of, stored_of, framed, versioned, of_kind_one, counted, sized, nodes_right, operands_found, clauses_right, clauses_named, sheet_rules, sheet_refusal}

unfoldable computing : ℕ
unfolding word framed_from every_below in_order lowest node_at same_sort sort_of q_use a_use b_use field_right fields_right node_right sort_below operand_right operands_right is_formula_node pick earlier deep made proposition_op formula_op proposition_of proposition_step proposition_at formula_of formula_step formula_at stored_at parts_used part_right clause_right part_named clause_named clause_right_at clause_named_at header_of node_part clause_part nodes_of stored_of framed versioned of_kind_one counted sized nodes_right operands_found clauses_right clauses_named sheet_rules sheet_refusal within proposition_within bit
computing = 0

abbrev sheet : List ℕ
sheet =
    0 ∷ 30 ∷ 1 ∷ 1 ∷ 1 ∷ 0 ∷ 0 ∷ 2 ∷ 1
    ∷ 3 ∷ 0 ∷ 0 ∷ 0 ∷ 0 ∷ 0
    ∷ 16 ∷ 0 ∷ 0 ∷ 0 ∷ 0 ∷ 0
    ∷ 3 ∷ 1 ∷ 0 ∷ 1 ∷ 0 ∷ 0 ∷ 0 ∷ 0 ∷ 0 ∷ 0 ∷ 0 ∷ []

sheet_accepted : sheet_refusal sheet ≡ 0
unfolding computing
sheet_accepted = refl

sheet_formula : formula_at (nodes_of sheet) 1 ≡ point (signal 0)
unfolding computing
sheet_formula = refl

-- version, then kind; a signal out of range; an operand that is the node itself; an unused mask
lowest_of_two : sheet_refusal (set (set sheet 2 7) 3 7) ≡ 2
unfolding computing
lowest_of_two = refl

signal_refused : sheet_refusal (set sheet 12 1) ≡ 6
unfolding computing
signal_refused = refl

operand_refused : sheet_refusal (set sheet 18 1) ≡ 7
unfolding computing
operand_refused = refl

mask_refused : sheet_refusal (set sheet 30 1) ≡ 8
unfolding computing
mask_refused = refl

name_refused : sheet_refusal (set sheet 29 1) ≡ 9
unfolding computing
name_refused = refl
