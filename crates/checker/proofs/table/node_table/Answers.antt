-- `checker::table::node_table` meets its contract.
use Rattle.std.proofs.Common.{refl, sym, ap, ◌∙◌, Ok, arith, ℕ, List, get_or}
use Rattle.stored.specs.Node.{formula, node_at, requirement_sorts, is_formula_node}
use Rattle.traces.specs.Columns.{trace_of}
use Rattle.stored.proofs.Sorts.{same_sort-true}
use Rattle.stored.proofs.Tree.{sort_below_lem}
use Rattle.tables.specs.Table.{standing}
use Rattle.checker.specs.Table.{placement_of, table_of, node_refusal}
use Rattle.checker.proofs.Refusals.{answers_refused, answers_value, node_16, node_17, node_right_lem, names_inside}
use Rattle.checker.proofs.table.node_table.Goals as goal

pub is_formula_node-requires : goal.is_formula_node-requires
is_formula_node-requires c = omega (arith, c.requires.nodes_long)

pub returns-then-not-is_formula_node : goal.returns-then-not-is_formula_node
unfolding placement_of
returns-then-not-is_formula_node c =
    let a = c.args in
    let x = node_at a.nodes.now in
    let z = answers_refused _ (table_of x (trace_of a.n a.columns.now) a.node (placement_of a.m (get_or a.given 0 0) (get_or a.given 1 0) (get_or a.given 2 0))) a.words.now _
    (node_16 x a.count a.n a.m a.node (get_or a.given 0 0) (get_or a.given 1 0) (get_or a.given 2 0) (sym c.is_formula_node.ensures ∙ c.if-not-is_formula_node.true)) in
    record { value = z.given; words_after = z.left }

pub returns-then-not-names_placed : goal.returns-then-not-names_placed
unfolding placement_of
returns-then-not-names_placed c =
    let a = c.args in
    let x = node_at a.nodes.now in
    let z = answers_refused _ (table_of x (trace_of a.n a.columns.now) a.node (placement_of a.m (get_or a.given 0 0) (get_or a.given 1 0) (get_or a.given 2 0))) a.words.now _
    (node_17 x a.count a.n a.m a.node (get_or a.given 0 0) (get_or a.given 1 0) (get_or a.given 2 0) (sym c.is_formula_node.ensures ∙ c.if-not-is_formula_node.false)
    (sym c.names_placed.ensures ∙ c.if-not-names_placed.true)) in
    record { value = z.given; words_after = z.left }

pub rows_of-requires : goal.rows_of-requires
unfolding is_formula_node
rows_of-requires c =
    let a = c.args in
    let g = c.requires in
    let inside = names_inside a.m a.n (get_or a.given 0 0) (get_or a.given 1 0) (get_or a.given 2 0) g.some_cycles (sym c.names_placed.ensures ∙ c.if-not-names_placed.false) in
    let found = sym c.is_formula_node.ensures ∙ c.if-not-is_formula_node.false in
    let node = sort_below_lem requirement_sorts (node_at a.nodes.now) a.count a.node formula refl (same_sort-true _ formula found) in
    record { given = (g, rw c.heed_all.ensures inside); known_node = (node.less, node.sorted) }

pub returns : goal.returns
unfolding placement_of
returns c =
    let a = c.args in
    let x = node_at a.nodes.now in
    let r = c.rows_of.ensures in
    let z = answers_value (node_refusal x a.count a.n a.m a.node (get_or a.given 0 0) (get_or a.given 1 0) (get_or a.given 2 0)) (table_of x (trace_of a.n a.columns.now) a.node (placement_of a.m (get_or a.given 0 0) (get_or a.given 1 0) (get_or a.given 2 0))) a.words.now
    (node_right_lem x a.count a.n a.m a.node (get_or a.given 0 0) (get_or a.given 1 0) (get_or a.given 2 0) (sym c.is_formula_node.ensures ∙ c.if-not-is_formula_node.false)
    (sym c.names_placed.ensures ∙ c.if-not-names_placed.false)) in
    let found = r.value ∙ ap (λ (l : List ℕ). table_of x (trace_of a.n a.columns.now) a.node (standing l)) c.heed_all.ensures in
    record { value = ap Ok found ∙ z.given; words_after = r.words_after ∙ z.left }
