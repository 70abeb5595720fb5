-- `tables::fill::put_node` meets its contract.
use Rattle.std.proofs.Common.{◌≡◌, sym, ◌∙◌, ap, Some, arith, take, length-set, get_or-set_same}
use Rattle.stored.specs.declared.Node.{Node}
use Rattle.stored.specs.Node.{proposition, formula}
use Rattle.stored.specs.Tree.{proposition_op}
use Rattle.tables.specs.Step.{column_of}
use Rattle.tables.proofs.Nodes.{proposition_sort, formula_sort, own_long, proposition_read, formula_read}
use Rattle.tables.proofs.Fills.{before_part, column_law, rows_right, filled_part}
use Rattle.tables.proofs.fill.put_node.Goals as goal
use Rattle.tables.proofs.fill.put_node.Goals.{in_default-via-in-Some+in_default, in_default-via-in_default}

pub slice_bounds-own-end-2 : goal.slice_bounds-own-end-2
slice_bounds-own-end-2 c =
    let split = c.split_at_mut-before in
    omega (arith, own_long c.requires.given c.args.i split.result.1.now c.requires.known_node split.ensures.back_len)

pub proposition-requires-clause-usable : goal.proposition-requires-clause-usable
proposition-requires-clause-usable c =
    let q = c.requires in
    let i = c.args.i in
    let x = c.node_at-x in
    (proposition_read q.given i x.result q.known_node x.ensures (proposition_sort q.given i _ x.result x.ensures c.sort_of.ensures (c.in-Some-Proposition.is ∙ ap Some c.in-Some-Proposition.field-0-is))).0

pub proposition-requires-clause-known_op : goal.proposition-requires-clause-known_op
proposition-requires-clause-known_op c =
    let q = c.requires in
    let g = q.given in
    let i = c.args.i in
    let x = c.node_at-x in
    let ops = (proposition_read g i x.result q.known_node x.ensures (proposition_sort g i _ x.result x.ensures c.sort_of.ensures (c.in-Some-Proposition.is ∙ ap Some c.in-Some-Proposition.field-0-is))).1 in
    omega (arith, ops, g.few_cycles, g.columned.all, c.split_at_mut-before.ensures.front_len)

pub put_rows-requires-clause-usable : goal.put_rows-requires-clause-usable
put_rows-requires-clause-usable c =
    let q = c.requires in
    let i = c.args.i in
    let x = c.node_at-x in
    (formula_read q.given i x.result q.known_node x.ensures (formula_sort q.given i _ x.result q.known_node x.ensures c.sort_of.ensures (λ e. elim c.in_default.branch [ in_default-via-in-Some+in_default w ↦ cc | in_default-via-in_default w ↦ cc ]))).0

pub put_rows-requires-clause-known_op : goal.put_rows-requires-clause-known_op
put_rows-requires-clause-known_op c =
    let q = c.requires in
    let i = c.args.i in
    let x = c.node_at-x in
    let ops = (formula_read q.given i x.result q.known_node x.ensures (formula_sort q.given i _ x.result q.known_node x.ensures c.sort_of.ensures (λ e. elim c.in_default.branch [ in_default-via-in-Some+in_default w ↦ cc | in_default-via-in_default w ↦ cc ]))).1 in
    omega (arith, ops, q.given.few_cycles)

pub put_rows-requires-clause-long_enough : goal.put_rows-requires-clause-long_enough
put_rows-requires-clause-long_enough c =
    let g = c.requires.given in
    let split = c.split_at_mut-before in
    omega (arith, g.columned.all, split.ensures.front_len, own_long g c.args.i split.result.1.now c.requires.known_node split.ensures.back_len)

pub returns-in-Some-Proposition : goal.returns-in-Some-Proposition
returns-in-Some-Proposition c =
    let a = c.args in
    let q = c.requires in
    let g = q.given in
    let x = c.node_at-x in
    let split = c.split_at_mut-before in
    let first = split.result.0.now in
    let rest = split.result.1.now in
    let own = take 64 rest in
    let long = own_long g a.i rest q.known_node split.ensures.back_len in
    let sort = proposition_sort g a.i _ x.result x.ensures c.sort_of.ensures (c.in-Some-Proposition.is ∙ ap Some c.in-Some-Proposition.field-0-is) in
    let value =
    c.proposition.ensures
    ∙ ap (λ (y : Node). column_of (proposition_op y.op) y a.n a.columns.now first) x.ensures
    ∙ column_law g a.i q.known_node first (before_part g.few_cycles a.i a.words.now first split.ensures.front q.before) sort in
    filled_part g.few_cycles a.i a.words.now first _ rest (omega (arith, g)) (length-set own 0 _ ∙ long) split.ensures.front split.ensures.back
    (λ s. let other : formula ≡ proposition = sym s ∙ sort in cc) (λ s. get_or-set_same own 0 _ 0 (omega arith) ∙ value)

pub returns-in_default : goal.returns-in_default
returns-in_default c =
    let a = c.args in
    let q = c.requires in
    let g = q.given in
    let x = c.node_at-x in
    let split = c.split_at_mut-before in
    let first = split.result.0.now in
    let rest = split.result.1.now in
    let rows = c.put_rows in
    let sort = formula_sort g a.i _ x.result q.known_node x.ensures c.sort_of.ensures (λ e. elim c.in_default.branch [ in_default-via-in-Some+in_default w ↦ cc | in_default-via-in_default w ↦ cc ]) in
    filled_part g.few_cycles a.i a.words.now first rows.new.own rest (omega (arith, g)) (rows.auto.own ∙ own_long g a.i rest q.known_node split.ensures.back_len) split.ensures.front split.ensures.back
    (λ s. rows_right g a.i q.known_node x.result first rows.new.own x.ensures sort (before_part g.few_cycles a.i a.words.now first split.ensures.front q.before) rows.ensures)
    (λ s. let other : formula ≡ proposition = sym sort ∙ s in cc)
