-- `stored::sheet::clause_part` meets its contract.
use Rattle.std.proofs.Common.{arith}
use Rattle.stored.proofs.Accepted.{answer_accepted, sizes}
use Rattle.stored.specs.Sheet.{clause_part}
use Rattle.stored.proofs.sheet.clause_part.Goals as goal

pub nodes_end-start-requires : goal.nodes_end-start-requires
nodes_end-start-requires c = omega (arith, sizes _ _ c.requires)

pub clauses_end-end-requires : goal.clauses_end-end-requires
clauses_end-end-requires c = let known = sizes _ _ c.requires in (omega arith, omega arith)

pub slice_bounds-result-count : goal.slice_bounds-result-count
slice_bounds-result-count c = omega (arith, c.nodes_end-start.ensures, c.clauses_end-end.ensures)

pub slice_bounds-result-start : goal.slice_bounds-result-start
slice_bounds-result-start c = omega (arith, c.nodes_end-start.ensures, c.clauses_end-end.ensures)

pub slice_bounds-result-end : goal.slice_bounds-result-end
slice_bounds-result-end c = omega (arith, sizes _ _ c.requires, c.clauses_end-end.ensures)

pub returns : goal.returns
unfolding clause_part
returns c = rw ((answer_accepted _ _ c.requires).1, c.clauses_end-end.ensures, c.nodes_end-start.ensures)
