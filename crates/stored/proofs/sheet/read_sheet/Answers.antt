-- `stored::sheet::read_sheet` meets its contract.
use Rattle.std.proofs.Common.{rules, ◌≡◌, sym, ◌∙◌, ap, arith, true, eq-eqb, ne_eqb, Ok}
use Rattle.stored.specs.Sheet.{header_of, node_part, clause_part, nodes_of, stored_of, framed, versioned, of_kind_one, counted, sized, nodes_right, operands_found, clauses_right, clauses_named}
use Rattle.stored.proofs.Accepted.{Counts, counts}
use Rattle.stored.proofs.Answer.{Framed, Sized, framed_long, covered_named, refused1, refused2, refused3, refused4, refused5, refused6, refused7, refused8, refused9, accepted}
use Rattle.stored.proofs.sheet.read_sheet.Lts as lts
use Rattle.stored.proofs.sheet.read_sheet.Tie as tie
use Rattle.stored.proofs.sheet.read_sheet.Reads as reads
use Rattle.stored.proofs.sheet.read_sheet.Goals as goal

-- what is known past each test
rule1 : (c : lts.Else1 tie.the-claims reads.Pre reads.Post) → framed c.before.before.before.args.sheet.now ≡ true
unfolding framed
rule1 c = sym c.before.is_framed.ensures ∙ c.if-not-is_framed.false

rule2 : (c : lts.Else2 tie.the-claims reads.Pre reads.Post) → versioned c.before.before.before.before.before.args.sheet.now ≡ true
unfolding versioned
rule2 c = eq-eqb _ 1 (sym c.before.byte.ensures.0 ∙ c.if-byte-ne1.false)

frame : (c : lts.Else3 tie.the-claims reads.Pre reads.Post) → Framed c.before.before.before.before.before.before.before.args.sheet.now
unfolding of_kind_one
frame c =
    record {
      rule1 = rule1 c.before.before.before.before;
      rule2 = rule2 c.before.before;
      rule3 = eq-eqb _ 1 (sym c.before.byte-2.ensures.0 ∙ c.if-byte-ne-REQUIREMENT.false);
    }

told4 : (c : lts.After-counts_ok tie.the-claims reads.Pre reads.Post) → counted (header_of c.before.before.before.before.before.before.before.before.before.args.sheet.now) ≡ c.counts_ok.result
told4 c = ap counted (sym c.before.header-h.ensures) ∙ sym c.counts_ok.ensures

rule4 : (c : lts.Else4 tie.the-claims reads.Pre reads.Post) → counted (header_of c.before.before.before.before.before.before.before.before.before.before.args.sheet.now) ≡ true
rule4 c = told4 c.before ∙ c.if-not-counts_ok.false

known : (c : lts.Else4 tie.the-claims reads.Pre reads.Post) → Counts c.before.before.header-h.result
known c = counts c.before.before.header-h.result (sym c.before.counts_ok.ensures ∙ c.if-not-counts_ok.false)

size : (c : lts.Else5 tie.the-claims reads.Pre reads.Post) → Sized c.before.before.before.before.before.before.before.before.before.before.before.before.before.args.sheet.now
unfolding sized
size c =
    record {
      frame = frame c.before.before.before.before.before.before;
      rule4 = rule4 c.before.before.before;
      rule5 = rw (← c.before.before.before.before.before.header-h.ensures) (eq-eqb _ _ (c.if-sheet-end.false ∙ c.before.clauses_end-end.ensures));
    }

told6 : (c : lts.After-nodes_ok tie.the-claims reads.Pre reads.Post) → nodes_right c.before.before.before.before.before.before.before.before.before.before.before.before.before.before.before.before.args.sheet.now ≡ c.nodes_ok.result
unfolding nodes_right nodes_of node_part
told6 c = rw (← c.before.before.before.before.before.before.before.before.header-h.ensures, ← c.before.before.before.before.before.nodes_end-middle.ensures) (sym c.nodes_ok.ensures)

rule6 : (c : lts.Else6 tie.the-claims reads.Pre reads.Post) → nodes_right c.before.before.before.before.before.before.before.before.before.before.before.before.before.before.before.before.before.args.sheet.now ≡ true
rule6 c = told6 c.before ∙ c.if-not-nodes_ok.false

told7 : (c : lts.After-operands_ok tie.the-claims reads.Pre reads.Post) → operands_found c.before.before.before.before.before.before.before.before.before.before.before.before.before.before.before.before.before.before.args.sheet.now ≡ c.operands_ok.result
unfolding operands_found nodes_of node_part
told7 c = rw (← c.before.before.before.before.before.before.before.before.before.before.header-h.ensures, ← c.before.before.before.before.before.before.before.nodes_end-middle.ensures) (sym c.operands_ok.ensures)

rule7 : (c : lts.Else7 tie.the-claims reads.Pre reads.Post) → operands_found c.before.before.before.before.before.before.before.before.before.before.before.before.before.before.before.before.before.before.before.args.sheet.now ≡ true
rule7 c = told7 c.before ∙ c.if-not-operands_ok.false

told8 : (c : lts.After-clauses_ok tie.the-claims reads.Pre reads.Post) → clauses_right c.before.before.before.before.before.before.before.before.before.before.before.before.before.before.before.before.before.before.before.before.args.sheet.now ≡ c.clauses_ok.result
unfolding clauses_right nodes_of stored_of node_part clause_part
told8 c = rw (← c.before.before.before.before.before.before.before.before.before.before.before.before.header-h.ensures, ← c.before.before.before.before.before.before.before.before.clauses_end-end.ensures, ← c.before.before.before.before.before.before.before.before.before.nodes_end-middle.ensures) (sym c.clauses_ok.ensures)

rule8 : (c : lts.Else8 tie.the-claims reads.Pre reads.Post) → clauses_right c.before.before.before.before.before.before.before.before.before.before.before.before.before.before.before.before.before.before.before.before.before.args.sheet.now ≡ true
rule8 c = told8 c.before ∙ c.if-not-clauses_ok.false

told9 : (c : lts.After-clauses_covered tie.the-claims reads.Pre reads.Post) → clauses_named c.before.before.before.before.before.before.before.before.before.before.before.before.before.before.before.before.before.before.before.before.before.before.args.sheet.now ≡ c.clauses_covered.result
unfolding nodes_of stored_of node_part clause_part
told9 c =
    sym (covered_named _ (rule4 c.before.before.before.before.before.before.before.before.before.before.before.before) (rule6 c.before.before.before.before.before) (rule7 c.before.before.before) (rule8 c.before))
    ∙ rw (← c.before.before.before.before.before.before.before.before.before.before.before.before.before.before.header-h.ensures, ← c.before.before.before.before.before.before.before.before.before.before.clauses_end-end.ensures, ← c.before.before.before.before.before.before.before.before.before.before.before.nodes_end-middle.ensures) (sym c.clauses_covered.ensures)

pub is_framed-requires : goal.is_framed-requires
is_framed-requires c = omega arith

pub returns-then-not-is_framed : goal.returns-then-not-is_framed
unfolding framed
returns-then-not-is_framed c = refused1 _ (sym c.is_framed.ensures ∙ c.if-not-is_framed.true)

pub byte-requires : goal.byte-requires
byte-requires c = omega (arith, framed_long _ (rule1 c.before))

pub returns-then-byte-ne1 : goal.returns-then-byte-ne1
unfolding versioned
returns-then-byte-ne1 c = refused2 _ (rule1 c.before.before.before) (ne_eqb _ 1 (λ e. c.if-byte-ne1.true (c.byte.ensures.0 ∙ e)))

pub byte-requires-2 : goal.byte-requires-2
byte-requires-2 c = omega (arith, framed_long _ (rule1 c.before.before.before))

pub returns-then-byte-ne-REQUIREMENT : goal.returns-then-byte-ne-REQUIREMENT
unfolding of_kind_one
returns-then-byte-ne-REQUIREMENT c = refused3 _ (rule1 c.before.before.before.before.before) (rule2 c.before.before.before) (ne_eqb _ 1 (λ e. c.if-byte-ne-REQUIREMENT.true (c.byte-2.ensures.0 ∙ e)))

pub header-h-requires : goal.header-h-requires
header-h-requires c = omega (arith, framed_long _ (frame c.before).rule1)

pub counts_ok-requires : goal.counts_ok-requires
counts_ok-requires c = omega arith

pub returns-then-not-counts_ok : goal.returns-then-not-counts_ok
returns-then-not-counts_ok c = refused4 _ (frame c.before.before.before.before) (told4 c.before.before ∙ c.if-not-counts_ok.true)

pub nodes_end-middle-requires : goal.nodes_end-middle-requires
nodes_end-middle-requires c = omega (arith, known c.before)

pub clauses_end-end-requires : goal.clauses_end-end-requires
clauses_end-end-requires c = let many = known c.before.before in (omega arith, omega arith)

pub returns-then-sheet-end : goal.returns-then-sheet-end
unfolding sized
returns-then-sheet-end c =
    refused5 _ (frame c.before.before.before.before.before.before.before) (rule4 c.before.before.before.before)
    (rw (← c.header-h.ensures) (ne_eqb _ _ (λ e. c.if-sheet-end.true (e ∙ sym c.clauses_end-end.ensures))))

pub slice_bounds-node_part-count : goal.slice_bounds-node_part-count
slice_bounds-node_part-count c = omega arith

pub slice_bounds-node_part-start : goal.slice_bounds-node_part-start
slice_bounds-node_part-start c = omega arith

pub slice_bounds-node_part-end : goal.slice_bounds-node_part-end
slice_bounds-node_part-end c = omega arith

pub slice_bounds-clause_part-count : goal.slice_bounds-clause_part-count
slice_bounds-clause_part-count c = omega arith

pub slice_bounds-clause_part-start : goal.slice_bounds-clause_part-start
slice_bounds-clause_part-start c = omega arith

pub slice_bounds-clause_part-end : goal.slice_bounds-clause_part-end
slice_bounds-clause_part-end c = omega arith

pub nodes_ok-requires : goal.nodes_ok-requires
nodes_ok-requires c = omega arith

pub returns-then-not-nodes_ok : goal.returns-then-not-nodes_ok
returns-then-not-nodes_ok c = refused6 _ (size c.before.before.before.before.before) (told6 c.before.before ∙ c.if-not-nodes_ok.true)

pub operands_ok-requires : goal.operands_ok-requires
operands_ok-requires c = omega arith

pub returns-then-not-operands_ok : goal.returns-then-not-operands_ok
returns-then-not-operands_ok c = refused7 _ (size c.before.before.before.before.before.before.before) (rule6 c.before.before.before) (told7 c.before.before ∙ c.if-not-operands_ok.true)

pub clauses_ok-requires : goal.clauses_ok-requires
clauses_ok-requires c = omega arith

pub returns-then-not-clauses_ok : goal.returns-then-not-clauses_ok
returns-then-not-clauses_ok c = refused8 _ (size c.before.before.before.before.before.before.before.before.before) (rule6 c.before.before.before.before.before) (rule7 c.before.before.before) (told8 c.before.before ∙ c.if-not-clauses_ok.true)

pub clauses_covered-requires : goal.clauses_covered-requires
clauses_covered-requires c = let many = known c.before.before.before.before.before.before.before.before.before.before.before.before in search rules

pub returns-then-not-clauses_covered : goal.returns-then-not-clauses_covered
returns-then-not-clauses_covered c = refused9 _ (size c.before.before.before.before.before.before.before.before.before.before.before) (rule6 c.before.before.before.before.before.before.before) (rule7 c.before.before.before.before.before) (rule8 c.before.before.before) (told9 c.before.before ∙ c.if-not-clauses_covered.true)

pub returns : goal.returns
returns c =
    ap Ok c.header-h.ensures
    ∙ accepted _ (size c.before.before.before.before.before.before.before.before.before.before.before) (rule6 c.before.before.before.before.before.before.before) (rule7 c.before.before.before.before.before) (rule8 c.before.before.before) (told9 c.before.before ∙ c.if-not-clauses_covered.false)
