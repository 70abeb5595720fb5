-- `translator::put_draft` meets its contract.
use Rattle.std.proofs.Common.{ℕ, List, ◌≡◌, sym, ◌∙◌, subst, arith, Ok}
use Rattle.stored.specs.Sheet.{sheet_answer}
use Rattle.stored.specs.declared.Header.{Header}
use Rattle.stored.proofs.Accepted.{Counts}
use Rattle.translator.proofs.Translating.{opened_sheet, header_is, run_drafted, empty_good, empty_count, empty_signals, empty_names, nodes_read, clauses_read, required_parts}
use Rattle.translator.proofs.put_draft.Goals as goal

-- what is known of an accepted sheet
known : (s : List ℕ) (h : Header) → sheet_answer s ≡ Ok h → Counts h
known s h accepted = subst Counts (header_is s h accepted) (opened_sheet s h accepted).in_range

pub node_part-nodes-requires : goal.node_part-nodes-requires
node_part-nodes-requires c = c.requires.0

pub clause_part-clauses-requires : goal.clause_part-clauses-requires
clause_part-clauses-requires c = c.requires.0

pub put_header-requires : goal.put_header-requires
put_header-requires c =
    let p = c.requires in
    let k = known _ _ p.0 in
    (omega (arith, p.1), omega arith, omega (arith, k.few_signals), omega (arith, k.few_names), omega arith, omega arith)

pub put_shared-requires : goal.put_shared-requires
put_shared-requires c =
    let p = c.requires in
    let k = known _ _ p.0 in
    let e = c.put_header.ensures in
    (empty_good _ _ _ _ p.1 e k.some_signals k.few_signals k.few_names, empty_count _ _ _ _ p.1 e, sym (empty_names _ _ _ _ p.1 e))

pub put_requirement-requires : goal.put_requirement-requires
put_requirement-requires c =
    let p = c.requires in
    let k = known _ _ p.0 in
    let e = c.put_header.ensures in
    let shared = c.put_shared.ensures in
    let signals = shared.1.signals ∙ empty_signals _ _ _ _ p.1 e in
    let names = shared.1.names ∙ empty_names _ _ _ _ p.1 e in
    let at = c.node_part-nodes.ensures in
    let after = c.clause_part-clauses.ensures in
    let head = header_is _ _ p.0 in
    let opened = opened_sheet _ _ p.0 in
    (shared.0, omega (arith, shared.1.few, empty_count _ _ _ _ p.1 e, k.few_names), nodes_read _ _ head opened _ signals names _ at, clauses_read _ _ head opened _ signals names _ _ at after _ (omega arith))

pub returns : goal.returns
returns c =
    let put = c.put_requirement in
    run_drafted c.args.sheet.now c.args.draft.now c.args.h c.requires.0 c.requires.1
    (record {
      y₀ = c.put_header.new.out;
      y₁ = c.put_shared.new.out;
      headed = c.put_header.ensures;
      shared = c.put_shared.ensures.1;
      required = required_parts c.args.sheet.now c.put_shared.new.out put.new.out put.result c.args.h _ _ c.node_part-nodes.ensures c.clause_part-clauses.ensures put.ensures.0;
      last = put.ensures.1;
    })
