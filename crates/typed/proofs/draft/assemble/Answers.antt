-- `typed::draft::assemble` meets its contract.
use Rattle.std.proofs.Common.{◌-◌, ◌*◌, ◌≤◌, length, arith, sym, ◌∙◌}
use Rattle.stored.specs.Layout.{node_size, clause_size, clauses_end}
use Rattle.typed.proofs.Writing.{put_first, assembled, assembled_length}
use Rattle.typed.proofs.draft.assemble.Goals as goal

pub returns : goal.returns
returns c =
    let a = c.args in
    let middle = c.nodes_end-middle.result in
    let end = c.clauses_end-end.result in
    let nodes = a.nodes.now in
    let clauses = a.clauses.now in
    let room : clauses_end a.n a.c ≤ length a.out.now = omega arith in
    let noded : node_size * a.n ≤ length nodes = omega arith in
    let claused : clause_size * a.c ≤ length clauses = omega arith in
    record {
      bytes =
          rw (
            put_first _ _ clauses _ (end - middle) (clause_size * a.c) c.copy_from_slice-2.ensures.after (omega arith) claused,
            put_first _ _ nodes _ (middle - 9) (node_size * a.n) c.copy_from_slice.ensures.after (omega arith) noded,
            c.nodes_end-middle.ensures,
            c.put_header.ensures,
            c.in_byte-2.ensures.0,
            c.in_byte.ensures.0,
          )
          (assembled a.out.now nodes clauses a.s a.m a.n a.c room noded claused);
      size = c.clauses_end-end.ensures ∙ sym (assembled_length a.out.now nodes clauses a.s a.m a.n a.c room noded claused);
      exact = c.clauses_end-end.ensures;
    }
