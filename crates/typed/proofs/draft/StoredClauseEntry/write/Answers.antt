-- `typed::draft::StoredClauseEntry::write` meets its contract.
use Rattle.std.proofs.Common.{◌≡◌, arith}
use Rattle.typed.specs.Draft.{clause_bytes}
use Rattle.typed.proofs.Writing.{put_part}
use Rattle.typed.proofs.draft.StoredClauseEntry.write.Goals as goal

pub returns : goal.returns
unfolding clause_bytes
returns c =
    let a = c.args in
    let same : c.copy_from_slice.new.self ≡ clause_bytes a.self = cc in
    put_part a.out.now _ (clause_bytes a.self) a.at _ same (omega arith) (omega arith)
