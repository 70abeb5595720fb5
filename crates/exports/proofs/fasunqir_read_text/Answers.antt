-- `exports::fasunqir_read_text` meets its contract.
use Rattle.exports.proofs.Packing.{text_small, text_packed}
use Rattle.exports.proofs.fasunqir_read_text.Goals as goal

pub packed_writing-requires : goal.packed_writing-requires
packed_writing-requires c = text_small _ _ _ _ c.read_text-answer.ensures

pub returns : goal.returns
returns c =
    let all =
    text_packed _ _ _ c.read_text-answer.result c.packed_writing.result c.read_text-answer.ensures c.packed_writing.ensures in
    record { value = all.0; read_text = all.1 }
