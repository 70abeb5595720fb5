-- `exports::fasunqir_translate` meets its contract.
use Rattle.exports.proofs.Packing.{formula_small, formula_packed}
use Rattle.exports.proofs.fasunqir_translate.Goals as goal

pub packed_writing-requires : goal.packed_writing-requires
packed_writing-requires c = formula_small _ _ _ _ c.translate-answer.ensures

pub returns : goal.returns
returns c =
    let all =
    formula_packed _ _ _ c.translate-answer.result c.packed_writing.result c.translate-answer.ensures c.packed_writing.ensures in
    record { value = all.0; translated = all.1 }
