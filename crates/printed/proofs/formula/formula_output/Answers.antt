-- `printed::formula::formula_output` meets its contract.
use Rattle.printed.proofs.Outputs.{formula_fits, formula_output}
use Rattle.printed.proofs.formula.formula_output.Goals as goal

pub answered-requires : goal.answered-requires
answered-requires c = formula_fits _ _ _ c.zeros-bytes.ensures _ c.translate-answer.ensures

pub returns : goal.returns
returns c =
    formula_output c.args.sheet.now _ _ c.zeros-bytes.ensures _ c.translate-answer.ensures c.answered.result c.answered.ensures.bytes_are c.answered.ensures.length_is
