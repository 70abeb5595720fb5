-- `sheets::translate_and_check` meets its contract.
use Rattle.sheets.proofs.Demand.{demand}
use Rattle.sheets.proofs.translate_and_check.Goals as goal

pub returns : goal.returns
returns c =
    let translated = c.translate-formula.ensures in
    let checked = c.check-verdict.ensures in
    record { translated = translated; verdict_value = checked.value; words_after = checked.words_after; joint = demand _ _ _ _ _ _ _ translated checked.value }
