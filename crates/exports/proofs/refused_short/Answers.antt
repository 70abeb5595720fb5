-- `exports::refused_short` meets its contract.
use Rattle.std.proofs.Common.{ℕ, ◌*◌, sym, ◌∙◌, ap, is_err}
use Rattle.exports.proofs.Tabled.{short_refused, short_number_lem}
use Rattle.exports.proofs.refused_short.Goals as goal

pub unwrap_err-requires : goal.unwrap_err-requires
unwrap_err-requires c = ap is_err c.table.ensures.value ∙ short_refused _ _

pub returns : goal.returns
returns c =
    c.packed_refusal.ensures ∙ ap (λ (n : ℕ). n * 256) (short_number_lem _ _ _ (sym c.table.ensures.value ∙ c.unwrap_err.ensures))
