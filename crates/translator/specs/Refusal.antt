-- By which number the translator refuses.
use Rattle.std.specs.Prelude.{ℕ, cond, List, eqb, ltb}
use Rattle.stored.specs.Layout.{least_output}
use Rattle.stored.specs.Sheet.{sheet_refusal}

-- the lowest of the numbers 1 to 9 and 14 that applies to a sheet and an output of so many bytes, or 0
unfoldable pub translate_refusal : List ℕ → ℕ → ℕ
translate_refusal s size = cond (eqb (sheet_refusal s) 0) (cond (ltb size least_output) 14 0) (sheet_refusal s)
