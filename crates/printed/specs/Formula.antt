-- What the program sheetformula writes: the formula of a sheet, or "REFUSED n" and a newline.
use Rattle.std.specs.Prelude.{ℕ, ◌≤◌, List, ◌≡◌, length, take, drop, replicate}
use Rattle.stored.specs.Layout.{least_output}
use Rattle.stored.specs.Sheet.{sheet_refusal}
use Rattle.translator.specs.Translated.{FormulaOf}
use Rattle.lines.specs.declared.output.Output.{Output}
use Rattle.lines.specs.Lines.{refused_text}

-- r's bytes up to its length are the formula of sheet s or the line of its refusal, and zero from there on
pub record OutputOf (s : List ℕ) (r : Output least_output) : Type 0 where
  pub inside : r.length ≤ length r.bytes
  pub refused : (sheet_refusal s ≡ 0 → ⊥) → take r.length r.bytes ≡ refused_text (sheet_refusal s)
  pub formula : sheet_refusal s ≡ 0 → FormulaOf s (take r.length r.bytes)
  pub later : drop r.length r.bytes ≡ drop r.length (replicate least_output 0)
