-- From what the operations that write promise to what the programs write.
use Rattle.std.proofs.Common.{ℕ, ◌+◌, ◌≤◌, ◌<◌, Bool, true, false, cond, List, ◌≡◌, refl, sym, ◌∙◌, ap, subst, arith, eqb-true, le-ltb, eqb, ltb, length, take, drop, replicate, length-take, take_at, Result, Ok, Err, IfOk}
use mathlib.Core.Bool.{false≢true}
use lib.ListN.{length-replicate}
use lib.Seq.{sets, sets-eq, length-sets}
use Rattle.stored.specs.declared.refusal.Refusal.{Refusal}
use Rattle.stored.specs.Refusal.{number_of, answer_number}
use Rattle.stored.proofs.Refusals.{number_most, number_some}
use Rattle.stored.specs.Layout.{least_output}
use Rattle.stored.specs.Bytes.{framed_from}
use Rattle.stored.specs.Sheet.{framed, sheet_refusal}
use Rattle.stored.specs.Emitted.{is_emitted}
use Rattle.stored.specs.Output.{written_length}
use Rattle.stored.proofs.Written.{drop_after}
use Rattle.text.specs.Text.{ReadText}
use Rattle.text.proofs.Text.{written_fits, refused_unchanged}
use Rattle.translator.specs.Refusal.{translate_refusal}
use Rattle.translator.specs.Translated.{FormulaOf, Translated}
use Rattle.translator.proofs.Translating.{number_told}
use Rattle.lines.specs.declared.output.Output.{Output}
use Rattle.lines.specs.Lines.{refused_text}
use Rattle.lines.specs.Output.{bytes_for, length_for}
use Rattle.printed.specs.Formula.{OutputOf}
use Rattle.printed.specs.Sheet.{most_text, said_for, Answered, SheetOutput}
use Rattle.lines.proofs.Texts.{refused_length}

-- what is written: bytes enough, and zero past the length where they were before
pub record Fits (bytes out : List ℕ) (size : ℕ) : Type 0 where
  pub inside : size ≤ length out
  pub later : drop size out ≡ drop size bytes

-- the line of a refusal in bytes enough
module _ (bytes : List ℕ) (number : ℕ) (size : length bytes ≡ least_output) (small : number < 1000) where
  room : 0 + length (refused_text number) ≤ length bytes
  room = omega (arith, refused_length number small)

  line_fits : Fits bytes (sets bytes 0 (refused_text number)) (length (refused_text number))
  line_fits =
      record {
        inside = simp length-sets (omega (arith, room));
        later = drop_after bytes 0 (refused_text number) (length (refused_text number)) (omega arith);
      }

  line_is : take (length (refused_text number)) (sets bytes 0 (refused_text number)) ≡ refused_text number
  line_is =
      ap (take (length (refused_text number))) (sets-eq (refused_text number) bytes 0 room)
      ∙ take_at (refused_text number) _ (length (refused_text number)) refl

pub blank_length : (x : List ℕ) → x ≡ replicate least_output 0 → length x ≡ least_output
blank_length x blank = ap length blank ∙ length-replicate {A = ℕ} least_output 0

-- ---- formulas
-- 14 does not apply
same_refusal : (s : List ℕ) (size : ℕ) → least_output ≤ size → translate_refusal s size ≡ sheet_refusal s
unfolding translate_refusal
same_refusal s size h = go (eqb (sheet_refusal s) 0) refl
  where
    go : (b : Bool) → eqb (sheet_refusal s) 0 ≡ b → cond b (cond (ltb size least_output) 14 0) (sheet_refusal s) ≡ sheet_refusal s
    go true e = rw (le-ltb size least_output h) (sym (eqb-true (sheet_refusal s) 0 e))
    go false e = refl

-- no formula is empty
not_empty : (s y : List ℕ) → FormulaOf s (take 0 y) → ⊥
unfolding is_emitted framed framed_from
not_empty s y h = false≢true h.form

module _ (s x y : List ℕ) (blank : x ≡ replicate least_output 0) where
  same : translate_refusal s (length x) ≡ sheet_refusal s
  same = let size = blank_length x blank in same_refusal s (length x) (omega arith)

  formula_small : (a : Result ℕ Refusal) → Translated s x y a → IfOk a (λ (size : ℕ). size ≤ least_output)
  unfolding answer_number written_length
  formula_small (Ok size) t =
      let none : translate_refusal s (length x) ≡ 0 = sym (number_told t) in
      let long = t.long none in
      omega (arith, simp length-take at long, t.size, blank_length x blank)
  formula_small (Err e) t = tt

  pub formula_fits : (a : Result ℕ Refusal) → Translated s x y a → (length y ≡ least_output) × IfOk a (λ (size : ℕ). size ≤ least_output)
  formula_fits a t = (t.size ∙ blank_length x blank, formula_small a t)

  pub formula_output : (a : Result ℕ Refusal) → Translated s x y a → (r : Output least_output) → r.bytes ≡ bytes_for y a → r.length ≡ length_for a → OutputOf s r
  unfolding bytes_for length_for answer_number written_length
  formula_output (Ok size) t r eb el =
      let none : translate_refusal s (length x) ≡ 0 = sym (number_told t) in
      record {
        inside = rw (eb, el) (omega (arith, formula_small (Ok size) t, t.size, blank_length x blank));
        refused = λ h. absurd (h (sym same ∙ none));
        formula = λ h. rw (eb, el) (t.formula none);
        later = rw (eb, el) (t.later none ∙ ap (drop size) blank);
      }
  formula_output (Err e) t r eb el =
      let number = number_of e in
      let known : number ≡ sheet_refusal s = number_told t ∙ same in
      let some : sheet_refusal s ≡ 0 → ⊥ = λ h. not_empty s y (t.formula (same ∙ h)) in
      let long = t.size ∙ blank_length x blank in
      let small : number < 1000 = omega (arith, number_most e) in
      let fits = line_fits y number long small in
      record {
        inside = rw (eb, el) fits.inside;
        refused = λ h. rw (eb, el) (line_is y number long small ∙ ap refused_text known);
        formula = λ h. absurd (some h);
        later = rw (eb, el) (fits.later ∙ ap (drop (length (refused_text number))) (t.unchanged (λ h. some (sym same ∙ h)) ∙ blank));
      }

-- ---- typed sheets
module _ (text x y : List ℕ) (blank : x ≡ replicate least_output 0) where
  pub sheet_fits : (a : Result ℕ Refusal) → ReadText text x y a → (length y ≡ least_output) × IfOk a (λ (size : ℕ). size ≤ least_output)
  sheet_fits (Ok size) p =
      let fits = written_fits text x y size p in
      (fits.same_length ∙ blank_length x blank, omega (arith, fits.long))
  sheet_fits (Err e) p = (ap length (refused_unchanged text x y e p) ∙ blank_length x blank, tt)

  answered : (a : Result ℕ Refusal) (out : List ℕ) → ReadText text x y a → out ≡ said_for y a → Answered text out
  answered a out p e = record { lent = y; answer = a; read = subst (λ (x : List ℕ). ReadText text x y a) blank p; written = e }

  pub sheet_output : (a : Result ℕ Refusal) → length text ≤ most_text → ReadText text x y a → (r : Output least_output) → r.bytes ≡ bytes_for y a → r.length ≡ length_for a
      → SheetOutput text r
  unfolding bytes_for length_for said_for
  sheet_output (Ok size) short p r eb el =
      let fits = written_fits text x y size p in
      record {
        inside = rw (eb, el) (omega (arith, fits.long, fits.room, fits.same_length));
        answered = λ _. rw (eb, el) (answered (Ok size) (take size y) p refl);
        unread = λ long. absurd (omega arith);
        later = rw (eb, el) (fits.later ∙ ap (drop size) blank);
      }
  sheet_output (Err e) short p r eb el =
      let number = number_of e in
      let same = refused_unchanged text x y e p in
      let long = ap length same ∙ blank_length x blank in
      let small : number < 1000 = omega (arith, number_most e) in
      let fits = line_fits y number long small in
      record {
        inside = rw (eb, el) fits.inside;
        answered = λ _. rw (eb, el) (answered (Err e) _ p (line_is y number long small));
        unread = λ far. absurd (omega arith);
        later = rw (eb, el) (fits.later ∙ ap (drop (length (refused_text number))) (same ∙ blank));
      }

pub unread_output : (text x : List ℕ) → x ≡ replicate least_output 0 → most_text < length text → (r : Output least_output) → r.bytes ≡ sets x 0 (refused_text 0)
    → r.length ≡ length (refused_text 0) → SheetOutput text r
unread_output text x blank long r eb el =
    let size = blank_length x blank in
    let fits = line_fits x 0 size (omega arith) in
    record {
      inside = rw (eb, el) fits.inside;
      answered = λ short. absurd (omega arith);
      unread = λ _. rw (eb, el) (line_is x 0 size (omega arith));
      later = rw (eb, el) (fits.later ∙ ap (drop (length (refused_text 0))) blank);
    }
