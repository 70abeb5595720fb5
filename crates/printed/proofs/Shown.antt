-- Laws of the line of a verdict and of the page of a table.
use Rattle.std.proofs.Common.{ℕ, ◌+◌, ◌*◌, ◌≤◌, ◌<◌, List, [], ◌∷◌, ◌++◌, ◌≡◌, refl, sym, ◌∙◌, subst, arith, length, get_or, drop, drop_of_length-le, Result, Ok, Err, IfOk}
use Rattle.stored.proofs.Rules.{length_in_order}
use Rattle.checker.specs.declared.check.Finding.{Finding}
use Rattle.checker.specs.declared.check.Finding.TheVariants.{Excused, Broken, Holds}
use Rattle.checker.specs.declared.check.Verdict.{Verdict}
use Rattle.checker.specs.Small.{SmallFinding, SmallVerdict}
use Rattle.stored.specs.declared.refusal.Refusal.{Refusal}
use Rattle.stored.specs.Refusal.{number_of}
use Rattle.stored.specs.Sheet.{sheet_refusal}
use Rattle.stored.proofs.Refusals.{number_most, number_some, of_value, of_refusal}
use Rattle.stored.proofs.Accepted.{sheet_small}
use Rattle.board.specs.declared.Board.{Board}
use Rattle.board.specs.Board.{new_board, open_answer}
use Rattle.lines.specs.Lines.{line_with, ThreeDigits, padded, Put}
use Rattle.printed.specs.Line.{word_of, numbers_of, verdict_text, line_text, most_line}
use Rattle.printed.specs.Page.{table_byte, table_text}
use Rattle.lines.proofs.Copies.{copied_all}
use Rattle.lines.proofs.Texts.{line_fits, refused_length}

-- the numbers of a verdict have three digits at most, and its line fits
verdict_digits : (f : Finding) (advice : ℕ) → SmallFinding f → advice < 256 → ThreeDigits (numbers_of f ++ (advice ∷ []))
unfolding numbers_of
verdict_digits (Excused clause) advice h l = (omega (arith, h), (omega arith, omega arith))
verdict_digits (Broken p) advice h l =
    (omega (arith, h.0), (omega (arith, h.1), (omega (arith, h.2), (omega (arith, h.3), (omega arith, omega arith)))))
verdict_digits Holds advice h l = (omega arith, omega arith)

-- the same by the finding given
pub found_digits : {f g : Finding} (advice : ℕ) → f ≡ g → SmallFinding f → advice < 256 → ThreeDigits (numbers_of g ++ (advice ∷ []))
found_digits {g = g} advice e h l = verdict_digits g advice (subst (λ (x : Finding). SmallFinding x) e h) l

verdict_room : (f : Finding) (advice : ℕ) → length (word_of f) + 4 * length (numbers_of f ++ (advice ∷ [])) < most_line
unfolding word_of numbers_of
verdict_room (Excused clause) advice = omega arith
verdict_room (Broken p) advice = omega arith
verdict_room Holds advice = omega arith

pub line_short : (answer : Result Verdict Refusal) → IfOk answer SmallVerdict → length (line_text answer) ≤ most_line
unfolding line_text verdict_text
line_short (Err e) h = omega (arith, refused_length (number_of e) (omega (arith, number_most e)))
line_short (Ok v) h =
    line_fits (word_of v.finding) (numbers_of v.finding ++ (v.advice ∷ [])) most_line
    (verdict_room v.finding v.advice, verdict_digits v.finding v.advice h.0 h.1)

-- the line of a verdict by the finding given
pub put_found : {x y : List ℕ} {r : ℕ} {f : Finding} (v : Verdict) → v.finding ≡ f → Put x y 0 r (line_with (word_of f) (numbers_of f ++ (v.advice ∷ [])))
    → Put x y 0 r (verdict_text v)
unfolding verdict_text
put_found {x} {y} {r} v e p = subst (λ (g : Finding). Put x y 0 r (line_with (word_of g) (numbers_of g ++ (v.advice ∷ [])))) (sym e) p

-- the same by the answer given
pub put_told : {x y : List ℕ} {r : ℕ} {answer given : Result Verdict Refusal} → answer ≡ given → Put x y 0 r (line_text given) → Put x y 0 r (line_text answer)
put_told {x} {y} {r} e p = subst (λ (a : Result Verdict Refusal). Put x y 0 r (line_text a)) (sym e) p

-- ---- the page of a table
pub table_length : (rows : List ℕ) → length (table_text rows) ≡ 1088
unfolding table_text
table_length rows = length_in_order 1088 (table_byte rows)

-- a text as long as its array is the array
pub padded_whole : (n : ℕ) (l : List ℕ) → length l ≡ n → padded n l ≡ l
unfolding padded
padded_whole n l e = sym (copied_all (λ k. get_or l k 0) n l n (omega arith) e (λ k m. refl))

pub short_drop : (l : List ℕ) (n : ℕ) → length l < n → drop (length l) l ≡ drop n l
short_drop l n h =
    let le : length l ≤ n = omega arith in
    let self : length l ≤ length l = omega arith in
    drop_of_length-le l self ∙ sym (drop_of_length-le l le)

-- ---- the sheet of the board program
pub opened_board : (s : List ℕ) (b : Board) → open_answer s ≡ Ok b → (sheet_refusal s ≡ 0) × (b ≡ new_board s)
unfolding open_answer
opened_board s b e = let z = of_value (sheet_refusal s) (new_board s) b e in (z.0, sym z.1)

pub refused_number : (s : List ℕ) (e : Refusal) → open_answer s ≡ Err e → (sheet_refusal s ≡ 0 → ⊥) × (number_of e ≡ sheet_refusal s)
unfolding open_answer
refused_number s e is =
    let number = of_refusal (sheet_refusal s) (new_board s) e (let small = sheet_small s in omega arith) is in
    ((λ z. let some = number_some e in omega arith), number)
