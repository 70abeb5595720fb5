-- The tables of spellings: their rows are the grammar's, and the first row that a text begins with is its spelling.
use Rattle.std.proofs.Common.{◌≡◌, ℕ, Bool, true, false, cond, ◌&&◌, List, [], ◌∷◌, Some, refl, ap, leb-true, ltb-true, eqb, ◌<◌, length, arith}
use Rattle.std.specs.List.{starts_with}
use Rattle.semantics.proofs.Tests.{and_left, and_right}
use Rattle.grammar.specs.Token.{spelt, begins, spelling_of}
use Rattle.lexer.specs.declared.Token.{Token as Lexeme}
use Rattle.lexer.specs.declared.Token.TheVariants.{Plain, Signal, Name, Number, Outside, End}
use Rattle.lexer.specs.declared.spellings.Spelling.{Spelling as Row}
use Rattle.lexer.specs.Lexed.{meant, is_end, Means}
use Rattle.lexer.specs.Rows.{row_with, first_row, spelt_by, has_number, all_numbered, IsRow, Found}

begins_lem : (word text : List ℕ) → begins word text ≡ starts_with eqb text word
unfolding begins
begins_lem [] text = refl
begins_lem (x ∷ word) [] = refl
begins_lem (x ∷ word) (b ∷ text) = ap (λ (t : Bool). eqb x b && t) (begins_lem word text)

numbered_means : (t : Lexeme) → has_number t ≡ true → Means t (meant t)
unfolding has_number meant is_end
numbered_means (Plain k) h = record { same = refl; goes = refl; bounded = leb-true k 36 h }
numbered_means (Signal k) h = record { same = refl; goes = refl; bounded = ltb-true k 16 h }
numbered_means (Name u) h = record { same = refl; goes = refl; bounded = ltb-true u 3 h }
numbered_means (Number n) h = cc
numbered_means Outside h = cc
numbered_means End h = cc

-- the first row that a text begins with
pub first_row_found : (rows : List Row) (b : ℕ) (text : List ℕ) → all_numbered rows ≡ true → Found (spelt_by rows) (b ∷ text) (first_row rows (b ∷ text))
unfolding spelt_by spelling_of all_numbered first_row row_with begins
first_row_found [] b text h = refl
first_row_found (x ∷ rows) b text h =
    rw (begins_lem x.1.now text)
    (go (eqb x.0 b && starts_with eqb text x.1.now) (numbered_means x.2 (and_left (has_number x.2) (all_numbered rows) h))
    (first_row_found rows b text (and_right (has_number x.2) (all_numbered rows) h)))
  where
    go : (t : Bool) → Means x.2 (meant x.2) → Found (spelt_by rows) (b ∷ text) (first_row rows (b ∷ text))
        → IsRow (cond t (Some x) (first_row rows (b ∷ text))) (cond t (spelt (x.0 ∷ x.1.now) (meant x.2)) (spelling_of (spelt_by rows) (b ∷ text)))
    go true means later = record { bytes = refl; token = means }
    go false means later = later

pub first_row_long : (rows : List Row) (text : List ℕ) → 0 < length text → all_numbered rows ≡ true → Found (spelt_by rows) text (first_row rows text)
first_row_long rows [] long h = absurd (omega arith)
first_row_long rows (b ∷ text) long h = first_row_found rows b text h
