-- Request 1: what reading a typed sheet promises.
use Rattle.std.specs.Prelude.{ℕ, true, false, cond, List, ◌≡◌, eqb, ltb, length, Result, Ok, Err}
use Rattle.stored.specs.declared.refusal.Refusal.{Refusal}
use Rattle.stored.specs.Refusal.{refusal_numbered}
use Rattle.stored.specs.Layout.{least_output}
use Rattle.stored.specs.Sheet.{sheet_refusal}
use Rattle.grammar.specs.Tree.{TypedSheet}
use Rattle.grammar.specs.Spelled.{Says}
use Rattle.grammar.specs.Brackets.{too_deep}
use Rattle.typed.specs.Draft.{too_many, typed_bytes, front_of}

-- The number by which a text that says t is refused where so many bytes are lent, or 0: 20 for more than 64 nodes or 8 clauses, then
-- the lowest of 1 to 9 for the sheet that was read, then 14.
unfoldable pub said_refusal : TypedSheet → ℕ → ℕ
said_refusal t size =
    cond (too_many t) 20 (cond (eqb (sheet_refusal (typed_bytes t)) 0) (cond (ltb size least_output) 14 0) (sheet_refusal (typed_bytes t)))

-- refused by the refusal with this number, and the lent bytes, which were x and are y, are unchanged
pub record RefusedBy (number : ℕ) (x y : List ℕ) (r : Result ℕ Refusal) : Type 0 where
  pub refusal_given : r ≡ Err (refusal_numbered number)
  pub unchanged : y ≡ x

-- t's bytes are at the front of the lent bytes, the later ones keep their values, and the answer is how many there are
pub record WrittenAs (t : TypedSheet) (x y : List ℕ) (r : Result ℕ Refusal) : Type 0 where
  pub length_given : r ≡ Ok (length (typed_bytes t))
  pub in_front : y ≡ front_of (typed_bytes t) x

-- A text was read with the lent bytes x, which are y now, and r was answered.
pub record ReadText (text x y : List ℕ) (r : Result ℕ Refusal) : Type 0 where
  -- over 32 round brackets are open at a place
  pub deep : too_deep text ≡ true → RefusedBy 18 x y r
  -- the text is outside the grammar
  pub outside : too_deep text ≡ false → ((t : TypedSheet) → Says text t → ⊥) → RefusedBy 19 x y r
  -- it is in the grammar and says t
  pub refused : too_deep text ≡ false → (t : TypedSheet) → Says text t → (said_refusal t (length x) ≡ 0 → ⊥)
      → RefusedBy (said_refusal t (length x)) x y r
  pub written : too_deep text ≡ false → (t : TypedSheet) → Says text t → said_refusal t (length x) ≡ 0 → WrittenAs t x y r
