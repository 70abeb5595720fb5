-- Request 1, refusal 18: round brackets open at a place of the text.
use Rattle.std.specs.Prelude.{ℕ, suc, ◌-◌, Bool, false, cond, ◌||◌, List, [], ◌∷◌, ltb, eqb}

-- how many are open after a byte, before which n are: ( opens one, ) closes one where any is open
unfoldable pub open_after : ℕ → ℕ → ℕ
open_after n b = cond (eqb b 40) (suc n) (cond (eqb b 41) (n - 1) n)

-- more than `limit` are open at some place of the text, before which n are
unfoldable pub deeper : ℕ → ℕ → List ℕ → Bool
deeper limit n [] = false
deeper limit n (b ∷ text) = ltb limit (open_after n b) || deeper limit (open_after n b) text

unfoldable pub too_deep : List ℕ → Bool
too_deep text = deeper 32 0 text
