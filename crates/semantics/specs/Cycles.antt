-- Tests over cycles and over columns. Everything here computes: a meaning is a function into Bool, "not" is `not`, and "exactly when" is an equation.
use Rattle.std.specs.Prelude.{ℕ, zero, suc, ◌+◌, Bool, true, false, not, cond, ◌&&◌, ◌||◌, List, [], ◌∷◌, leb}

-- some i below n passes
unfoldable pub some_below : ℕ → (ℕ → Bool) → Bool
some_below zero p = false
some_below (suc n) p = some_below n p || p n

-- some i with b ≤ i < e passes
unfoldable pub some_from : ℕ → ℕ → (ℕ → Bool) → Bool
some_from b e p = some_below e (λ i. leb b i && p i)

abbrev pub every_from : ℕ → ℕ → (ℕ → Bool) → Bool
every_from b e p = not (some_from b e (λ i. not (p i)))

-- the same with e itself
abbrev pub some_in : ℕ → ℕ → (ℕ → Bool) → Bool
some_in b e p = some_from b (suc e) p

abbrev pub every_in : ℕ → ℕ → (ℕ → Bool) → Bool
every_in b e p = every_from b (suc e) p

-- how many i below n pass; how many i with b ≤ i < e; how many with e itself
unfoldable pub count_below : ℕ → (ℕ → Bool) → ℕ
count_below zero p = 0
count_below (suc n) p = count_below n p + cond (p n) 1 0

unfoldable pub count_from : ℕ → ℕ → (ℕ → Bool) → ℕ
count_from b e p = count_below e (λ i. leb b i && p i)

abbrev pub count_in : ℕ → ℕ → (ℕ → Bool) → ℕ
count_in b e p = count_from b (suc e) p

-- the least i below n that passes, or n where none does
unfoldable pub first_below : ℕ → (ℕ → Bool) → ℕ
first_below zero p = 0
first_below (suc n) p = cond (p 0) 0 (suc (first_below n (λ i. p (suc i))))

-- some column of n zeros and ones passes
unfoldable pub some_column : ℕ → (List Bool → Bool) → Bool
some_column zero p = p []
some_column (suc n) p = some_column n (λ c. p (false ∷ c)) || some_column n (λ c. p (true ∷ c))
