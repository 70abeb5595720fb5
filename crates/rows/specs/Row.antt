-- Sets of cycles as words: bit e of a word says whether cycle e belongs to the set (document 01: bit 0 is the lowest).
use Rattle.std.specs.Prelude.{ℕ, zero, suc, ◌+◌, ◌*◌, ◌%◌, ◌^◌, Bool, true, not, cond, ◌&&◌, ◌||◌, leb, ltb, eqb}
use Rattle.semantics.specs.Cycles.{some_below}
use Rattle.semantics.specs.Proposition.{bit}

-- the word whose bit k is p k for k < n, and whose later bits are zero
unfoldable pub word : ℕ → (ℕ → Bool) → ℕ
word zero p = 0
word (suc n) p = word n (λ k. p (suc k)) * 2 + cond (p 0) 1 0

-- document 01's row b of a table, of a test on intervals over n cycles: bit e is set exactly if b ≤ e < n and h on [b,e]
unfoldable pub row : ℕ → (ℕ → ℕ → Bool) → ℕ → ℕ
row n h b = word n (λ e. leb b e && h b e)

-- every interval
abbrev pub always : ℕ → ℕ → Bool
always b e = true

-- the cycles of all those words i whose bit i is set in `set`
unfoldable pub joined : ℕ → (ℕ → ℕ) → ℕ
joined set words = word 64 (λ e. some_below 64 (λ i. bit set i && bit (words i) e))

-- the same cycles, i later
unfoldable pub shifted : ℕ → ℕ → ℕ
shifted set i = set * 2 ^ i % 2 ^ 64

-- cycle b, and the cycles of all those words i > b whose bit i is set in `links`
unfoldable pub starred : ℕ → (ℕ → ℕ) → ℕ → ℕ
starred links words b = word 64 (λ e. eqb b e || some_below 64 (λ i. (ltb b i && bit links i) && bit (words i) e))

-- the least cycle of a set alone
unfoldable pub shortest_of : ℕ → ℕ
shortest_of set = word 64 (λ e. bit set e && not (some_below e (bit set)))
