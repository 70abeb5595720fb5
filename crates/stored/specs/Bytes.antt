-- Fields of stored bytes, and the number of the first broken rule.
use Rattle.std.specs.Prelude.{ℕ, zero, suc, ◌+◌, ◌-◌, ◌*◌, Bool, true, cond, ◌&&◌, List, [], ◌∷◌, leb, eqb, length, get_or, take, drop}
use Rattle.stored.specs.Layout.{following}

-- the big-endian field of two bytes at k
unfoldable pub word : List ℕ → ℕ → ℕ
word s k = get_or s k 0 * 256 + get_or s (k + 1) 0

-- it has `least` bytes or more, and bytes 0–1 are its length less 2
unfoldable pub framed_from : ℕ → List ℕ → Bool
framed_from least s = leb least (length s) && eqb (word s 0) (following (length s))

-- the bytes from a up to but without e
abbrev pub part : ℕ → ℕ → List ℕ → List ℕ
part a e s = take (e - a) (drop a s)

-- every i below n passes
unfoldable pub every_below : ℕ → (ℕ → Bool) → Bool
every_below zero p = true
every_below (suc n) p = every_below n p && p n

-- f 0, f 1, .. up to but without f n
unfoldable pub in_order : {A : Type 0} → ℕ → (ℕ → A) → List A
in_order zero f = []
in_order (suc n) f = f 0 ∷ in_order n (λ i. f (suc i))

-- the number of the first rule that is not kept, counted from k; 0 where all are
unfoldable pub lowest : ℕ → List Bool → ℕ
lowest k [] = 0
lowest k (kept ∷ rules) = cond kept (lowest (suc k) rules) k
