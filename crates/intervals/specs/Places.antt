-- Places as numbers, so that the first place by i, then j, then k is the least number. A trace has at most 64 cycles.
use Rattle.std.specs.Prelude.{ℕ, ◌+◌, ◌*◌, ◌/◌, ◌%◌, ◌≤◌, ◌<◌, Bool, true, false, ◌&&◌, ◌≡◌, ltb}

-- one more than the largest number of a place
abbrev pub places : ℕ
places = 262144

abbrev pub number : ℕ → ℕ → ℕ → ℕ
number i j k = i * 4096 + j * 64 + k

-- the test on i, j, k at the place with number x, all three below n
unfoldable pub numbered : ℕ → (ℕ → ℕ → ℕ → Bool) → ℕ → Bool
numbered n p x =
    ltb (x / 4096) n && (ltb (x / 64 % 64) n && ltb (x % 64) n) && p (x / 4096) (x / 64 % 64) (x % 64)

-- r is the least number below the bound that passes, or the bound where none does
pub record IsLeast (bound : ℕ) (p : ℕ → Bool) (r : ℕ) : Type 0 where
  pub most : r ≤ bound
  pub found : r < bound → p r ≡ true
  pub before : (x : ℕ) → x < r → p x ≡ false
