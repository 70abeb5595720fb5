-- Names inside an interval. No meaning goes by this; the laws join the formula's one mark on an interval and the check's rows by it.
use Rattle.std.specs.Prelude.{ℕ, Bool, not, ◌&&◌, ◌||◌, leb}
use Rattle.semantics.specs.Placement.{Names, Placement}

-- name u stands in [x,y] if the set has it
unfoldable pub inside_name : ℕ → Names → ℕ → ℕ → Placement → Bool
inside_name u names x y ν = not (names u) || leb x (ν u) && leb (ν u) y

-- every name of the set stands in [x,y]
unfoldable pub inside : Names → ℕ → ℕ → Placement → Bool
inside names x y ν = inside_name 0 names x y ν && (inside_name 1 names x y ν && inside_name 2 names x y ν)
