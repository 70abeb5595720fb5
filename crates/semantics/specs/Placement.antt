-- Document 01, "Clauses": placements of names over an interval; document 004, section 2.3, nominal valuations.
use Rattle.std.specs.Prelude.{ℕ, Bool, false, not, cond, ◌&&◌, ◌||◌, ltb, eqb}
use Rattle.semantics.specs.Cycles.{some_in}
use Rattle.semantics.specs.Proposition.{Marks}

-- a set of names (document 004's Θ); only the names 0, 1 and 2 count
abbrev pub Names : Type 0
Names = ℕ → Bool

unfoldable pub no_names : Names
no_names u = false

unfoldable pub union : Names → Names → Names
union a b u = a u || b u

unfoldable pub without : Names → Names → Names
without a b u = a u && not (b u)

-- u is one of the three names a sheet can have, and belongs to the set
unfoldable pub listed : Names → ℕ → Bool
listed names u = ltb u 3 && names u

-- the cycle on which each name stands. A part reaches none but its own names, so where others stand says nothing
abbrev pub Placement : Type 0
Placement = ℕ → ℕ

unfoldable pub unplaced : Placement
unplaced u = 0

unfoldable pub marks : Placement → Marks
marks ν u t = eqb (ν u) t

unfoldable pub moved : ℕ → ℕ → Placement → Placement
moved u t ν v = cond (eqb v u) t (ν v)

-- name u put on some cycle of [x,y] if it belongs to the set; else it stays where it stands
unfoldable pub place_name : ℕ → Names → ℕ → ℕ → Placement → (Placement → Bool) → Bool
place_name u names x y ν p = cond (names u) (some_in x y (λ t. p (moved u t ν))) (p ν)

-- some placement of `names` over [x,y] passes; names placed before stay where ν puts them, in [x,y] or not
unfoldable pub some_placement : Names → ℕ → ℕ → Placement → (Placement → Bool) → Bool
some_placement names x y ν p =
    place_name 0 names x y ν (λ ν₀. place_name 1 names x y ν₀ (λ ν₁. place_name 2 names x y ν₁ p))
