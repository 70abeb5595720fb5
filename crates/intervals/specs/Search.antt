-- How the check looks for a broken place: the names that a clause quantifies universally are put on cycles of the trace first; three tests on
-- intervals then say all. The laws join this with the meanings; a reader need not believe it.
use Rattle.std.specs.Prelude.{ℕ, Bool, true, false, not, ◌&&◌, leb, eqb}
use Rattle.semantics.specs.Cycles.{some_in}
use Rattle.semantics.specs.Proposition.{Trace}
use Rattle.semantics.specs.Placement.{Names, no_names, union, without, Placement, some_placement}
use Rattle.semantics.specs.Inside.{inside}
use Rattle.semantics.specs.Clause.{Part, ClauseType, pref, init, anti, implies, follows, triggers, on, shortest}

-- a part with those of its names that no part before it lists
unfoldable pub fresh : Names → Part → Part
fresh before d = record { formula = d.formula; names = without d.names before }

-- the names that a type quantifies universally, the part that it starts from, and the part that answers
unfoldable pub quantified : ClauseType → Names → Names → Names → Names
quantified pref Θ₁ Θ₂ Θ₃ = no_names
quantified init Θ₁ Θ₂ Θ₃ = Θ₂
quantified anti Θ₁ Θ₂ Θ₃ = Θ₁
quantified implies Θ₁ Θ₂ Θ₃ = Θ₁
quantified follows Θ₁ Θ₂ Θ₃ = union Θ₁ Θ₃
quantified triggers Θ₁ Θ₂ Θ₃ = union Θ₁ Θ₃

unfoldable pub premise : {A : Type 0} → ClauseType → A → A → A
premise pref d₁ d₂ = d₁
premise init d₁ d₂ = d₂
premise anti d₁ d₂ = d₁
premise implies d₁ d₂ = d₁
premise follows d₁ d₂ = d₁
premise triggers d₁ d₂ = d₁

unfoldable pub reply : {A : Type 0} → ClauseType → A → A → A
reply pref d₁ d₂ = d₁
reply init d₁ d₂ = d₁
reply anti d₁ d₂ = d₁
reply implies d₁ d₂ = d₂
reply follows d₁ d₂ = d₂
reply triggers d₁ d₂ = d₂

-- D on [x,y], and Ξ of D on [x,y], with the part's names inside
unfoldable pub on_inside : Part → Trace → Placement → ℕ → ℕ → Bool
on_inside d σ ν x y = inside d.names x y ν && on d σ ν x y

unfoldable pub short_inside : Part → Trace → Placement → ℕ → ℕ → Bool
short_inside d σ ν x y = inside d.names x y ν && shortest d σ ν x y

-- some cycles up to `last` for the part's names give D on [x,y] with them inside
unfoldable pub answered : Part → Trace → ℕ → Placement → ℕ → ℕ → Bool
answered d σ last ν x y = some_placement d.names 0 last ν (λ ν'. on_inside d σ ν' x y)

-- the interval is unanswered at i, j, k, by the three tests
unfoldable pub missed : ClauseType → (ℕ → ℕ → Bool) → (ℕ → ℕ → Bool) → (ℕ → ℕ → Bool) → ℕ → ℕ → ℕ → Bool
missed pref first third answers i j k = eqb i 0 && eqb k j && not (answers 0 j)
missed init first third answers i j k = eqb i 0 && eqb k j && (first 0 j && not (some_in 0 j (answers 0)))
missed anti first third answers i j k = leb i j && eqb k j && first i j
missed implies first third answers i j k = leb i j && eqb k j && (first i j && not (answers i j))
missed follows first third answers i j k =
    leb i j && leb j k && (first i j && (third j k && not (some_in j k (answers j))))
missed triggers first third answers i j k =
    leb i j && leb i k && (first i j && (third i k && not (some_in i k (answers i))))

-- the type starts from a premise
unfoldable pub premised : ClauseType → Bool
premised pref = false
premised init = true
premised anti = true
premised implies = true
premised follows = true
premised triggers = true

-- the same, with the names that the type quantifies standing where ν puts them
unfoldable pub missed_by : ClauseType → Part → Part → Part → Trace → ℕ → Placement → ℕ → ℕ → ℕ → Bool
missed_by κ d₁ d₂ d₃ σ last ν i j k =
    missed κ
    (on_inside (premise κ d₁ d₂) σ ν)
    (short_inside (fresh d₁.names d₃) σ ν)
    (answered (fresh (quantified κ d₁.names d₂.names d₃.names) (reply κ d₁ d₂)) σ last ν)
    i j k
