-- Document 01, "Clauses": parts, Ξ, the six types; document 004, section 2.3. A name is placed inside the interval of the first part that lists
-- it, in the order D1, D3, D2 for follows and triggers, D1, D2 for implies, D2, D1 for init, and keeps that cycle in later parts (request 4).
use Rattle.std.specs.Prelude.{ℕ, Bool, not, ◌&&◌, leb, eqb, length}
use Rattle.semantics.specs.Cycles.{some_below, some_from, some_in}
use Rattle.semantics.specs.Proposition.{Trace}
use Rattle.semantics.specs.Formula.{Formula, holds}
use Rattle.semantics.specs.Placement.{Names, union, without, Placement, unplaced, marks, some_placement}

-- document 01's "part": a root D with the set Θ of its names
pub record Part : Type 0 where
  pub formula : Formula
  pub names : Names

pub data ClauseType : Type 0 where
  pref init anti implies follows triggers : ClauseType

-- advice is a habit that is liked but not enforced (request 5)
pub data Role : Type 0 where
  assumption_role commitment advice : Role

pub record Clause : Type 0 where
  pub type : ClauseType
  pub role : Role
  pub first : Part
  pub second : Part
  pub third : Part

-- D on [x,y] with the names where ν puts them
unfoldable pub on : Part → Trace → Placement → ℕ → ℕ → Bool
on d σ ν x y = holds d.formula σ (marks ν) x y

-- some placement of `names` over [x,y], those of Θ that no part before lists, gives D on [x,y]; the others stay where ν puts them
unfoldable pub given : Names → Placement → Part → Trace → ℕ → ℕ → Bool
given names ν d σ x y = some_placement names x y ν (λ ν'. on d σ ν' x y)

-- D is Ξ on [x,y]: it holds there and on no shorter [x,z], marks unmoved
unfoldable pub shortest : Part → Trace → Placement → ℕ → ℕ → Bool
shortest d σ ν x y = on d σ ν x y && not (some_from x y (λ z. on d σ ν x z))

-- D1 on [i,j] and, agreeing, D3 is Ξ on [s,k], yet no l from s to k and placement agreeing with both give D2 on [s,l]
unfoldable pub unanswered : Part → Part → Part → Trace → ℕ → ℕ → ℕ → ℕ → Bool
unanswered d₁ d₂ d₃ σ i j s k =
    some_placement d₁.names i j unplaced
    (λ ν. on d₁ σ ν i j
    && some_placement (without d₃.names d₁.names) s k ν
    (λ ν'. shortest d₃ σ ν' s k
    && not (some_in s k (λ l. given (without d₂.names (union d₁.names d₃.names)) ν' d₂ σ s l))))

-- the clause is broken at i, j, k; a broken place has i = 0 for pref and init, and k = j for the first four types
unfoldable pub breaks_at : ClauseType → Part → Part → Part → Trace → ℕ → ℕ → ℕ → Bool
breaks_at pref d₁ d₂ d₃ σ i j k = eqb i 0 && eqb k j && not (given d₁.names unplaced d₁ σ 0 j)
breaks_at init d₁ d₂ d₃ σ i j k =
    eqb i 0 && eqb k j
    && some_placement d₂.names 0 j unplaced
    (λ ν. on d₂ σ ν 0 j && not (some_in 0 j (λ l. given (without d₁.names d₂.names) ν d₁ σ 0 l)))
breaks_at anti d₁ d₂ d₃ σ i j k = leb i j && eqb k j && given d₁.names unplaced d₁ σ i j
breaks_at implies d₁ d₂ d₃ σ i j k =
    leb i j && eqb k j
    && some_placement d₁.names i j unplaced
    (λ ν. on d₁ σ ν i j && not (given (without d₂.names d₁.names) ν d₂ σ i j))
breaks_at follows d₁ d₂ d₃ σ i j k = leb i j && leb j k && unanswered d₁ d₂ d₃ σ i j j k
breaks_at triggers d₁ d₂ d₃ σ i j k = leb i j && leb i k && unanswered d₁ d₂ d₃ σ i j i k

unfoldable pub breaks : Clause → Trace → ℕ → ℕ → ℕ → Bool
breaks c σ i j k = breaks_at c.type c.first c.second c.third σ i j k

-- a clause holds exactly if it is broken at no cycles i, j, k
unfoldable pub fails : Clause → Trace → Bool
fails c σ = some_below (length σ) (λ i. some_below (length σ) (λ j. some_below (length σ) (λ k. breaks c σ i j k)))
