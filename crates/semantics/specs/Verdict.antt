-- Document 01, "Clauses" (roles and the requirement) and "Verdicts and tables", and request 5: a verdict is a finding with advice beside it.
use Rattle.std.specs.Prelude.{ℕ, suc, ◌+◌, ◌*◌, Bool, true, false, not, cond, ◌&&◌, ◌||◌, List, [], ◌∷◌, length}
use Rattle.semantics.specs.Cycles.{some_below, first_below}
use Rattle.semantics.specs.Proposition.{Trace}
use Rattle.semantics.specs.Clause.{Role, assumption_role, commitment, advice, Clause, breaks, fails}

unfoldable pub same_role : Role → Role → Bool
same_role assumption_role assumption_role = true
same_role assumption_role commitment = false
same_role assumption_role advice = false
same_role commitment assumption_role = false
same_role commitment commitment = true
same_role commitment advice = false
same_role advice assumption_role = false
same_role advice commitment = false
same_role advice advice = true

unfoldable pub has_role : Role → Clause → Bool
has_role r c = same_role r c.role

-- the clauses that are no advice
unfoldable pub beside_advice : Role → Clause → List Clause → List Clause
beside_advice assumption_role c cs = c ∷ cs
beside_advice commitment c cs = c ∷ cs
beside_advice advice c cs = cs

unfoldable pub without_advice : List Clause → List Clause
without_advice [] = []
without_advice (c ∷ cs) = beside_advice c.role c (without_advice cs)

-- the clause has the role and fails
unfoldable pub fails_as : Role → Trace → Clause → Bool
fails_as r σ c = has_role r c && fails c σ

unfoldable pub some_fails : Role → List Clause → Trace → Bool
some_fails r [] σ = false
some_fails r (c ∷ cs) σ = fails_as r σ c || some_fails r cs σ

-- true if some assumption fails or every commitment holds
unfoldable pub requirement : List Clause → Trace → Bool
requirement cs σ = some_fails assumption_role cs σ || not (some_fails commitment cs σ)

-- document 01's "place": a clause's number and its three cycles
pub record Place : Type 0 where
  pub clause : ℕ
  pub i : ℕ
  pub j : ℕ
  pub k : ℕ

-- what a verdict says of the requirement
pub data Finding : Type 0 where
  Excused : ℕ → Finding
  Broken : Place → Finding
  Holds : Finding

unfoldable pub is_broken : Finding → Bool
is_broken (Excused n) = false
is_broken (Broken p) = true
is_broken Holds = false

-- the first place, by i, then j, then k, at which the clause is broken; n is the number of cycles
unfoldable pub first_place : ℕ → ℕ → (ℕ → ℕ → ℕ → Bool) → Place
first_place clause n broken =
    let i = first_below n (λ i. some_below n (λ j. some_below n (λ k. broken i j k))) in
    let j = first_below n (λ j. some_below n (λ k. broken i j k)) in
    let k = first_below n (λ k. broken i j k) in
    record { clause = clause; i = i; j = j; k = k }

-- Excused with the first failing assumption; else Broken at the first failing commitment's first place; else Holds.
-- `from` is the number of the list's first clause.
unfoldable pub excused_or : ℕ → List Clause → Trace → Finding → Finding
excused_or from [] σ otherwise = otherwise
excused_or from (c ∷ cs) σ otherwise = cond (fails_as assumption_role σ c) (Excused from) (excused_or (suc from) cs σ otherwise)

unfoldable pub broken_or : ℕ → List Clause → Trace → Finding → Finding
broken_or from [] σ otherwise = otherwise
broken_or from (c ∷ cs) σ otherwise =
    cond (fails_as commitment σ c) (Broken (first_place from (length σ) (breaks c σ))) (broken_or (suc from) cs σ otherwise)

unfoldable pub finding_of : List Clause → Trace → Finding
finding_of cs σ = excused_or 0 cs σ (broken_or 0 cs σ Holds)

-- request 5's byte: bit k is set exactly if clause k is advice and fails
unfoldable pub advice_of : List Clause → Trace → ℕ
advice_of [] σ = 0
advice_of (c ∷ cs) σ = advice_of cs σ * 2 + cond (fails_as advice σ c) 1 0

pub record Verdict : Type 0 where
  pub finding : Finding
  pub advice : ℕ

unfoldable pub verdict : List Clause → Trace → Verdict
verdict cs σ = record { finding = finding_of cs σ; advice = advice_of cs σ }
