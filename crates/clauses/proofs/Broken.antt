-- "The clause is broken": what the plan of each type tells, by at most 10 nodes and 3 a name.
use Rattle.std.proofs.Common.{ℕ, ◌+◌, ◌*◌, ◌≤◌, true, List, ◌≡◌, refl, arith, ltb}
use Rattle.semantics.specs.Formula.{Formula}
use Rattle.semantics.specs.Placement.{Names, union, without}
use Rattle.semantics.specs.Translation.{shortest_of, unanswered_of, broken_of}
use Rattle.stored.specs.Clause.{parts_used, type_of}
use Rattle.stored.specs.Sheet.{header_of}
use Rattle.stored.proofs.Accepted.{type_cases}
use Rattle.plans.specs.Emission.{Ready}
use Rattle.plans.proofs.Plans.{Tells, tells_within, everywhere_told, longer_told, chop_told, and_told, not_told}
use Rattle.clauses.proofs.Names.{Inside, union_inside, without_inside, many, many_both, many_most, marks_told, placed_told}

module _ {y : List ℕ} (ready : Ready y) (p₁ p₂ p₃ f₁ f₂ f₃ : Formula) (Θ₁ Θ₂ Θ₃ : Names)
    (in₁ : Inside (header_of y).names Θ₁) (in₂ : Inside (header_of y).names Θ₂) (in₃ : Inside (header_of y).names Θ₃) where
  abbrev m : ℕ
  m = (header_of y).names

  -- the names of D1 and D3, and those that D2 has besides
  abbrev Θ₁₃ : Names
  Θ₁₃ = union Θ₁ Θ₃

  -- the names of one part and what another has besides are at most those of the sheet
  most : {a b : Names} → Inside m a → Inside m b → many a + many (without b a) ≤ m
  most {a} {b} h k = omega (arith, many_both a b, many_most (union a b) ready.good.few_names (union_inside h k))

  unanswered_told : Tells y p₂ f₂ 0 → Tells y p₃ f₃ 0
      → Tells y (unanswered_of Θ₁ p₂ Θ₂ p₃ Θ₃) (unanswered_of Θ₁ f₂ Θ₂ f₃ Θ₃) (6 + many (without Θ₃ Θ₁) + 2 * many (without Θ₂ Θ₁₃))
  unfolding unanswered_of shortest_of
  unanswered_told t₂ t₃ =
      let shortest = and_told t₃ (not_told (chop_told t₃ (longer_told ready))) in
      let ended = marks_told ready (without Θ₃ Θ₁) (without_inside Θ₁ in₃) shortest in
      let given = placed_told ready (without Θ₂ Θ₁₃) (without_inside Θ₁₃ in₂) t₂ in
      tells_within _ (omega arith) (and_told ended (not_told (chop_told given (everywhere_told ready))))

  abbrev BrokenTold : ℕ → Type 0
  BrokenTold k =
      (ltb 0 (parts_used k) ≡ true → Tells y p₁ f₁ 0) → (ltb 1 (parts_used k) ≡ true → Tells y p₂ f₂ 0) → (ltb 2 (parts_used k) ≡ true → Tells y p₃ f₃ 0)
      → Tells y (broken_of (type_of k) p₁ Θ₁ p₂ Θ₂ p₃ Θ₃) (broken_of (type_of k) f₁ Θ₁ f₂ Θ₂ f₃ Θ₃) (10 + 3 * m)

  pub broken_told : (k : ℕ) → 1 ≤ k → k ≤ 6 → BrokenTold k
  unfolding parts_used type_of broken_of
  broken_told =
      let rest = everywhere_told ready in
      let both = union_inside in₁ in₃ in
      let late : 3 * many Θ₁₃ + 2 * many (without Θ₂ Θ₁₃) ≤ 3 * m = omega (arith, most both in₂) in
      type_cases BrokenTold
      (λ t₁ t₂ t₃. tells_within _ (omega (arith, most in₁ in₁)) (chop_told (not_told (placed_told ready Θ₁ in₁ (t₁ refl))) rest))
      (λ t₁ t₂ t₃.
      let missed = not_told (chop_told (placed_told ready (without Θ₁ Θ₂) (without_inside Θ₂ in₁) (t₁ refl)) rest) in
      tells_within _ (omega (arith, most in₂ in₁)) (chop_told (placed_told ready Θ₂ in₂ (and_told (t₂ refl) missed)) rest))
      (λ t₁ t₂ t₃. tells_within _ (omega (arith, most in₁ in₁)) (chop_told rest (chop_told (placed_told ready Θ₁ in₁ (t₁ refl)) rest)))
      (λ t₁ t₂ t₃.
      let missed = not_told (placed_told ready (without Θ₂ Θ₁) (without_inside Θ₁ in₂) (t₂ refl)) in
      tells_within _ (omega (arith, most in₁ in₂)) (chop_told rest (chop_told (placed_told ready Θ₁ in₁ (and_told (t₁ refl) missed)) rest)))
      (λ t₁ t₂ t₃.
      let first = marks_told ready Θ₁ in₁ (t₁ refl) in
      let later = chop_told (unanswered_told (t₂ refl) (t₃ refl)) rest in
      tells_within _ (omega (arith, many_both Θ₁ Θ₃)) (chop_told rest (placed_told ready Θ₁₃ both (chop_told first later))))
      (λ t₁ t₂ t₃.
      let first = chop_told (marks_told ready Θ₁ in₁ (t₁ refl)) rest in
      let later = chop_told (unanswered_told (t₂ refl) (t₃ refl)) rest in
      tells_within _ (omega (arith, many_both Θ₁ Θ₃)) (chop_told rest (placed_told ready Θ₁₃ both (and_told first later))))
