-- Advice stands beside the finding (request 5): bit k of a verdict's byte says whether clause k is advice and fails, whatever the finding is, and
-- neither the requirement nor its formula hears of it.
use Rattle.std.proofs.Common.{suc, ◌+◌, ◌*◌, ◌^◌, ◌<◌, pow-suc, arith, Bool, true, false, not, cond, ◌||◌, List, [], ◌∷◌, ◌++◌, ◌≡◌, refl, ap, ap₂, ◌∙◌, length}
use Rattle.semantics.specs.Proposition.{Trace, bit}
use Rattle.semantics.specs.Formula.{Formula, disjunction, negation}
use Rattle.semantics.specs.Clause.{Role, assumption_role, commitment, advice, Clause}
use Rattle.semantics.specs.Verdict.{same_role, has_role, fails_as, some_fails, requirement, beside_advice, without_advice, advice_of, verdict}
use Rattle.semantics.specs.Translation.{nothing, broken_clause, join_broken, translation}
use Rattle.semantics.proofs.Bits.{bit_lowest, bit_higher}

-- ---- the byte
bit_of : (earlier : List Clause) (c : Clause) (later : List Clause) (σ : Trace) → bit (advice_of (earlier ++ c ∷ later) σ) (length earlier) ≡ fails_as advice σ c
unfolding advice_of
bit_of [] c later σ = bit_lowest (advice_of later σ) (fails_as advice σ c)
bit_of (d ∷ earlier) c later σ = bit_higher (advice_of (earlier ++ c ∷ later) σ) (fails_as advice σ d) (length earlier) ∙ bit_of earlier c later σ

-- a clause's bit is set exactly if it is advice and fails
pub advice_bit : (earlier : List Clause) (c : Clause) (later : List Clause) (σ : Trace)
    → bit (verdict (earlier ++ c ∷ later) σ).advice (length earlier) ≡ fails_as advice σ c
unfolding verdict
advice_bit earlier c later σ = bit_of earlier c later σ

-- and there are no others
pub advice_small : (cs : List Clause) (σ : Trace) → advice_of cs σ < 2 ^ length cs
unfolding advice_of
advice_small [] σ = omega arith
advice_small (c ∷ cs) σ = go (fails_as advice σ c) (advice_small cs σ)
  where
    go : (b : Bool) → advice_of cs σ < 2 ^ length cs → advice_of cs σ * 2 + cond b 1 0 < 2 ^ suc (length cs)
    go true h = rw (pow-suc 2 (length cs)) (omega arith)
    go false h = rw (pow-suc 2 (length cs)) (omega arith)

-- ---- what does not hear of it
module _ (c : Clause) (is : c.role ≡ advice) where
  fails_over : (r : Role) → same_role r advice ≡ false → (earlier later : List Clause) (σ : Trace)
      → some_fails r (earlier ++ c ∷ later) σ ≡ some_fails r (earlier ++ later) σ
  unfolding some_fails fails_as has_role
  fails_over r other [] later σ = rw (is, other)
  fails_over r other (d ∷ earlier) later σ = ap (λ (b : Bool). fails_as r σ d || b) (fails_over r other earlier later σ)

  -- advice never makes a requirement true or false
  pub requirement_over : (earlier later : List Clause) (σ : Trace) → requirement (earlier ++ c ∷ later) σ ≡ requirement (earlier ++ later) σ
  unfolding requirement same_role
  requirement_over earlier later σ =
      ap₂ (λ (a b : Bool). a || not b) (fails_over assumption_role refl earlier later σ) (fails_over commitment refl earlier later σ)

  join_over : (r : Role) → same_role r advice ≡ false → (earlier later : List Clause) (f : Formula)
      → join_broken r f (earlier ++ c ∷ later) ≡ join_broken r f (earlier ++ later)
  unfolding join_broken has_role
  join_over r other [] later f = rw (is, other)
  join_over r other (d ∷ earlier) later f = join_over r other earlier later (cond (has_role r d) (disjunction f (broken_clause d)) f)

  -- and is not part of its formula
  pub translation_over : (earlier later : List Clause) → translation (earlier ++ c ∷ later) ≡ translation (earlier ++ later)
  unfolding translation same_role
  translation_over earlier later =
      ap₂ (λ (f g : Formula). disjunction f (negation g)) (join_over assumption_role refl earlier later nothing) (join_over commitment refl earlier later nothing)

-- ---- the formula is that of the other clauses
join_without : (r : Role) → same_role r advice ≡ false → (cs : List Clause) (f : Formula) → join_broken r f (without_advice cs) ≡ join_broken r f cs
unfolding join_broken without_advice beside_advice has_role
join_without r other [] f = refl
join_without r other (c ∷ cs) f = go c.role refl (join_without r other cs)
  where
    go : (k : Role) → c.role ≡ k → ((g : Formula) → join_broken r g (without_advice cs) ≡ join_broken r g cs)
        → join_broken r f (beside_advice k c (without_advice cs)) ≡ join_broken r (cond (has_role r c) (disjunction f (broken_clause c)) f) cs
    go assumption_role e later = later (cond (has_role r c) (disjunction f (broken_clause c)) f)
    go commitment e later = later (cond (has_role r c) (disjunction f (broken_clause c)) f)
    go advice e later = rw (e, other) (later f)

pub translation_without : (cs : List Clause) → translation (without_advice cs) ≡ translation cs
unfolding translation same_role
translation_without cs =
    ap₂ (λ (f g : Formula). disjunction f (negation g)) (join_without assumption_role refl cs nothing) (join_without commitment refl cs nothing)
