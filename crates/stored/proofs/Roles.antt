-- The roles by their numbers are three.
use Rattle.std.proofs.Common.{ℕ, zero, suc, ◌≤◌, arith, ◌≡◌, refl, eqb}
use Rattle.semantics.specs.Verdict.{same_role}
use Rattle.stored.specs.declared.clauses.Role.{Role}
use Rattle.stored.specs.declared.clauses.Role.TheVariants.{Assumption, Commitment, Advice}
use Rattle.stored.specs.Types.{role_number}
use Rattle.stored.specs.Clause.{last_role, role_of}

pub same_role_lem : (r e : ℕ) → r ≤ last_role → e ≤ last_role → same_role (role_of r) (role_of e) ≡ eqb r e
unfolding same_role role_of
same_role_lem zero zero h l = refl
same_role_lem zero (suc zero) h l = refl
same_role_lem zero (suc (suc zero)) h l = refl
same_role_lem zero (suc (suc (suc e))) h l = absurd (omega arith)
same_role_lem (suc zero) zero h l = refl
same_role_lem (suc zero) (suc zero) h l = refl
same_role_lem (suc zero) (suc (suc zero)) h l = refl
same_role_lem (suc zero) (suc (suc (suc e))) h l = absurd (omega arith)
same_role_lem (suc (suc zero)) zero h l = refl
same_role_lem (suc (suc zero)) (suc zero) h l = refl
same_role_lem (suc (suc zero)) (suc (suc zero)) h l = refl
same_role_lem (suc (suc zero)) (suc (suc (suc e))) h l = absurd (omega arith)
same_role_lem (suc (suc (suc r))) e h l = absurd (omega arith)

pub role_small : (r : Role) → role_number r ≤ last_role
role_small Assumption = omega arith
role_small Commitment = omega arith
role_small Advice = omega arith
