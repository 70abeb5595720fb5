-- What an emitted formula says as cycles are added (request 7), as a monitor asks it after each of them.
use Rattle.std.proofs.Common.{ℕ, ◌<◌, arith, true, false, List, ◌++◌, ◌≡◌, sym, ◌∙◌, length}
use Rattle.semantics.specs.Proposition.{Trace}
use Rattle.semantics.specs.Clause.{assumption_role}
use Rattle.semantics.specs.Verdict.{some_fails}
use Rattle.semantics.proofs.Longer.{longer}
use Rattle.semantics.proofs.Lasting.{requirement_false, requirement_true}
use Rattle.stored.specs.Sheet.{clauses_of, requirement_of}
use Rattle.stored.specs.Emitted.{emitted_true}
use Rattle.translator.specs.Translated.{FormulaOf}

-- y is an emitted formula for sheet s, σ the cycles so far
module _ (s y : List ℕ) (formula : FormulaOf s y) (σ more : Trace) (some : 0 < length σ) where
  -- once it is false, it is true of more cycles exactly if an assumption fails of those
  pub once_false : emitted_true y σ ≡ false → emitted_true y (σ ++ more) ≡ some_fails assumption_role (clauses_of s) (σ ++ more)
  unfolding requirement_of
  once_false h =
      formula.agreement (σ ++ more) (omega (arith, longer σ more))
      ∙ requirement_false σ more (clauses_of s) (sym (formula.agreement σ some) ∙ h)

  -- and from there on it is true
  pub once_excused : some_fails assumption_role (clauses_of s) σ ≡ true → emitted_true y (σ ++ more) ≡ true
  unfolding requirement_of
  once_excused h = formula.agreement (σ ++ more) (omega (arith, longer σ more)) ∙ requirement_true σ more (clauses_of s) h
