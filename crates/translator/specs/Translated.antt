-- The promise of translate: the translator's side of document 01's demand 3.
use Rattle.std.specs.Prelude.{ℕ, ◌≤◌, ◌<◌, true, List, ◌≡◌, length, take, drop, Result}
use Rattle.semantics.specs.Proposition.{Trace}
use Rattle.semantics.specs.Verdict.{without_advice}
use Rattle.semantics.specs.Translation.{translation}
use Rattle.stored.specs.Sheet.{header_of, nodes_of, clauses_of, requirement_of}
use Rattle.stored.specs.Emitted.{is_emitted, root_of, emitted_formula, emitted_true}
use Rattle.stored.specs.Reached.{Reached}
use Rattle.stored.specs.declared.refusal.Refusal.{Refusal}
use Rattle.stored.specs.Refusal.{answered}
use Rattle.stored.specs.Output.{written_length}
use Rattle.translator.specs.Refusal.{translate_refusal}
use Rattle.plans.specs.Bound.{node_bound}

-- y is an emitted formula for sheet s
pub record FormulaOf (s y : List ℕ) : Type 0 where
  -- a kind 2 sheet by its length field and counts, each node naming earlier nodes only, the root its last node, each name under its quantifier
  pub form : is_emitted y ≡ true
  pub signals : (header_of y).signals ≡ (header_of s).signals
  pub names : (header_of y).names ≡ (header_of s).names
  pub bound : (header_of y).nodes ≤ node_bound s
  -- it is all of what is written: the root reaches every node
  pub reached : (i : ℕ) → i < (header_of y).nodes → Reached (nodes_of y) (root_of y) i
  -- the formula of the clauses that are no advice
  pub tree : emitted_formula y ≡ translation (without_advice (clauses_of s))
  -- true of exactly the lists of at least one cycle of which the requirement is
  pub agreement : (σ : Trace) → 0 < length σ → emitted_true y σ ≡ requirement_of s σ

-- output bytes x became y, and the answer is r
pub record Translated (s x y : List ℕ) (r : Result ℕ Refusal) : Type 0 where
  pub answer : r ≡ answered (translate_refusal s (length x)) (written_length r)
  pub size : length y ≡ length x
  pub unchanged : (translate_refusal s (length x) ≡ 0 → ⊥) → y ≡ x
  -- where no number applies: the formula, whose length is answered; later bytes keep their values
  pub formula : translate_refusal s (length x) ≡ 0 → FormulaOf s (take (written_length r) y)
  pub long : translate_refusal s (length x) ≡ 0 → length (take (written_length r) y) ≡ written_length r
  pub later : translate_refusal s (length x) ≡ 0 → drop (written_length r) y ≡ drop (written_length r) x
