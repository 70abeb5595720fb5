-- Document 01, demand 3, as one claim over every accepted sheet, every trace, the bytes written and the check's verdict.
use Rattle.std.specs.Prelude.{ℕ, ◌≤◌, ◌<◌, Bool, true, false, not, List, ◌≡◌, length, take, Result, Ok, Err}
use Rattle.semantics.specs.Proposition.{Trace}
use Rattle.stored.specs.Sheet.{header_of, requirement_of}
use Rattle.traces.specs.Trace.{cycles_of}
use Rattle.stored.specs.Emitted.{is_emitted, emitted_true}
use Rattle.stored.specs.declared.refusal.Refusal.{Refusal}
use Rattle.checker.specs.declared.check.Verdict.{Verdict}
use Rattle.checker.specs.declared.check.Finding.{Finding}
use Rattle.checker.specs.declared.check.Finding.TheVariants.{Excused, Broken, Holds}
use Rattle.checker.specs.Check.{check_refusal}
use Rattle.stored.specs.Output.{written_length}
use Rattle.translator.specs.Refusal.{translate_refusal}
use Rattle.plans.specs.Bound.{node_bound}

unfoldable pub is_broken : Finding → Bool
is_broken (Excused clause) = false
is_broken (Broken place) = true
is_broken Holds = false

-- the check says Broken; it says another verdict. Advice beside it says nothing of the requirement.
unfoldable pub says_broken : Result Verdict Refusal → Bool
says_broken (Err refusal) = false
says_broken (Ok v) = is_broken v.finding

unfoldable pub says_other : Result Verdict Refusal → Bool
says_other (Err refusal) = false
says_other (Ok v) = not (is_broken v.finding)

-- the bytes that were written: the formula is what they say
unfoldable pub written : List ℕ → Result ℕ Refusal → List ℕ
written y r = take (written_length r) y

-- Sheet s was translated into y with answer r, and checked on trace t with answer v; `size` bytes and `words` were lent. No number of the
-- translator's applies.
pub record Joint (s y : List ℕ) (r : Result ℕ Refusal) (size : ℕ) (t words : List ℕ) (v : Result Verdict Refusal) : Type 0 where
  -- the written bytes are a kind 2 sheet of the same signals and names, within the bound
  pub form : translate_refusal s size ≡ 0 → is_emitted (written y r) ≡ true
  pub signals : translate_refusal s size ≡ 0 → (header_of (written y r)).signals ≡ (header_of s).signals
  pub names : translate_refusal s size ≡ 0 → (header_of (written y r)).names ≡ (header_of s).names
  pub bound : translate_refusal s size ≡ 0 → (header_of (written y r)).nodes ≤ node_bound s
  -- on any list of at least one cycle their formula is true exactly when the requirement is
  pub agreement : translate_refusal s size ≡ 0 → (σ : Trace) → 0 < length σ → emitted_true (written y r) σ ≡ requirement_of s σ
  -- on any stored trace, where no number applies, the check says Broken exactly when that formula is false of the trace's cycles,
  -- and another verdict exactly when it is true
  pub broken : translate_refusal s size ≡ 0 → check_refusal s t words ≡ 0 → says_broken v ≡ not (emitted_true (written y r) (cycles_of t))
  pub other : translate_refusal s size ≡ 0 → check_refusal s t words ≡ 0 → says_other v ≡ emitted_true (written y r) (cycles_of t)
