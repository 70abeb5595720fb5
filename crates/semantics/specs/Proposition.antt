-- Document 01, "Propositions, at one cycle"; document 004, section 2.
use Rattle.std.specs.Prelude.{ℕ, ◌/◌, ◌%◌, ◌^◌, Bool, true, false, not, ◌&&◌, ◌||◌, List, eqb, get_or}

pub data Proposition : Type 0 where
  never always : Proposition
  signal : ℕ → Proposition
  name : ℕ → Proposition
  negated : Proposition → Proposition
  both_of either_of : Proposition → Proposition → Proposition

-- a word a cycle: bit k of it is signal k at that cycle
abbrev pub Trace : Type 0
Trace = List ℕ

-- which names are marked at which cycles (a name is document 004's nominal): name, then cycle
abbrev pub Marks : Type 0
Marks = ℕ → ℕ → Bool

unfoldable pub bit : ℕ → ℕ → Bool
bit x k = eqb (x / 2 ^ k % 2) 1

unfoldable pub signal_at : Trace → ℕ → ℕ → Bool
signal_at σ k t = bit (get_or σ t 0) k

unfoldable pub holds_at : Proposition → Trace → Marks → ℕ → Bool
holds_at never σ μ t = false
holds_at always σ μ t = true
holds_at (signal k) σ μ t = signal_at σ k t
holds_at (name u) σ μ t = μ u t
holds_at (negated p) σ μ t = not (holds_at p σ μ t)
holds_at (both_of p q) σ μ t = holds_at p σ μ t && holds_at q σ μ t
holds_at (either_of p q) σ μ t = holds_at p σ μ t || holds_at q σ μ t
