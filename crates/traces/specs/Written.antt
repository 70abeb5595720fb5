-- The stored trace of a list of cycles: document 01's layout, version 1.
use Rattle.std.specs.Prelude.{ℕ, ◌+◌, ◌*◌, ◌/◌, ◌%◌, List, [], ◌∷◌, length}
use Rattle.stored.specs.Layout.{cycles_start, cycle_size, following}

-- the two bytes of each cycle
unfoldable pub cycle_bytes : List ℕ → List ℕ
cycle_bytes [] = []
cycle_bytes (cycle ∷ cycles) = cycle / 256 ∷ cycle % 256 ∷ cycle_bytes cycles

-- where a trace of n cycles ends
abbrev pub trace_end : ℕ → ℕ
trace_end n = cycles_start + cycle_size * n

-- length of the rest, version, signals, then the cycles
unfoldable pub trace_bytes : ℕ → List ℕ → List ℕ
trace_bytes s cycles =
    following (trace_end (length cycles)) / 256 ∷ following (trace_end (length cycles)) % 256 ∷ 1 ∷ s ∷ cycle_bytes cycles
