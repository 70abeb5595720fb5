-- Document 01, "The stored sheet", of a trace, and refusals 10 to 13.
use Rattle.std.specs.Prelude.{ℕ, ◌+◌, ◌-◌, ◌*◌, ◌/◌, ◌^◌, Bool, ◌&&◌, List, [], ◌∷◌, leb, ltb, eqb, length, get_or, Result}
use Rattle.semantics.specs.Proposition.{Trace}
use Rattle.stored.specs.declared.refusal.Refusal.{Refusal}
use Rattle.stored.specs.Bytes.{word, framed_from, every_below, in_order, lowest}
use Rattle.stored.specs.Layout.{cycles_start, cycle_size, most_cycles}
use Rattle.stored.specs.Refusal.{answered}

-- a two-byte word a cycle from byte 4 on
unfoldable pub cycle_count : List ℕ → ℕ
cycle_count t = (length t - cycles_start) / cycle_size

unfoldable pub cycle_at : List ℕ → ℕ → ℕ
cycle_at t i = word t (cycle_size * i + cycles_start)

-- 10. It has 4 bytes or more, and bytes 0–1 are its length less 2.
unfoldable pub trace_framed : List ℕ → Bool
trace_framed t = framed_from cycles_start t

-- 11. Its version is 1.
unfoldable pub trace_versioned : List ℕ → Bool
trace_versioned t = eqb (get_or t 2 0) 1

-- 12. Its signals are the sheet's.
unfoldable pub same_signals : ℕ → List ℕ → Bool
same_signals s t = eqb (get_or t 3 0) s

-- no bit from s up is set at cycle i
unfoldable pub cycle_right : ℕ → List ℕ → ℕ → Bool
cycle_right s t i = ltb (cycle_at t i) (2 ^ s)

-- 13. Its cycles are 1 to 64 whole words, and no bit from s up is set.
unfoldable pub cycles_right : ℕ → List ℕ → Bool
cycles_right s t =
    eqb (length t) (cycles_start + cycle_size * cycle_count t)
    && ((leb 1 (cycle_count t) && leb (cycle_count t) most_cycles) && every_below (cycle_count t) (cycle_right s t))

unfoldable pub trace_rules : ℕ → List ℕ → List Bool
trace_rules s t = trace_framed t ∷ trace_versioned t ∷ same_signals s t ∷ cycles_right s t ∷ []

-- the lowest number that applies to a trace beside a sheet of s signals, or 0: none does, and the trace is accepted
unfoldable pub trace_refusal : ℕ → List ℕ → ℕ
trace_refusal s t = lowest 10 (trace_rules s t)

-- how many cycles a trace has to which no number applies, or the refusal with the lowest number that does
unfoldable pub trace_answer : ℕ → List ℕ → Result ℕ Refusal
trace_answer s t = answered (trace_refusal s t) (cycle_count t)

unfoldable pub cycles_of : List ℕ → Trace
cycles_of t = in_order (cycle_count t) (cycle_at t)
