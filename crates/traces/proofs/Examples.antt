-- Document 01's example trace, and one that is refused.
use Rattle.std.proofs.Common.{ℕ, List, [], ◌∷◌, ◌≡◌, refl, set}
use Rattle.stored.specs.Bytes.{word, framed_from, every_below, in_order, lowest}
use Rattle.traces.specs.Trace.{cycle_count, cycle_at, trace_framed, trace_versioned, same_signals, cycle_right, cycles_right, trace_rules, trace_refusal, cycles_of}

unfoldable computing : ℕ
unfolding word framed_from every_below in_order lowest cycle_count cycle_at trace_framed trace_versioned same_signals cycle_right cycles_right trace_rules trace_refusal cycles_of
computing = 0

abbrev trace : List ℕ
trace = 0 ∷ 8 ∷ 1 ∷ 1 ∷ 0 ∷ 0 ∷ 0 ∷ 0 ∷ 0 ∷ 1 ∷ []

trace_accepted : trace_refusal 1 trace ≡ 0
unfolding computing
trace_accepted = refl

trace_cycles : cycles_of trace ≡ 0 ∷ 0 ∷ 1 ∷ []
unfolding computing
trace_cycles = refl

-- a signal bit from s up
bit_refused : trace_refusal 1 (set trace 9 2) ≡ 13
unfolding computing
bit_refused = refl
