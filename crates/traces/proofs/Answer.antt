-- The order of a trace's refusals.
use Rattle.std.proofs.Common.{ℕ, ◌≤◌, true, false, List, ◌≡◌, length, Ok, Err}
use Rattle.stored.specs.Bytes.{lowest}
use Rattle.stored.specs.Tree.{pick}
use Rattle.stored.proofs.Answer.{framed_from_lem}
use Rattle.stored.specs.declared.refusal.Refusal.TheVariants.{TraceNotFramed, UnknownTraceVersion, OtherSignals, InvalidCycles}
use Rattle.stored.specs.Refusal.{refusals, refusal_numbered, answered}
use Rattle.traces.specs.Trace.{cycle_count, trace_framed, trace_versioned, same_signals, cycles_right, trace_rules, trace_refusal, trace_answer}

-- rules 10 to 12 of a trace, with s signals on its sheet
pub record TraceHeaded (s : ℕ) (t : List ℕ) : Type 0 where
  pub rule10 : trace_framed t ≡ true
  pub rule11 : trace_versioned t ≡ true
  pub rule12 : same_signals s t ≡ true

module _ (s : ℕ) (t : List ℕ) where
  pub refused10 : trace_framed t ≡ false → Err TraceNotFramed ≡ trace_answer s t
  unfolding trace_answer answered refusal_numbered refusals trace_refusal trace_rules lowest pick
  refused10 e = rw e

  pub refused11 : trace_framed t ≡ true → trace_versioned t ≡ false → Err UnknownTraceVersion ≡ trace_answer s t
  unfolding trace_answer answered refusal_numbered refusals trace_refusal trace_rules lowest pick
  refused11 r₁₀ e = rw (r₁₀, e)

  pub refused12 : trace_framed t ≡ true → trace_versioned t ≡ true → same_signals s t ≡ false → Err OtherSignals ≡ trace_answer s t
  unfolding trace_answer answered refusal_numbered refusals trace_refusal trace_rules lowest pick
  refused12 r₁₀ r₁₁ e = rw (r₁₀, r₁₁, e)

  pub refused13 : TraceHeaded s t → cycles_right s t ≡ false → Err InvalidCycles ≡ trace_answer s t
  unfolding trace_answer answered refusal_numbered refusals trace_refusal trace_rules lowest pick
  refused13 h e = rw (h.rule10, h.rule11, h.rule12, e)

  pub trace_accepted : TraceHeaded s t → cycles_right s t ≡ true → Ok (cycle_count t) ≡ trace_answer s t
  unfolding trace_answer answered refusal_numbered refusals trace_refusal trace_rules lowest pick
  trace_accepted h e = rw (h.rule10, h.rule11, h.rule12, e)

  pub trace_framed_long : trace_framed t ≡ true → 4 ≤ length t
  unfolding trace_framed
  trace_framed_long e = framed_from_lem 4 t e
