-- What acceptance of a trace says, opened into one record, and what crates above need of it.
use Rattle.std.proofs.Common.{ℕ, ◌+◌, ◌*◌, ◌^◌, ◌≤◌, ◌<◌, ◌&&◌, List, inl, inr, ◌≡◌, arith, ltb-true, leb-true, eqb-true, leb, eqb, length, get_or, Ok, Err}
use Rattle.semantics.proofs.Tests.{and_left, and_right}
use Rattle.stored.proofs.Rules.{lowest_law, every_at, lowest_kept, length_in_order, get_or_in_order}
use Rattle.stored.specs.declared.refusal.Refusal.{Refusal}
use Rattle.stored.specs.Refusal.{number_of}
use Rattle.stored.proofs.Refusals.{of_value, of_refusal}
use Rattle.traces.specs.Trace.{cycle_count, cycle_at, cycle_right, cycles_right, trace_rules, trace_refusal, trace_answer, cycles_of}

-- a trace to which none of the numbers 10 to 13 applies
pub record TraceOpened (s : ℕ) (t : List ℕ) : Type 0 where
  pub some_cycles : 1 ≤ cycle_count t
  pub few_cycles : cycle_count t ≤ 64
  pub trace_long : length t ≡ 4 + 2 * cycle_count t
  pub cycle_small : (i : ℕ) → i < cycle_count t → cycle_at t i < 2 ^ s

pub trace_opened : (s : ℕ) (t : List ℕ) → trace_refusal s t ≡ 0 → TraceOpened s t
unfolding trace_refusal trace_rules cycles_right cycle_right
trace_opened s t e =
    let r₁₀ = lowest_kept 10 _ _ (omega arith) e in
    let r₁₁ = lowest_kept 11 _ _ (omega arith) r₁₀.1 in
    let r₁₂ = lowest_kept 12 _ _ (omega arith) r₁₁.1 in
    let r₁₃ = lowest_kept 13 _ _ (omega arith) r₁₂.1 in
    let whole = eqb (length t) (4 + 2 * cycle_count t) in
    let most = leb 1 (cycle_count t) && leb (cycle_count t) 64 in
    let rest = and_right whole _ r₁₃.0 in
    let range = and_left most _ rest in
    record {
      some_cycles = leb-true 1 (cycle_count t) (and_left (leb 1 (cycle_count t)) _ range);
      few_cycles = leb-true (cycle_count t) 64 (and_right (leb 1 (cycle_count t)) _ range);
      trace_long = eqb-true (length t) (4 + 2 * cycle_count t) (and_left whole _ r₁₃.0);
      cycle_small = λ i h. ltb-true (cycle_at t i) (2 ^ s) (every_at (cycle_count t) (cycle_right s t) (and_right most _ rest) i h);
    }

pub cycles_accepted : (s : ℕ) (t : List ℕ) (n : ℕ) → trace_answer s t ≡ Ok n → (trace_refusal s t ≡ 0) × (cycle_count t ≡ n)
unfolding trace_answer
cycles_accepted s t n e = of_value (trace_refusal s t) (cycle_count t) n e

pub trace_small : (s : ℕ) (t : List ℕ) → trace_refusal s t < 14
unfolding trace_refusal trace_rules
trace_small s t =
    elim (lowest_law 10 (trace_rules s t) (omega arith)).range [
      | inl e ↦ omega arith
      | inr e ↦ omega (arith, e.1)
    ]

-- a refused trace has the refusal's number
pub cycles_refused : (s : ℕ) (t : List ℕ) (e : Refusal) → trace_answer s t ≡ Err e → number_of e ≡ trace_refusal s t
unfolding trace_answer
cycles_refused s t e is = of_refusal (trace_refusal s t) (cycle_count t) e (let small = trace_small s t in omega arith) is

pub cycles_count : (t : List ℕ) → length (cycles_of t) ≡ cycle_count t
unfolding cycles_of
cycles_count t = length_in_order (cycle_count t) (cycle_at t)

pub cycles_at : (t : List ℕ) (i : ℕ) → i < cycle_count t → get_or (cycles_of t) i 0 ≡ cycle_at t i
unfolding cycles_of
cycles_at t i h = get_or_in_order (cycle_count t) (cycle_at t) i 0 h
