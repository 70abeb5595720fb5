-- The stored trace of cycles is accepted, and its cycles are these.
use Rattle.std.proofs.Common.{ℕ, zero, suc, ◌+◌, ◌*◌, ◌/◌, ◌%◌, ◌^◌, ◌≤◌, ◌<◌, true, ◌&&◌, List, [], ◌∷◌, ◌++◌, ◌≡◌, refl, sym, ◌∙◌, ap, ap₂, arith, lt-ltb, le-leb, eq-eqb, leb, eqb, length, get_or, set, take, length-take-le, take-suc, ext_get_or}
use lib.Seq.{sets}
use Rattle.semantics.proofs.Tests.{and_intro}
use Rattle.stored.specs.Bytes.{word, framed_from, lowest}
use Rattle.stored.specs.Layout.{cycles_start, following}
use Rattle.stored.proofs.Rules.{every_all}
use Rattle.stored.proofs.Written.{sets_then, sets_front, halves}
use Rattle.traces.specs.Trace.{cycle_count, cycle_at, trace_framed, trace_versioned, same_signals, cycle_right, cycles_right, trace_rules, trace_refusal, cycles_of}
use Rattle.traces.specs.Written.{cycle_bytes, trace_end, trace_bytes}
use Rattle.traces.proofs.Accepted.{cycles_count, cycles_at}

-- ---- the bytes of cycles
pub cycle_bytes_length : (ws : List ℕ) → length (cycle_bytes ws) ≡ 2 * length ws
unfolding cycle_bytes
cycle_bytes_length [] = refl
cycle_bytes_length (w ∷ ws) = let more = cycle_bytes_length ws in omega arith

cycle_bytes_more : (ws : List ℕ) (w : ℕ) → cycle_bytes (ws ++ (w ∷ [])) ≡ cycle_bytes ws ++ (w / 256 ∷ w % 256 ∷ [])
unfolding cycle_bytes
cycle_bytes_more [] w = refl
cycle_bytes_more (v ∷ ws) w = ap (λ (l : List ℕ). v / 256 ∷ v % 256 ∷ l) (cycle_bytes_more ws w)

cycle_bytes_at : (ws : List ℕ) (i : ℕ) → i < length ws → word (cycle_bytes ws) (2 * i) ≡ get_or ws i 0
unfolding cycle_bytes word
cycle_bytes_at [] i h = absurd (omega arith)
cycle_bytes_at (w ∷ ws) zero h = halves w
cycle_bytes_at (w ∷ ws) (suc i) h =
    let here : 2 * suc i ≡ suc (suc (2 * i)) = omega arith in
    let next : suc (suc (2 * i)) + 1 ≡ suc (suc (2 * i + 1)) = omega arith in
    rw here (rw next (cycle_bytes_at ws i (omega arith)))

-- one cycle more is put
pub cycles_more : (x ws : List ℕ) (i : ℕ) → i < length ws
    → set (set (sets x cycles_start (cycle_bytes (take i ws))) (trace_end i) (get_or ws i 0 / 256)) (trace_end i + 1) (get_or ws i 0 % 256) ≡ sets x cycles_start (cycle_bytes (take (i + 1) ws))
cycles_more x ws i h =
    let w = get_or ws i 0 in
    let l = cycle_bytes (take i ws) in
    let long = cycle_bytes_length (take i ws) in
    let few = length-take-le i ws (omega arith) in
    let end : trace_end i ≡ cycles_start + length l = omega arith in
    let after : trace_end i + 1 ≡ suc (cycles_start + length l) = omega arith in
    let next : suc i ≡ i + 1 = omega arith in
    ap₂ (λ (j k : ℕ). set (set (sets x cycles_start l) j (w / 256)) k (w % 256)) end after
    ∙ sets_then x cycles_start l (w / 256 ∷ w % 256 ∷ [])
    ∙ ap (λ (m : List ℕ). sets x cycles_start m)
    (sym (cycle_bytes_more (take i ws) w) ∙ ap cycle_bytes (sym (take-suc ws i 0 h) ∙ ap (λ (j : ℕ). take j ws) next))

-- ---- the stored trace
module _ (s : ℕ) (ws : List ℕ) where
  pub trace_length : length (trace_bytes s ws) ≡ trace_end (length ws)
  unfolding trace_bytes
  trace_length = let long = cycle_bytes_length ws in omega arith

  trace_count : cycle_count (trace_bytes s ws) ≡ length ws
  unfolding cycle_count
  trace_count = let long = trace_length in omega arith

  trace_cycle : (i : ℕ) → i < length ws → cycle_at (trace_bytes s ws) i ≡ get_or ws i 0
  unfolding cycle_at trace_bytes word
  trace_cycle i h =
      let here : 2 * i + 4 ≡ suc (suc (suc (suc (2 * i)))) = omega arith in
      let next : suc (suc (suc (suc (2 * i)))) + 1 ≡ suc (suc (suc (suc (2 * i + 1)))) = omega arith in
      rw here (rw next (cycle_bytes_at ws i h))

  pub trace_cycles : cycles_of (trace_bytes s ws) ≡ ws
  trace_cycles =
      let many = cycles_count (trace_bytes s ws) ∙ trace_count in
      ext_get_or 0 (cycles_of (trace_bytes s ws)) ws many
      (λ i h. cycles_at (trace_bytes s ws) i (omega (arith, trace_count)) ∙ trace_cycle i (omega arith))

  trace_framed_lem : trace_framed (trace_bytes s ws) ≡ true
  unfolding trace_framed framed_from trace_bytes word
  trace_framed_lem =
      let t = trace_bytes s ws in
      let long = trace_length in
      and_intro (leb 4 (length t)) _ (le-leb 4 (length t) (omega arith))
      (eq-eqb (word t 0) (following (length t)) (halves (following (trace_end (length ws))) ∙ ap following (sym long)))

  module _ (some : 1 ≤ length ws) (few : length ws ≤ 64) (small : (i : ℕ) → i < length ws → get_or ws i 0 < 2 ^ s) where
    trace_right : cycles_right s (trace_bytes s ws) ≡ true
    unfolding cycles_right cycle_right
    trace_right =
        let t = trace_bytes s ws in
        let count = trace_count in
        and_intro (eqb (length t) (4 + 2 * cycle_count t)) _ (eq-eqb (length t) (4 + 2 * cycle_count t) (omega (arith, trace_length)))
        (and_intro (leb 1 (cycle_count t) && leb (cycle_count t) 64) _
        (and_intro (leb 1 (cycle_count t)) _ (le-leb 1 (cycle_count t) (omega arith)) (le-leb (cycle_count t) 64 (omega arith)))
        (every_all (cycle_count t) (cycle_right s t)
        (λ i h. let at = trace_cycle i (omega arith) in lt-ltb (cycle_at t i) (2 ^ s) (omega (arith, small i (omega arith))))))

    -- none of the numbers 10 to 13 applies to it
    pub trace_accepted : trace_refusal s (trace_bytes s ws) ≡ 0
    unfolding trace_refusal trace_rules lowest trace_versioned same_signals trace_bytes
    trace_accepted = rw (trace_framed_lem, eq-eqb s s refl, trace_right)

-- lent bytes into which it was put
pub trace_front : (x y : List ℕ) (s : ℕ) (ws : List ℕ) (end : ℕ) → trace_end (length ws) ≤ length x → y ≡ sets x 0 (trace_bytes s ws) → end ≡ trace_end (length ws)
    → take end y ≡ trace_bytes s ws
trace_front x y s ws end fits e f =
    let long = trace_length s ws in
    ap₂ take (f ∙ sym long) e ∙ sets_front x (trace_bytes s ws) (omega arith)
