-- Masks as sets of names: bit u is name u.
use Rattle.std.proofs.Common.{ℕ, ◌-◌, ◌^◌, ◌<◌, Bool, not, ◌&&◌, inl, inr, ◌≡◌, sym, ap, ◌∙◌, bit_and, bit_or, ltb, ltb-true, ltb-false}
use mathlib.Core.Path.{fun_ext}
use Rattle.semantics.specs.Proposition.{bit}
use Rattle.semantics.specs.Placement.{no_names, union, without}
use Rattle.semantics.proofs.Tests.{test, and_false_left}
use Rattle.rows.proofs.Bits.{bit_and_lem, bit_or_lem, bit_not, bit_above, bit_nothing}

pub no_mask : bit 0 ≡ no_names
unfolding no_names
no_mask = fun_ext bit_nothing

pub both_masks : (a b : ℕ) → bit (bit_or a b) ≡ union (bit a) (bit b)
unfolding union
both_masks a b = fun_ext (bit_or_lem a b)

pub less_mask : (a b : ℕ) → a < 2 ^ 64 → b < 2 ^ 64 → bit (bit_and a (2 ^ 64 - 1 - b)) ≡ without (bit a) (bit b)
unfolding without
less_mask a b ha hb = fun_ext at
  where
    at : (u : ℕ) → bit (bit_and a (2 ^ 64 - 1 - b)) u ≡ (bit a u && not (bit b u))
    at u =
        bit_and_lem a (2 ^ 64 - 1 - b) u
        ∙ (elim (test (ltb u 64)) [
          | inl h ↦ ap (λ (r : Bool). bit a u && r) (bit_not 64 b u hb (ltb-true u 64 h))
          | inr h ↦
              let e = bit_above 64 a u ha (ltb-false u 64 h) in
              and_false_left (bit a u) (bit (2 ^ 64 - 1 - b) u) e ∙ sym (and_false_left (bit a u) (not (bit b u)) e)
        ])
