-- Drawings told by other formulas: that each takes at most 12 nodes.
use Rattle.std.proofs.Common.{ℕ, ◌<◌, List, arith}
use Rattle.semantics.specs.Formula.{Symbol, low, high, either, low_stretch, high_stretch, either_stretch, steady}
use Rattle.semantics.specs.Translation.{undrawn_symbol, undrawn_mark, undrawn_gap}
use Rattle.stored.specs.Sheet.{header_of}
use Rattle.plans.specs.Emission.{Ready}
use Rattle.plans.proofs.Plans.{Tells, tells_within, everywhere_told, name_told, chop_told, and_told, or_told}
use Rattle.plans.proofs.Plans.{point_told, stretch_told, unit_told, negated_told, signal_told, exactly_told, no_more_told, no_less_told}

module _ {y : List ℕ} (ready : Ready y) where
  pub symbol_told : {k : ℕ} (s : Symbol) → k < (header_of y).signals → Tells y (undrawn_symbol s k) (undrawn_symbol s k) 12
  unfolding undrawn_symbol
  symbol_told low l = tells_within 12 (omega arith) (unit_told (negated_told (signal_told l)))
  symbol_told high l = tells_within 12 (omega arith) (unit_told (signal_told l))
  symbol_told either l = tells_within 12 (omega arith) (exactly_told (omega arith))
  symbol_told low_stretch l = tells_within 12 (omega arith) (stretch_told (negated_told (signal_told l)))
  symbol_told high_stretch l = tells_within 12 (omega arith) (stretch_told (signal_told l))
  symbol_told either_stretch l = tells_within 12 (omega arith) (everywhere_told ready)
  symbol_told steady l = tells_within 12 (omega arith) (or_told (stretch_told (negated_told (signal_told l))) (stretch_told (signal_told l)))

  pub mark_told : {u : ℕ} → u < (header_of y).names → Tells y (undrawn_mark u) (undrawn_mark u) 12
  unfolding undrawn_mark
  mark_told l = tells_within 12 (omega arith) (and_told (exactly_told (omega arith)) (point_told (name_told ready l)))

  pub gap_told : {u v least most : ℕ} → u < (header_of y).names → v < (header_of y).names → least < 65536 → most < 65536
      → Tells y (undrawn_gap u v least most) (undrawn_gap u v least most) 12
  unfolding undrawn_gap
  gap_told l l' h h' =
      let range = and_told (no_less_told ready h) (no_more_told h') in
      let gap = and_told (point_told (name_told ready l)) range in
      tells_within 12 (omega arith) (chop_told (everywhere_told ready) (chop_told gap (point_told (name_told ready l'))))
