-- `traces::trace::signal_column` meets its contract.
use Rattle.std.proofs.Common.{◌≡◌, sym, ◌∙◌, ap, ap₂, arith, ℕ, bit_or}
use Rattle.semantics.specs.Proposition.{bit}
use Rattle.traces.specs.Columns.{signal_column}
use Rattle.traces.proofs.Columns.{signal_none, signal_set, signal_unset}
use Rattle.traces.proofs.trace.signal_column.Goals as goal
use Rattle.traces.proofs.trace.signal_column.Goals.{then-has, else-has}

pub loop-t-init : goal.loop-t-init
loop-t-init c = signal_none _ _

pub loop-t-preserved : goal.loop-t-preserved
loop-t-preserved c =
    let at = c.loop-t in
    let a = c.args in
    let value = ap (λ (z : ℕ). bit z a.k) (sym c.cycle_at-signals.ensures.0) ∙ sym c.has.ensures in
    elim c.if-has.branch [
      | then-has w ↦ w.out-is ∙ ap₂ bit_or at.invariant w.only-out.ensures
          ∙ signal_set a.trace.now at.t a.k (omega arith) (value ∙ w.if-has.true)
      | else-has w ↦ w.out-is ∙ at.invariant ∙ signal_unset a.trace.now at.t a.k (value ∙ w.if-has.false)
    ]

pub returns : goal.returns
returns c =
    let a = c.args in
    let end : c.loop-t.t ≡ a.n = omega arith in
    c.loop-t.invariant ∙ ap (λ (n : ℕ). signal_column a.trace.now n a.k) end
