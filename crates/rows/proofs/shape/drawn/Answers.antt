-- `rows::shape::drawn` meets its contract.
use Rattle.std.proofs.Common.{◌≡◌, sym, ap, ap₂, ◌∙◌, ℕ, arith, bit_or}
use Rattle.semantics.specs.Proposition.{bit}
use Rattle.semantics.specs.Formula.{drawn_on}
use Rattle.rows.specs.Row.{row}
use Rattle.rows.specs.Symbols.{symbol_of}
use Rattle.rows.specs.declared.shape.Symbol.{Symbol}
use Rattle.rows.proofs.Shapes.{low_is, either_is, low_stretch_is, steady_is}
use Rattle.rows.proofs.shape.drawn.Goals as goal

-- the row of a symbol that is told
told : (n column b : ℕ) {s t : Symbol} → t ≡ s → row n (λ b e. drawn_on (symbol_of t) (bit column) b e) b ≡ row n (λ b e. drawn_on (symbol_of s) (bit column) b e) b
told n column b q = ap (λ (s : Symbol). row n (λ b e. drawn_on (symbol_of s) (bit column) b e) b) q

pub returns-in-Low : goal.returns-in-Low
returns-in-Low c =
    let a = c.args in
    let p = c.requires in
    c.unit.ensures ∙ low_is a.n a.column a.b p.1 (omega arith) p.0 ∙ told a.n a.column a.b (sym c.in-Low.is)

pub returns-in-High : goal.returns-in-High
unfolding drawn_on
returns-in-High c =
    let a = c.args in
    c.unit-in-High.ensures ∙ told a.n a.column a.b (sym c.in-High.is)

pub returns-in-Either : goal.returns-in-Either
returns-in-Either c =
    let a = c.args in
    let p = c.requires in
    c.unit-in-Either.ensures ∙ either_is a.n a.column a.b p.1 p.0 ∙ told a.n a.column a.b (sym c.in-Either.is)

pub returns-in-LowStretch : goal.returns-in-LowStretch
returns-in-LowStretch c =
    let a = c.args in
    let p = c.requires in
    c.stretch.ensures ∙ low_stretch_is a.n a.column a.b p.1 (omega arith) ∙ told a.n a.column a.b (sym c.in-LowStretch.is)

pub returns-in-HighStretch : goal.returns-in-HighStretch
unfolding drawn_on
returns-in-HighStretch c =
    let a = c.args in
    c.stretch-in-HighStretch.ensures ∙ told a.n a.column a.b (sym c.in-HighStretch.is)

pub returns-in-EitherStretch : goal.returns-in-EitherStretch
unfolding drawn_on
returns-in-EitherStretch c =
    let a = c.args in
    c.cycles_from.ensures ∙ told a.n a.column a.b (sym c.in-EitherStretch.is)

pub returns-in-Steady : goal.returns-in-Steady
returns-in-Steady c =
    let a = c.args in
    let p = c.requires in
    ap₂ bit_or c.stretch-in-Steady.ensures c.stretch-in-Steady-2.ensures ∙ steady_is a.n a.column a.b p.1 (omega arith) ∙ told a.n a.column a.b (sym c.in-Steady.is)
