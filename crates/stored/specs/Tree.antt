-- The proposition or formula that a node stands for. It goes over a function that gives the nodes, so that stored and emitted nodes are
-- read alike, and serves both kinds.
use Rattle.std.specs.Prelude.{ℕ, zero, suc, ◌/◌, ◌%◌, Bool, true, false, List, [], ◌∷◌, ltb, get_or}
use Rattle.semantics.specs.Proposition.{Proposition, never, always, signal, name, negated, both_of, either_of}
use Rattle.semantics.specs.Formula.{Comparison, below, Symbol, Formula, point, stretch, whole, unit, chop, conjunction, disjunction, star, slen, scount, sdur, drawn, at, gap, negation, for_some}
use Rattle.rows.specs.Symbols.{comparison_numbered, symbol_numbered}
use Rattle.stored.specs.declared.Node.{Node}

unfoldable pub pick : {A : Type 0} → Bool → A → A → A
pick true x y = x
pick false x y = y

-- t at the numbers below i, and d at the others
unfoldable pub earlier : {A : Type 0} → ℕ → A → (ℕ → A) → ℕ → A
earlier i d t k = let x = t k in pick (ltb k i) x d

-- what `step` makes of i and of what it makes of earlier numbers; d stands for what is not earlier
unfoldable pub deep : {A : Type 0} → A → (ℕ → (ℕ → A) → A) → ℕ → ℕ → A
deep d step zero i = d
deep d step (suc more) i = step i (earlier i d (deep d step more))

unfoldable pub made : {A : Type 0} → A → (ℕ → (ℕ → A) → A) → ℕ → A
made d step i = deep d step (suc i) i

-- the ops of document 01 by number; `noProposition` and `noFormula` are other ops
pub data PropositionOp : Type 0 where
  never_op always_op signal_op name_op negated_op both_op either_op no_proposition : PropositionOp

pub data FormulaOp : Type 0 where
  point_op stretch_op whole_op unit_op chop_op conjunction_op disjunction_op star_op slen_op scount_op sdur_op : FormulaOp
  drawn_op at_op gap_op negation_op for_some_op no_formula : FormulaOp

unfoldable pub proposition_op : ℕ → PropositionOp
proposition_op op =
    get_or
    (no_proposition ∷ never_op ∷ always_op ∷ signal_op ∷ name_op ∷ negated_op ∷ both_op ∷ either_op ∷ [])
    op
    no_proposition

abbrev pub formula_ops : List FormulaOp
formula_ops =
    no_formula ∷ no_formula ∷ no_formula ∷ no_formula ∷ no_formula ∷ no_formula ∷ no_formula ∷ no_formula
    ∷ no_formula ∷ no_formula ∷ no_formula ∷ no_formula ∷ no_formula ∷ no_formula ∷ no_formula ∷ no_formula
    ∷ point_op ∷ stretch_op ∷ whole_op ∷ unit_op ∷ chop_op ∷ conjunction_op ∷ disjunction_op ∷ star_op
    ∷ slen_op ∷ scount_op ∷ sdur_op ∷ drawn_op ∷ at_op ∷ gap_op ∷ negation_op ∷ for_some_op ∷ []

unfoldable pub formula_op : ℕ → FormulaOp
formula_op op = get_or formula_ops op no_formula

unfoldable pub comparison_of : ℕ → Comparison
comparison_of q = comparison_numbered q

unfoldable pub symbol_of : ℕ → Symbol
symbol_of q = symbol_numbered q

-- node n, whose proposition operands are p's
unfoldable pub proposition_of : PropositionOp → Node → (ℕ → Proposition) → Proposition
proposition_of never_op n p = never
proposition_of always_op n p = always
proposition_of signal_op n p = signal n.a
proposition_of name_op n p = name n.a
proposition_of negated_op n p = negated (p n.a)
proposition_of both_op n p = both_of (p n.a) (p n.b)
proposition_of either_op n p = either_of (p n.a) (p n.b)
proposition_of no_proposition n p = never

unfoldable pub proposition_step : (ℕ → Node) → ℕ → (ℕ → Proposition) → Proposition
proposition_step x i p = proposition_of (proposition_op (x i).op) (x i) p

unfoldable pub proposition_at : (ℕ → Node) → ℕ → Proposition
proposition_at x i = made never (proposition_step x) i

-- node n, whose proposition operands are p's and whose formula operands are f's
unfoldable pub formula_of : FormulaOp → Node → (ℕ → Proposition) → (ℕ → Formula) → Formula
formula_of point_op n p f = point (p n.a)
formula_of stretch_op n p f = stretch (p n.a)
formula_of whole_op n p f = whole (p n.a)
formula_of unit_op n p f = unit (p n.a)
formula_of chop_op n p f = chop (f n.a) (f n.b)
formula_of conjunction_op n p f = conjunction (f n.a) (f n.b)
formula_of disjunction_op n p f = disjunction (f n.a) (f n.b)
formula_of star_op n p f = star (f n.a)
formula_of slen_op n p f = slen (comparison_of n.q) n.b
formula_of scount_op n p f = scount (comparison_of n.q) (p n.a) n.b
formula_of sdur_op n p f = sdur (comparison_of n.q) (p n.a) n.b
formula_of drawn_op n p f = drawn (symbol_of n.q) n.a
formula_of at_op n p f = at n.a
formula_of gap_op n p f = gap (n.q / 16) (n.q % 16) n.a n.b
formula_of negation_op n p f = negation (f n.a)
formula_of for_some_op n p f = for_some n.b (f n.a)
formula_of no_formula n p f = slen below 0

unfoldable pub formula_step : (ℕ → Node) → ℕ → (ℕ → Formula) → Formula
formula_step x i f = formula_of (formula_op (x i).op) (x i) (earlier i never (proposition_at x)) f

unfoldable pub formula_at : (ℕ → Node) → ℕ → Formula
formula_at x i = made (slen below 0) (formula_step x) i
