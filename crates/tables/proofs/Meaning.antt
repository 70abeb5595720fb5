-- What a fill makes of a node from right words of its operands is the node's table.
use Rattle.std.proofs.Common.{ℕ, ◌-◌, ◌/◌, ◌%◌, ◌^◌, ◌≤◌, ◌<◌, Bool, true, false, List, ◌≡◌, refl, sym, ◌∙◌, ap, ap₂, bit_and, bit_or, ltb, pow_pos}
use Rattle.semantics.specs.Proposition.{Proposition, Trace, Marks, bit, signal_at, holds_at}
use Rattle.semantics.specs.Formula.{Formula, holds}
use Rattle.semantics.proofs.Tests.{and_true_right}
use Rattle.rows.specs.Row.{word, row, joined}
use Rattle.rows.proofs.Bits.{bit_nothing}
use Rattle.rows.proofs.Rows.{word_small, word_bit, is_word_lem, is_word_in, word_and, word_or, word_not}
use Rattle.rows.proofs.Formulas.{point_holds, stretch_holds, whole_holds, unit_holds, chop_holds, conjunction_holds, disjunction_holds, slen_holds, scount_holds, sdur_holds, drawn_holds, at_holds, gap_holds}
use Rattle.stored.specs.declared.Node.{Node}
use Rattle.stored.specs.declared.nodes.Use.TheVariants.{Signal, PropositionNode, FormulaNode}
use Rattle.stored.specs.Node.{proposition, formula, requirement_sorts, sort_of, a_use, b_use, q_use}
use Rattle.stored.specs.Tree.{proposition_op, formula_op, proposition_of, formula_of, comparison_of, symbol_of}
use Rattle.stored.proofs.Tree.{proposition_cases, formula_cases, is_proposition, is_formula}
use Rattle.tables.specs.Table.{row_at}
use Rattle.tables.specs.Step.{column_of, first_column, second_column, of_first, of_two, row_of}
use Rattle.tables.proofs.Columns.{Tells}

none_is : (n : ℕ) → 0 ≡ word n (λ t. false)
none_is n = is_word_lem n 0 (λ t. false) (pow_pos n) (λ k l. bit_nothing k)

all_in : (n : ℕ) → n ≤ 64 → word 64 (λ t. ltb t n) ≡ word n (λ t. true)
all_in n l =
    is_word_in 64 n (word 64 (λ t. ltb t n)) (λ t. true) l (word_small 64 (λ t. ltb t n))
    (λ k m. word_bit 64 (λ t. ltb t n) k m ∙ sym (and_true_right (ltb k n)))

-- one node, over its operands' propositions p and formulas f
module _ (x : Node) (n : ℕ) (columns : List ℕ) (σ : Trace) (μ : Marks) (words : List ℕ) (told : Tells n columns σ μ) (few : n ≤ 64) (p : ℕ → Proposition) where
  -- the column of an operand
  unfoldable pub Column : List ℕ → ℕ → Type 0
  Column w v = row_at w v 0 ≡ word n (λ t. holds_at (p v) σ μ t)

  unfoldable pub Columns : ℕ → Type 0
  Columns k =
      sort_of requirement_sorts k ≡ proposition → (a_use k ≡ Signal → x.a < 16) → (a_use k ≡ PropositionNode → Column words x.a) → (b_use k ≡ PropositionNode → Column words x.b)
      → column_of (proposition_op k) x n columns words ≡ word n (λ t. holds_at (proposition_of (proposition_op k) x p) σ μ t)

  pub column_is : (k : ℕ) → Columns k
  unfolding Columns Column sort_of a_use b_use column_of proposition_op proposition_of holds_at
  column_is k =
      proposition_cases Columns
      (λ s h f g. none_is n)
      (λ s h f g. all_in n few)
      (λ s h f g. told.signal x.a (h refl))
      (λ s h f g. told.name x.a)
      (λ s h f g. ap (λ (z : ℕ). bit_and (word 64 (λ t. ltb t n)) (2 ^ 64 - 1 - z)) (f refl) ∙ word_not 64 n (λ t. holds_at (p x.a) σ μ t) few)
      (λ s h f g. ap₂ bit_and (f refl) (g refl) ∙ word_and n (λ t. holds_at (p x.a) σ μ t) (λ t. holds_at (p x.b) σ μ t))
      (λ s h f g. ap₂ bit_or (f refl) (g refl) ∙ word_or n (λ t. holds_at (p x.a) σ μ t) (λ t. holds_at (p x.b) σ μ t))
      k
      (λ none s h f g. absurd (is_proposition k s none))

  -- a column agrees with its test at the cycles of the trace
  column_bit : (column : ℕ) (q : ℕ → Bool) → column ≡ word n q → (t : ℕ) → t < n → bit column t ≡ q t
  column_bit column q e t l = ap (λ (z : ℕ). bit z t) e ∙ word_bit n q t l

  -- `old` has the columns that `first` and `second` were made from
  module _ (f : ℕ → Formula) (old : List ℕ) (first second own b : ℕ) (inside : b < n) where
    unfoldable pub Rows : ℕ → Type 0
    Rows v = (c : ℕ) → c < n → row_at words v c ≡ row n (holds (f v) σ μ) c

    -- every op but a star, whose rows are from its own later ones
    unfoldable pub Lines : ℕ → Type 0
    Lines k =
        sort_of requirement_sorts k ≡ formula → (a_use k ≡ Signal → x.a < 16) → first ≡ first_column k x columns old → second ≡ second_column k x columns
        → (a_use k ≡ PropositionNode → Column old x.a) → (a_use k ≡ FormulaNode → Rows x.a) → (b_use k ≡ FormulaNode → Rows x.b)
        → (k ≡ 23 → ⊥)
        → row_of (formula_op k) x n first second words own b ≡ row n (holds (formula_of (formula_op k) x p f) σ μ) b

    -- the column of the node's proposition
    held : first ≡ row_at old x.a 0 → Column old x.a → (t : ℕ) → t < n → bit first t ≡ holds_at (p x.a) σ μ t
    unfolding Column
    held e g t l = column_bit first (λ t. holds_at (p x.a) σ μ t) (e ∙ g) t l

    pub line_is : (k : ℕ) → Lines k
    unfolding Lines Column Rows sort_of a_use b_use q_use first_column second_column of_first of_two row_of formula_op formula_of
    line_is k =
        formula_cases Lines
        (λ s h u v c r₁ r₂ other. point_holds n few σ μ b inside first (p x.a) (held u (c refl)))
        (λ s h u v c r₁ r₂ other. stretch_holds n few σ μ b inside first (p x.a) (held u (c refl)))
        (λ s h u v c r₁ r₂ other. whole_holds n few σ μ b inside first (p x.a) (held u (c refl)))
        (λ s h u v c r₁ r₂ other. unit_holds n few σ μ b inside first (p x.a) (held u (c refl)))
        (λ s h u v c r₁ r₂ other.
        ap (λ (z : ℕ). joined z (row_at words x.b)) (r₁ refl b inside)
        ∙ chop_holds n few σ μ b inside (f x.a) (f x.b) (row_at words x.b) (λ i m. r₂ refl i m))
        (λ s h u v c r₁ r₂ other.
        ap₂ bit_and (r₁ refl b inside) (r₂ refl b inside) ∙ conjunction_holds n few σ μ b inside (f x.a) (f x.b))
        (λ s h u v c r₁ r₂ other.
        ap₂ bit_or (r₁ refl b inside) (r₂ refl b inside) ∙ disjunction_holds n few σ μ b inside (f x.a) (f x.b))
        (λ s h u v c r₁ r₂ other. absurd (other refl))
        (λ s h u v c r₁ r₂ other. slen_holds n few σ μ b inside (comparison_of x.q) x.b)
        (λ s h u v c r₁ r₂ other. scount_holds n few σ μ b inside (comparison_of x.q) x.b first (p x.a) (held u (c refl)))
        (λ s h u v c r₁ r₂ other. sdur_holds n few σ μ b inside (comparison_of x.q) x.b first (p x.a) (held u (c refl)))
        (λ s h u v c r₁ r₂ other.
        drawn_holds n few σ μ b inside (symbol_of x.q) x.a first
        (column_bit first (λ t. signal_at σ x.a t) (u ∙ told.signal x.a (h refl))))
        (λ s h u v c r₁ r₂ other. at_holds n few σ μ b inside x.a first (column_bit first (λ t. μ x.a t) (u ∙ told.name x.a)))
        (λ s h u v c r₁ r₂ other.
        gap_holds n few σ μ b inside (x.q / 16) (x.q % 16) first second x.a x.b
        (column_bit first (λ t. μ (x.q / 16) t) (u ∙ told.name (x.q / 16))) (column_bit second (λ t. μ (x.q % 16) t) (v ∙ told.name (x.q % 16))))
        (λ s h u v c r₁ r₂ other. cc)
        (λ s h u v c r₁ r₂ other. cc)
        k
        (λ none s h u v c r₁ r₂ other. absurd (is_formula k s none))
