-- What a fill makes of one node from its operands' words. The laws say that it is the node's table.
use Rattle.std.specs.Prelude.{ℕ, ◌+◌, ◌-◌, ◌/◌, ◌%◌, ◌^◌, ◌<◌, Bool, ◌&&◌, List, ◌≡◌, leb, ltb, eqb, get_or}
use Rattle.std.specs.Int.Bits.{bit_and, bit_or}
use Rattle.semantics.specs.Cycles.{some_in, every_from, every_in, count_from, count_in}
use Rattle.semantics.specs.Proposition.{bit}
use Rattle.semantics.specs.Formula.{compared, drawn_on}
use Rattle.rows.specs.Row.{word, row, joined, starred}
use Rattle.stored.specs.declared.Node.{Node}
use Rattle.stored.specs.declared.nodes.Use.{Use}
use Rattle.stored.specs.declared.nodes.Use.TheVariants.{Signal, Name, Comparison, Symbol, TwoNames, PropositionNode, FormulaNode}
use Rattle.traces.specs.Columns.{first_name, column_at}
use Rattle.stored.specs.Node.{a_use, b_use, q_use}
use Rattle.stored.specs.Tree.{PropositionOp, never_op, always_op, signal_op, name_op, negated_op, both_op, either_op, no_proposition, FormulaOp, point_op, stretch_op, whole_op, unit_op, chop_op, conjunction_op, disjunction_op, star_op, slen_op, scount_op, sdur_op, drawn_op, at_op, gap_op, negation_op, for_some_op, no_formula, comparison_of, symbol_of, formula_op}
use Rattle.tables.specs.Table.{row_at}

-- the fields of a node that rules 6 and 7 take, where `before` nodes stand before it
pub record Usable (x : Node) (before : ℕ) : Type 0 where
  pub a_signal_holds : a_use x.op ≡ Signal → x.a < 16
  pub a_name_holds : a_use x.op ≡ Name → x.a < 3
  pub a_proposition : a_use x.op ≡ PropositionNode → x.a < before
  pub a_formula : a_use x.op ≡ FormulaNode → x.a < before
  pub b_proposition : b_use x.op ≡ PropositionNode → x.b < before
  pub b_formula : b_use x.op ≡ FormulaNode → x.b < before
  pub comparison : q_use x.op ≡ Comparison → x.q < 5
  pub symbol : q_use x.op ≡ Symbol → x.q < 8
  pub first_name_holds : q_use x.op ≡ TwoNames → x.q / 16 < 3
  pub second_name : q_use x.op ≡ TwoNames → x.q % 16 < 3

-- the column of a proposition node
unfoldable pub column_of : PropositionOp → Node → ℕ → List ℕ → List ℕ → ℕ
column_of never_op x n columns words = 0
column_of always_op x n columns words = word 64 (λ t. ltb t n)
column_of signal_op x n columns words = column_at columns x.a
column_of name_op x n columns words = column_at columns (first_name + x.a)
column_of negated_op x n columns words = bit_and (word 64 (λ t. ltb t n)) (2 ^ 64 - 1 - row_at words x.a 0)
column_of both_op x n columns words = bit_and (row_at words x.a 0) (row_at words x.b 0)
column_of either_op x n columns words = bit_or (row_at words x.a 0) (row_at words x.b 0)
column_of no_proposition x n columns words = 0

-- the columns that a formula node is over: its proposition, signal or name, and the second name of a gap
unfoldable pub of_two : Use → ℕ → List ℕ → ℕ
of_two TwoNames u columns = column_at columns (first_name + u)
of_two _ u columns = 0

unfoldable pub of_first : Use → Use → Node → List ℕ → List ℕ → ℕ
of_first PropositionNode q x columns words = row_at words x.a 0
of_first Signal q x columns words = column_at columns x.a
of_first Name q x columns words = column_at columns (first_name + x.a)
of_first _ q x columns words = of_two q (x.q / 16) columns

unfoldable pub first_column : ℕ → Node → List ℕ → List ℕ → ℕ
first_column op x columns words = of_first (a_use op) (q_use op) x columns words

unfoldable pub second_column : ℕ → Node → List ℕ → ℕ
second_column op x columns = of_two (q_use op) (x.q % 16) columns

-- chop, and, or: over the rows of two formulas
unfoldable pub is_pair : ℕ → Bool
is_pair op = leb 20 op && ltb op 23

-- row b of a formula node over these columns, from its operands' rows and, of a star, its own later rows
unfoldable pub row_of : FormulaOp → Node → ℕ → ℕ → ℕ → List ℕ → ℕ → ℕ → ℕ
row_of point_op x n first second words own b = row n (λ b e. bit first b) b
row_of stretch_op x n first second words own b = row n (λ b e. every_from b e (bit first)) b
row_of whole_op x n first second words own b = row n (λ b e. every_in b e (bit first)) b
row_of unit_op x n first second words own b = row n (λ b e. eqb e (b + 1) && bit first b) b
row_of chop_op x n first second words own b = joined (row_at words x.a b) (row_at words x.b)
row_of conjunction_op x n first second words own b = bit_and (row_at words x.a b) (row_at words x.b b)
row_of disjunction_op x n first second words own b = bit_or (row_at words x.a b) (row_at words x.b b)
row_of star_op x n first second words own b = starred (row_at words x.a b) (row_at words own) b
row_of slen_op x n first second words own b = row n (λ b e. compared (comparison_of x.q) (e - b) x.b) b
row_of scount_op x n first second words own b = row n (λ b e. compared (comparison_of x.q) (count_in b e (bit first)) x.b) b
row_of sdur_op x n first second words own b = row n (λ b e. compared (comparison_of x.q) (count_from b e (bit first)) x.b) b
row_of drawn_op x n first second words own b = row n (λ b e. drawn_on (symbol_of x.q) (bit first) b e) b
row_of at_op x n first second words own b = row n (λ b e. eqb b e && bit first b) b
row_of gap_op x n first second words own b =
    row n
    (λ b e. some_in b e (λ t. bit first t && some_in t e (λ y. bit second y && (leb x.a (y - t) && leb (y - t) x.b))))
    b
row_of negation_op x n first second words own b = 0
row_of for_some_op x n first second words own b = 0
row_of no_formula x n first second words own b = 0

-- A formula node's rows below n, from the words of the nodes before it. A star's are from its own later rows too.
pub record Rows (x : Node) (i n : ℕ) (columns before own : List ℕ) : Type 0 where
  pub rows : (x.op ≡ 23 → ⊥) → (b : ℕ) → b < n
      → get_or own b 0 ≡ row_of (formula_op x.op) x n (first_column x.op x columns before) (second_column x.op x columns) before i b
  pub star : x.op ≡ 23 → (b : ℕ) → b < n → get_or own b 0 ≡ starred (row_at before x.a b) (λ k. get_or own k 0) b
