-- Laws of rows in the words.
use Rattle.std.proofs.Common.{ℕ, ◌+◌, ◌-◌, ◌*◌, ◌<◌, true, ◌&&◌, List, ◌≡◌, sym, ◌∙◌, ap, arith, get_or, take, drop, get_or-take, get_or-drop}
use Rattle.semantics.specs.Cycles.{some_below}
use Rattle.semantics.specs.Proposition.{bit}
use Rattle.semantics.proofs.Cycles.{below_cong, and_cong}
use Rattle.rows.specs.Row.{joined}
use Rattle.rows.proofs.Rows.{word_ext}
use Rattle.stored.specs.declared.Node.{Node}
use Rattle.stored.specs.Tree.{formula_op}
use Rattle.tables.specs.Table.{row_at}
use Rattle.tables.specs.Step.{row_of}

-- joins go by the words of the set alone
pub joined_chosen : (set : ℕ) (v w : ℕ → ℕ) → ((i : ℕ) → i < 64 → bit set i ≡ true → v i ≡ w i) → joined set v ≡ joined set w
unfolding joined
joined_chosen set v w f =
    word_ext 64 (λ e. some_below 64 (λ i. bit set i && bit (v i) e)) (λ e. some_below 64 (λ i. bit set i && bit (w i) e))
    (λ e l. below_cong 64 (λ i. bit set i && bit (v i) e) (λ i. bit set i && bit (w i) e)
    (λ i m. and_cong (bit set i) (bit (v i) e) (bit (w i) e) (λ s. ap (λ (z : ℕ). bit z e) (f i m s))))

pub joined_ext : (set : ℕ) (v w : ℕ → ℕ) → ((i : ℕ) → i < 64 → v i ≡ w i) → joined set v ≡ joined set w
joined_ext set v w f = joined_chosen set v w (λ i m s. f i m)

-- the rows of node i as a part of the words
pub part_row : (words : List ℕ) (i from to : ℕ) → from ≡ 64 * i → to ≡ from + 64 → (b : ℕ) → b < 64 → get_or (take (to - from) (drop from words)) b 0 ≡ row_at words i b
unfolding row_at
part_row words i from to e g b l =
    get_or-take (to - from) (drop from words) b 0 (omega arith)
    ∙ get_or-drop from words b 0
    ∙ ap (λ (k : ℕ). get_or words (k + b) 0) e

-- the row of a node whose op is told
pub row_told : (x : Node) (k n first second : ℕ) (words : List ℕ) (own b v : ℕ) → x.op ≡ k
    → v ≡ row_of (formula_op k) x n first second words own b → v ≡ row_of (formula_op x.op) x n first second words own b
row_told x k n first second words own b v e f = f ∙ ap (λ (j : ℕ). row_of (formula_op j) x n first second words own b) (sym e)
