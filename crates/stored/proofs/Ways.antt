-- On every way from the root of an emitted formula to a name, the name is quantified.
use Rattle.std.proofs.Common.{ℕ, ◌<◌, true, List, inl, inr, ◌≡◌, refl, sym, ◌∙◌, ap, subst, arith, eqb-true, eqb, Option}
use mathlib.Core.Bool.{false≢true}
use Rattle.semantics.specs.Proposition.{Proposition}
use Rattle.semantics.specs.Formula.{Formula}
use Rattle.semantics.specs.Placement.{Names, no_names}
use Rattle.semantics.specs.Reach.{proposition_within, with, within}
use Rattle.semantics.proofs.Tests.{and_left, and_right, or_elim}
use Rattle.stored.specs.declared.Node.{Node}
use Rattle.stored.specs.declared.nodes.Sort.{Sort}
use Rattle.stored.specs.declared.nodes.Use.{Use}
use Rattle.stored.specs.declared.nodes.Use.TheVariants.{Nothing, Signal, Name, Comparison, Symbol, TwoNames, Number, PropositionNode, FormulaNode}
use Rattle.stored.specs.Node.{proposition, formula, emitted_sorts, sort_of, is_formula_node, is_operand, a_use, b_use, operands_right}
use Rattle.stored.specs.Tree.{pick, proposition_op, formula_op, proposition_of, proposition_at, formula_of, formula_at}
use Rattle.stored.specs.Reached.{is_node, has_operand, Reached, itself, operand, under, Way, start, down, SomeWay}
use Rattle.stored.specs.Sheet.{header_of, nodes_of}
use Rattle.stored.specs.Emitted.{root_of, emitted_formula, emitted_operands, is_emitted}
use Rattle.stored.proofs.Rules.{every_at}
use Rattle.stored.proofs.Sorts.{same_sort-true}
use Rattle.stored.proofs.Tree.{Operands, operands, sort_below_lem, proposition_cases, formula_cases, proposition_law, formula_law, emitted_proposition, emitted_formula_lem}
use Rattle.stored.proofs.Emitted.{emitted_opened}

-- ---- an operand is field a or field b, used as a proposition or as a formula
pub data OperandUse (what : Use) : Type 0 where
  as_proposition : what ≡ PropositionNode → OperandUse what
  as_formula : what ≡ FormulaNode → OperandUse what

pub use-of : (what : Use) → is_operand what ≡ true → OperandUse what
unfolding is_operand
use-of PropositionNode e = as_proposition refl
use-of FormulaNode e = as_formula refl
use-of Nothing e = absurd (false≢true e)
use-of Signal e = absurd (false≢true e)
use-of Name e = absurd (false≢true e)
use-of Comparison e = absurd (false≢true e)
use-of Symbol e = absurd (false≢true e)
use-of TwoNames e = absurd (false≢true e)
use-of Number e = absurd (false≢true e)

pub data OperandOf (n : Node) (i : ℕ) : Type 0 where
  in_a : OperandUse (a_use n.op) → n.a ≡ i → OperandOf n i
  in_b : OperandUse (b_use n.op) → n.b ≡ i → OperandOf n i

pub operand_of : (n : Node) (i : ℕ) → has_operand n i ≡ true → OperandOf n i
unfolding has_operand is_node
operand_of n i e =
    elim (or_elim (is_node (a_use n.op) n.a i) (is_node (b_use n.op) n.b i) e) [
      | inl h ↦ in_a (use-of _ (and_left (is_operand (a_use n.op)) _ h)) (eqb-true n.a i (and_right (is_operand (a_use n.op)) _ h))
      | inr h ↦ in_b (use-of _ (and_left (is_operand (b_use n.op)) _ h)) (eqb-true n.b i (and_right (is_operand (b_use n.op)) _ h))
    ]

-- it is an earlier node
pub operand_less : (sorts : List (Option Sort)) (x : ℕ → Node) (j i : ℕ) → operands_right sorts x j ≡ true → has_operand (x j) i ≡ true → i < j
operand_less sorts x j i right e = go (operand_of (x j) i e)
  where
    go : OperandOf (x j) i → i < j
    go (in_a (as_proposition u) is) = omega (arith, is, ((operands sorts x j right).a_proposition u).less)
    go (in_a (as_formula u) is) = omega (arith, is, ((operands sorts x j right).a_formula u).less)
    go (in_b (as_proposition u) is) = omega (arith, is, ((operands sorts x j right).b_proposition u).less)
    go (in_b (as_formula u) is) = omega (arith, is, ((operands sorts x j right).b_formula u).less)

-- ---- where the names over a node are enough for it, they are enough for its operands, with the name that the node quantifies
under_op : ℕ → ℕ → Names → Names
under_op k b K = pick (eqb k 31) (with b K) K

-- field v, used so, has names of K only
Held : Names → (ℕ → Proposition) → (ℕ → Formula) → Use → ℕ → Type 0
Held K p f PropositionNode v = proposition_within K (p v) ≡ true
Held K p f FormulaNode v = within K (f v) ≡ true
Held K p f _ v = Unit {0}

Lower : Node → (ℕ → Proposition) → (ℕ → Formula) → Names → ℕ → Type 0
Lower n p f K k = (Held (under_op k n.b K) p f (a_use k) n.a) × (Held (under_op k n.b K) p f (b_use k) n.b)

LowerProposition : Node → (ℕ → Proposition) → (ℕ → Formula) → Names → ℕ → Type 0
LowerProposition n p f K k = sort_of emitted_sorts k ≡ proposition → proposition_within K (proposition_of (proposition_op k) n p) ≡ true → Lower n p f K k

LowerFormula : Node → (ℕ → Proposition) → (ℕ → Formula) → Names → ℕ → Type 0
LowerFormula n p f K k = sort_of emitted_sorts k ≡ formula → within K (formula_of (formula_op k) n p f) ≡ true → Lower n p f K k

lower_proposition : (n : Node) (p : ℕ → Proposition) (f : ℕ → Formula) (K : Names) (k : ℕ) → LowerProposition n p f K k
unfolding LowerProposition Lower Held under_op pick a_use b_use proposition_of proposition_op proposition_within
lower_proposition n p f K k =
    proposition_cases (LowerProposition n p f K)
    (λ s h. (tt, tt))
    (λ s h. (tt, tt))
    (λ s h. (tt, tt))
    (λ s h. (tt, tt))
    (λ s h. (h, tt))
    (λ s h. (and_left (proposition_within K (p n.a)) _ h, and_right (proposition_within K (p n.a)) _ h))
    (λ s h. (and_left (proposition_within K (p n.a)) _ h, and_right (proposition_within K (p n.a)) _ h))
    k
    (λ e s h. absurd (emitted_proposition k s e))

lower_formula : (n : Node) (p : ℕ → Proposition) (f : ℕ → Formula) (K : Names) (k : ℕ) → LowerFormula n p f K k
unfolding LowerFormula Lower Held under_op pick a_use b_use formula_of formula_op within
lower_formula n p f K k =
    formula_cases (LowerFormula n p f K)
    (λ s h. (h, tt))
    (λ s h. (h, tt))
    (λ s h. (h, tt))
    (λ s h. (h, tt))
    (λ s h. (and_left (within K (f n.a)) _ h, and_right (within K (f n.a)) _ h))
    (λ s h. (and_left (within K (f n.a)) _ h, and_right (within K (f n.a)) _ h))
    (λ s h. (and_left (within K (f n.a)) _ h, and_right (within K (f n.a)) _ h))
    (λ s h. (h, tt))
    (λ s h. (tt, tt))
    (λ s h. (h, tt))
    (λ s h. (h, tt))
    (λ s h. (tt, tt))
    (λ s h. (tt, tt))
    (λ s h. (tt, tt))
    (λ s h. (h, tt))
    (λ s h. (h, tt))
    k
    (λ e s h. absurd (emitted_formula_lem k s e))

-- node i has names of K only
data Closed (x : ℕ → Node) (K : Names) (i : ℕ) : Type 0 where
  closed_proposition : sort_of emitted_sorts (x i).op ≡ proposition → proposition_within K (proposition_at x i) ≡ true → Closed x K i
  closed_formula : sort_of emitted_sorts (x i).op ≡ formula → within K (formula_at x i) ≡ true → Closed x K i

-- ---- a way from a closed formula
module _ (x : ℕ → Node) (n : ℕ) (right : (i : ℕ) → i < n → operands_right emitted_sorts x i ≡ true) where
  lower : (K : Names) (j : ℕ) → j < n → Closed x K j → Lower (x j) (proposition_at x) (formula_at x) K (x j).op
  unfolding LowerProposition LowerFormula
  lower K j l (closed_proposition s h) =
      lower_proposition (x j) (proposition_at x) (formula_at x) K (x j).op s
      (ap (proposition_within K) (sym (proposition_law emitted_sorts x j (right j l))) ∙ h)
  lower K j l (closed_formula s h) =
      lower_formula (x j) (proposition_at x) (formula_at x) K (x j).op s
      (ap (within K) (sym (formula_law emitted_sorts x j (right j l))) ∙ h)

  closed_down : (K : Names) (j i : ℕ) → j < n → Closed x K j → has_operand (x j) i ≡ true → Closed x (under (x j) K) i
  unfolding Lower Held under_op under
  closed_down K j i l c e = go (operands emitted_sorts x j (right j l)) (lower K j l c) (operand_of (x j) i e)
    where
      holds : ℕ → Use → Type 0
      holds v what = Held (under (x j) K) (proposition_at x) (formula_at x) what v

      go : Operands emitted_sorts x j → Lower (x j) (proposition_at x) (formula_at x) K (x j).op → OperandOf (x j) i → Closed x (under (x j) K) i
      go o h (in_a (as_proposition u) is) = subst (Closed x (under (x j) K)) is (closed_proposition (o.a_proposition u).sorted (subst (holds (x j).a) u h.0))
      go o h (in_a (as_formula u) is) = subst (Closed x (under (x j) K)) is (closed_formula (o.a_formula u).sorted (subst (holds (x j).a) u h.0))
      go o h (in_b (as_proposition u) is) = subst (Closed x (under (x j) K)) is (closed_proposition (o.b_proposition u).sorted (subst (holds (x j).b) u h.1))
      go o h (in_b (as_formula u) is) = subst (Closed x (under (x j) K)) is (closed_formula (o.b_formula u).sorted (subst (holds (x j).b) u h.1))

  module _ (r : ℕ) (below : r < n) (sorted : sort_of emitted_sorts (x r).op ≡ formula) (closed : within no_names (formula_at x r) ≡ true) where
    way_closed : (K : Names) (i : ℕ) → Way x r K i → (i < n) × (Closed x K i)
    way_closed K i start = (below, closed_formula sorted closed)
    way_closed K i (down {K = L} {j = j} w e) =
        let c = way_closed L j w in
        (omega (arith, c.0, operand_less emitted_sorts x j i (right j c.0) e), closed_down L j i c.0 c.1 e)

    -- the name of a name's node is quantified on each way to it
    pub name_under : (K : Names) (i : ℕ) → Way x r K i → (x i).op ≡ 4 → K (x i).a ≡ true
    unfolding proposition_within proposition_of proposition_op sort_of
    name_under K i w e = let c = way_closed K i w in go c.0 c.1
      where
        go : i < n → Closed x K i → K (x i).a ≡ true
        go l (closed_proposition s h) =
            ap (proposition_within K)
            (sym (ap (λ (k : ℕ). proposition_of (proposition_op k) (x i) (proposition_at x)) e) ∙ sym (proposition_law emitted_sorts x i (right i l)))
            ∙ h
        go l (closed_formula s h) = let other : formula ≡ proposition = sym s ∙ ap (sort_of emitted_sorts) e in cc

-- of an emitted formula
pub name_quantified : (y : List ℕ) → is_emitted y ≡ true → (K : Names) (i : ℕ) → Way (nodes_of y) (root_of y) K i → (nodes_of y i).op ≡ 4 → K (nodes_of y i).a ≡ true
unfolding emitted_operands emitted_formula is_formula_node
name_quantified y e =
    let o = emitted_opened y e in
    let root = sort_below_lem emitted_sorts (nodes_of y) (header_of y).nodes (root_of y) formula refl (same_sort-true _ formula o.root_formula) in
    name_under (nodes_of y) (header_of y).nodes (λ i l. every_at _ _ o.operands_right_holds i l) (root_of y) root.less root.sorted o.root_closed

-- where a node is reached there is a way to it
pub some_way : {x : ℕ → Node} {r i : ℕ} → Reached x r i → SomeWay x r i
some_way itself = record { names = no_names; way = start }
some_way (operand h e) = let w = some_way h in record { names = _; way = down w.way e }
