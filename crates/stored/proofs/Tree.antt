-- The tree at a node is the constructor of its op over its operands' trees, and goes by the nodes up to it alone.
use Rattle.std.proofs.Common.{ℕ, ◌≤◌, ◌<◌, Bool, true, false, not, ◌||◌, List, [], ◌∷◌, ◌≡◌, refl, sym, ◌∙◌, ap, ap₂, subst, arith, ltb-true, eqb-true, eqb, ltb, length, Option}
use mathlib.Core.Bool.{false≢true}
use mathlib.Core.Path.{fun_ext}
use lib.ListN.{get_or-eq_default}
use Rattle.semantics.specs.Proposition.{Proposition, never, both_of, either_of, negated}
use Rattle.semantics.specs.Formula.{Formula, below, slen, chop, conjunction, disjunction, star, negation, for_some, point, stretch, whole, unit, scount, sdur}
use Rattle.stored.specs.declared.Node.{Node}
use Rattle.std.specs.Option.{is_some}
use Rattle.stored.specs.declared.nodes.Sort.{Sort}
use Rattle.stored.specs.declared.nodes.Use.{Use}
use Rattle.stored.specs.declared.nodes.Use.TheVariants.{PropositionNode, FormulaNode}
use Rattle.stored.specs.Bytes.{every_below}
use Rattle.stored.specs.Node.{proposition, formula, no_op, same_sort, requirement_sorts, emitted_sorts, sort_of, sort_below, a_use, b_use, operand_right, operands_right}
use Rattle.stored.specs.Tree.{earlier, PropositionOp, never_op, always_op, signal_op, name_op, negated_op, both_op, either_op, no_proposition, FormulaOp, point_op, stretch_op, whole_op, unit_op, chop_op, conjunction_op, disjunction_op, star_op, slen_op, scount_op, sdur_op, drawn_op, at_op, gap_op, negation_op, for_some_op, no_formula, proposition_op, formula_ops, formula_op, proposition_of, proposition_step, proposition_at, formula_of, formula_step, formula_at}
use Rattle.semantics.proofs.Tests.{and_left, and_right}
use Rattle.stored.proofs.Rules.{asked, every_number}
use Rattle.stored.proofs.Sorts.{same_sort-true, sort_same}
use Rattle.stored.proofs.Made.{earlier_at, earlier_same, made_step, made_agree}

-- an op's number
proposition_number : PropositionOp → ℕ
proposition_number never_op = 1
proposition_number always_op = 2
proposition_number signal_op = 3
proposition_number name_op = 4
proposition_number negated_op = 5
proposition_number both_op = 6
proposition_number either_op = 7
proposition_number no_proposition = 0

formula_number : FormulaOp → ℕ
formula_number point_op = 16
formula_number stretch_op = 17
formula_number whole_op = 18
formula_number unit_op = 19
formula_number chop_op = 20
formula_number conjunction_op = 21
formula_number disjunction_op = 22
formula_number star_op = 23
formula_number slen_op = 24
formula_number scount_op = 25
formula_number sdur_op = 26
formula_number drawn_op = 27
formula_number at_op = 28
formula_number gap_op = 29
formula_number negation_op = 30
formula_number for_some_op = 31
formula_number no_formula = 0

-- the op of a number has that number, if it is one
proposition_numbered : ℕ → PropositionOp → Bool
proposition_numbered k o = eqb (proposition_number o) 0 || eqb (proposition_number o) k

formula_numbered : ℕ → FormulaOp → Bool
formula_numbered k o = eqb (formula_number o) 0 || eqb (formula_number o) k

proposition_numbered_lem : (k : ℕ) → proposition_numbered k (proposition_op k) ≡ true
unfolding proposition_op proposition_numbered proposition_number every_below
proposition_numbered_lem =
    every_number 8 (λ k. proposition_numbered k (proposition_op k)) refl
    (λ k h. ap (proposition_numbered k) (get_or-eq_default (no_proposition ∷ never_op ∷ always_op ∷ signal_op ∷ name_op ∷ negated_op ∷ both_op ∷ either_op ∷ []) no_proposition h))

formula_numbered_lem : (k : ℕ) → formula_numbered k (formula_op k) ≡ true
unfolding formula_op formula_numbered formula_number every_below
formula_numbered_lem =
    every_number 32 (λ k. formula_numbered k (formula_op k)) refl
    (λ k h. ap (formula_numbered k) (get_or-eq_default formula_ops no_formula h))

-- cases on an op's number
pub proposition_cases : (P : ℕ → Type 0) → P 1 → P 2 → P 3 → P 4 → P 5 → P 6 → P 7 → (k : ℕ) → (proposition_op k ≡ no_proposition → P k) → P k
unfolding proposition_numbered proposition_number
proposition_cases P p1 p2 p3 p4 p5 p6 p7 k other = go (proposition_op k) refl
  where
    at : (o : PropositionOp) (n : ℕ) → proposition_op k ≡ o → (proposition_numbered k o ≡ true → eqb n k ≡ true) → P n → P k
    at o n e f p = subst P (eqb-true n k (f (subst (λ (z : PropositionOp). proposition_numbered k z ≡ true) e (proposition_numbered_lem k)))) p

    go : (o : PropositionOp) → proposition_op k ≡ o → P k
    go never_op e = at never_op 1 e (λ h. h) p1
    go always_op e = at always_op 2 e (λ h. h) p2
    go signal_op e = at signal_op 3 e (λ h. h) p3
    go name_op e = at name_op 4 e (λ h. h) p4
    go negated_op e = at negated_op 5 e (λ h. h) p5
    go both_op e = at both_op 6 e (λ h. h) p6
    go either_op e = at either_op 7 e (λ h. h) p7
    go no_proposition e = other e

pub formula_cases : (P : ℕ → Type 0) → P 16 → P 17 → P 18 → P 19 → P 20 → P 21 → P 22 → P 23 → P 24 → P 25 → P 26 → P 27 → P 28 → P 29 → P 30 → P 31 → (k : ℕ) → (formula_op k ≡ no_formula → P k) → P k
unfolding formula_numbered formula_number
formula_cases P p16 p17 p18 p19 p20 p21 p22 p23 p24 p25 p26 p27 p28 p29 p30 p31 k other = go (formula_op k) refl
  where
    at : (o : FormulaOp) (n : ℕ) → formula_op k ≡ o → (formula_numbered k o ≡ true → eqb n k ≡ true) → P n → P k
    at o n e f p = subst P (eqb-true n k (f (subst (λ (z : FormulaOp). formula_numbered k z ≡ true) e (formula_numbered_lem k)))) p

    go : (o : FormulaOp) → formula_op k ≡ o → P k
    go point_op e = at point_op 16 e (λ h. h) p16
    go stretch_op e = at stretch_op 17 e (λ h. h) p17
    go whole_op e = at whole_op 18 e (λ h. h) p18
    go unit_op e = at unit_op 19 e (λ h. h) p19
    go chop_op e = at chop_op 20 e (λ h. h) p20
    go conjunction_op e = at conjunction_op 21 e (λ h. h) p21
    go disjunction_op e = at disjunction_op 22 e (λ h. h) p22
    go star_op e = at star_op 23 e (λ h. h) p23
    go slen_op e = at slen_op 24 e (λ h. h) p24
    go scount_op e = at scount_op 25 e (λ h. h) p25
    go sdur_op e = at sdur_op 26 e (λ h. h) p26
    go drawn_op e = at drawn_op 27 e (λ h. h) p27
    go at_op e = at at_op 28 e (λ h. h) p28
    go gap_op e = at gap_op 29 e (λ h. h) p29
    go negation_op e = at negation_op 30 e (λ h. h) p30
    go for_some_op e = at for_some_op 31 e (λ h. h) p31
    go no_formula e = other e

-- a node of either kind that is sorted as a proposition or a formula has the op of one
sorted_proposition : Option Sort → PropositionOp → Bool
sorted_proposition sort o = not (same_sort sort proposition) || not (eqb (proposition_number o) 0)

sorted_formula : Option Sort → FormulaOp → Bool
sorted_formula sort o = not (same_sort sort formula) || not (eqb (formula_number o) 0)

module _ (sorts : List (Option Sort)) (long : length sorts ≤ 32) where
  proposition_sorted : every_below 32 (λ j. sorted_proposition (sort_of sorts j) (proposition_op j)) ≡ true
      → (k : ℕ) → sort_of sorts k ≡ proposition → proposition_op k ≡ no_proposition → ⊥
  unfolding sort_of same_sort sorted_proposition proposition_number
  proposition_sorted all k e none =
      false≢true
      (asked (same_sort (sort_of sorts k) proposition) false
      (subst (λ (o : PropositionOp). sorted_proposition (sort_of sorts k) o ≡ true) none
      (every_number 32 (λ j. sorted_proposition (sort_of sorts j) (proposition_op j)) all
      (λ j h. ap (λ (z : Option Sort). sorted_proposition z (proposition_op j)) (get_or-eq_default sorts no_op (omega arith))) k))
      (sort_same (sort_of sorts k) proposition e))

  formula_sorted : every_below 32 (λ j. sorted_formula (sort_of sorts j) (formula_op j)) ≡ true
      → (k : ℕ) → sort_of sorts k ≡ formula → formula_op k ≡ no_formula → ⊥
  unfolding sort_of same_sort sorted_formula formula_number
  formula_sorted all k e none =
      false≢true
      (asked (same_sort (sort_of sorts k) formula) false
      (subst (λ (o : FormulaOp). sorted_formula (sort_of sorts k) o ≡ true) none
      (every_number 32 (λ j. sorted_formula (sort_of sorts j) (formula_op j)) all
      (λ j h. ap (λ (z : Option Sort). sorted_formula z (formula_op j)) (get_or-eq_default sorts no_op (omega arith))) k))
      (sort_same (sort_of sorts k) formula e))

pub is_proposition : (k : ℕ) → sort_of requirement_sorts k ≡ proposition → proposition_op k ≡ no_proposition → ⊥
unfolding proposition_op sort_of same_sort sorted_proposition proposition_number every_below
is_proposition = proposition_sorted requirement_sorts (omega arith) refl

pub is_formula : (k : ℕ) → sort_of requirement_sorts k ≡ formula → formula_op k ≡ no_formula → ⊥
unfolding formula_op sort_of same_sort sorted_formula formula_number every_below
is_formula = formula_sorted requirement_sorts (omega arith) refl

pub emitted_proposition : (k : ℕ) → sort_of emitted_sorts k ≡ proposition → proposition_op k ≡ no_proposition → ⊥
unfolding proposition_op sort_of same_sort sorted_proposition proposition_number every_below
emitted_proposition = proposition_sorted emitted_sorts (omega arith) refl

pub emitted_formula_lem : (k : ℕ) → sort_of emitted_sorts k ≡ formula → formula_op k ≡ no_formula → ⊥
unfolding formula_op sort_of same_sort sorted_formula formula_number every_below
emitted_formula_lem = formula_sorted emitted_sorts (omega arith) refl

-- where a node of the needed sort stands
pub record Earlier (sorts : List (Option Sort)) (x : ℕ → Node) (i v : ℕ) (sort : Option Sort) : Type 0 where
  pub less : v < i
  pub sorted : sort_of sorts (x v).op ≡ sort

pub sort_below_lem : (sorts : List (Option Sort)) (x : ℕ → Node) (i v : ℕ) (sort : Option Sort) → is_some sort ≡ true → sort_below sorts x i v ≡ sort → Earlier sorts x i v sort
unfolding sort_below
sort_below_lem sorts x i v sort some h = go (ltb v i) refl h
  where
    go : (b : Bool) → ltb v i ≡ b → mathlib.Core.Bool.cond b (sort_of sorts (x v).op) no_op ≡ sort → Earlier sorts x i v sort
    go true e h = record { less = ltb-true v i e; sorted = h }
    go false e h = absurd (false≢true (ap is_some h ∙ some))

pub operand_proposition : (sorts : List (Option Sort)) (x : ℕ → Node) (i : ℕ) (what : Use) (v : ℕ) → operand_right sorts x i what v ≡ true → what ≡ PropositionNode → Earlier sorts x i v proposition
unfolding operand_right
operand_proposition sorts x i what v h e =
    sort_below_lem sorts x i v proposition refl (same_sort-true (sort_below sorts x i v) proposition (subst (λ (w : Use). operand_right sorts x i w v ≡ true) e h))

pub operand_formula : (sorts : List (Option Sort)) (x : ℕ → Node) (i : ℕ) (what : Use) (v : ℕ) → operand_right sorts x i what v ≡ true → what ≡ FormulaNode → Earlier sorts x i v formula
unfolding operand_right
operand_formula sorts x i what v h e =
    sort_below_lem sorts x i v formula refl (same_sort-true (sort_below sorts x i v) formula (subst (λ (w : Use). operand_right sorts x i w v ≡ true) e h))

-- the operands of a node that rule 7 takes
pub record Operands (sorts : List (Option Sort)) (x : ℕ → Node) (i : ℕ) : Type 0 where
  pub a_proposition : a_use (x i).op ≡ PropositionNode → Earlier sorts x i (x i).a proposition
  pub a_formula : a_use (x i).op ≡ FormulaNode → Earlier sorts x i (x i).a formula
  pub b_proposition : b_use (x i).op ≡ PropositionNode → Earlier sorts x i (x i).b proposition
  pub b_formula : b_use (x i).op ≡ FormulaNode → Earlier sorts x i (x i).b formula

pub operands : (sorts : List (Option Sort)) (x : ℕ → Node) (i : ℕ) → operands_right sorts x i ≡ true → Operands sorts x i
unfolding operands_right
operands sorts x i h =
    let n = x i in
    let a = and_left (operand_right sorts x i (a_use n.op) n.a) (operand_right sorts x i (b_use n.op) n.b) h in
    let b = and_right (operand_right sorts x i (a_use n.op) n.a) (operand_right sorts x i (b_use n.op) n.b) h in
    record {
      a_proposition = operand_proposition sorts x i (a_use n.op) n.a a;
      a_formula = operand_formula sorts x i (a_use n.op) n.a a;
      b_proposition = operand_proposition sorts x i (b_use n.op) n.b b;
      b_formula = operand_formula sorts x i (b_use n.op) n.b b;
    }

-- a node goes by the operands that its op uses
SameProposition : Node → (ℕ → Proposition) → (ℕ → Proposition) → ℕ → Type 0
SameProposition n p p' k =
    (a_use k ≡ PropositionNode → p n.a ≡ p' n.a)
    → (b_use k ≡ PropositionNode → p n.b ≡ p' n.b)
    → proposition_of (proposition_op k) n p ≡ proposition_of (proposition_op k) n p'

same_proposition : (n : Node) (p p' : ℕ → Proposition) (k : ℕ) → SameProposition n p p' k
unfolding SameProposition a_use b_use proposition_of proposition_op
same_proposition n p p' k =
    proposition_cases (SameProposition n p p')
    (λ g h. refl)
    (λ g h. refl)
    (λ g h. refl)
    (λ g h. refl)
    (λ g h. ap negated (g refl))
    (λ g h. ap₂ both_of (g refl) (h refl))
    (λ g h. ap₂ either_of (g refl) (h refl))
    k
    (λ e g h. ap (λ (o : PropositionOp). proposition_of o n p) e ∙ sym (ap (λ (o : PropositionOp). proposition_of o n p') e))

SameFormula : Node → (ℕ → Proposition) → (ℕ → Proposition) → (ℕ → Formula) → (ℕ → Formula) → ℕ → Type 0
SameFormula n p p' f f' k =
    (a_use k ≡ PropositionNode → p n.a ≡ p' n.a)
    → (a_use k ≡ FormulaNode → f n.a ≡ f' n.a)
    → (b_use k ≡ FormulaNode → f n.b ≡ f' n.b)
    → formula_of (formula_op k) n p f ≡ formula_of (formula_op k) n p' f'

same_formula : (n : Node) (p p' : ℕ → Proposition) (f f' : ℕ → Formula) (k : ℕ) → SameFormula n p p' f f' k
unfolding SameFormula a_use b_use formula_of formula_op
same_formula n p p' f f' k =
    formula_cases (SameFormula n p p' f f')
    (λ e g h. ap point (e refl))
    (λ e g h. ap stretch (e refl))
    (λ e g h. ap whole (e refl))
    (λ e g h. ap unit (e refl))
    (λ e g h. ap₂ chop (g refl) (h refl))
    (λ e g h. ap₂ conjunction (g refl) (h refl))
    (λ e g h. ap₂ disjunction (g refl) (h refl))
    (λ e g h. ap star (g refl))
    (λ e g h. refl)
    (λ e g h. ap (λ (z : Proposition). scount (Rattle.stored.specs.Tree.comparison_of n.q) z n.b) (e refl))
    (λ e g h. ap (λ (z : Proposition). sdur (Rattle.stored.specs.Tree.comparison_of n.q) z n.b) (e refl))
    (λ e g h. refl)
    (λ e g h. refl)
    (λ e g h. refl)
    (λ e g h. ap negation (g refl))
    (λ e g h. ap (for_some n.b) (g refl))
    k
    (λ other e g h. ap (λ (o : FormulaOp). formula_of o n p f) other ∙ sym (ap (λ (o : FormulaOp). formula_of o n p' f') other))

-- the tree at a node is the constructor of its op over its operands' trees
module _ (sorts : List (Option Sort)) (x : ℕ → Node) (i : ℕ) (h : operands_right sorts x i ≡ true) where
  earlier_proposition : (v : ℕ) → v < i → earlier i never (proposition_at x) v ≡ proposition_at x v
  earlier_proposition v l = earlier_at i never (proposition_at x) v l

  pub proposition_law : proposition_at x i ≡ proposition_of (proposition_op (x i).op) (x i) (proposition_at x)
  unfolding proposition_at proposition_step SameProposition
  proposition_law =
      let at = operands sorts x i h in
      made_step never (proposition_step x) i
      ∙ same_proposition (x i) (earlier i never (proposition_at x)) (proposition_at x) (x i).op
      (λ e. earlier_proposition (x i).a (at.a_proposition e).less)
      (λ e. earlier_proposition (x i).b (at.b_proposition e).less)

  pub formula_law : formula_at x i ≡ formula_of (formula_op (x i).op) (x i) (proposition_at x) (formula_at x)
  unfolding formula_at formula_step SameFormula
  formula_law =
      let at = operands sorts x i h in
      made_step (slen below 0) (formula_step x) i
      ∙ same_formula (x i) (earlier i never (proposition_at x)) (proposition_at x) (earlier i (slen below 0) (formula_at x)) (formula_at x) (x i).op
      (λ e. earlier_proposition (x i).a (at.a_proposition e).less)
      (λ e. earlier_at i (slen below 0) (formula_at x) (x i).a (at.a_formula e).less)
      (λ e. earlier_at i (slen below 0) (formula_at x) (x i).b (at.b_formula e).less)

-- the tree at i goes by the nodes up to i alone
pub proposition_agree : (x y : ℕ → Node) (i : ℕ) → ((k : ℕ) → k ≤ i → x k ≡ y k) → proposition_at x i ≡ proposition_at y i
unfolding proposition_at proposition_step
proposition_agree x y i h =
    made_agree never (proposition_step x) (proposition_step y) i
    (λ k l t. ap (λ (n : Node). proposition_of (proposition_op n.op) n t) (h k l))

pub formula_agree : (x y : ℕ → Node) (i : ℕ) → ((k : ℕ) → k ≤ i → x k ≡ y k) → formula_at x i ≡ formula_at y i
unfolding formula_at formula_step
formula_agree x y i h =
    made_agree (slen below 0) (formula_step x) (formula_step y) i
    (λ k l t.
    ap₂ (λ (n : Node) (p : ℕ → Proposition). formula_of (formula_op n.op) n p t) (h k l)
    (fun_ext
    (λ j. earlier_same k never (proposition_at x) (proposition_at y) j
    (λ e. proposition_agree x y j (λ o u. h o (omega arith))))))
