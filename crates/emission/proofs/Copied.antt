-- A node copied by the map stands for the node of the sheet.
use Rattle.std.proofs.Common.{ℕ, ◌+◌, ◌*◌, ◌/◌, ◌≤◌, ◌<◌, Bool, true, false, not, cond, ◌&&◌, ◌||◌, true≢false, List, inl, inr, ◌≢◌, ◌≡◌, refl, sym, ◌∙◌, ap, subst, arith, eqb-true, ltb-true, leb, ltb, eqb, length, set, get_or-set_same, get_or-set_other, Option, Some, None}
use Rattle.std.proofs.lemmas.Bool.{eqb-false}
use Rattle.std.proofs.lemmas.List.{get_or_past}
use Rattle.semantics.specs.Proposition.{Proposition}
use Rattle.semantics.specs.Formula.{Formula}
use Rattle.semantics.specs.Cycles.{count_below}
use Rattle.semantics.specs.Translation.{undrawn}
use Rattle.semantics.proofs.Tests.{test, and_left, and_right}
use Rattle.semantics.proofs.Cycles.{count_most}
use Rattle.std.specs.Option.{is_some}
use Rattle.stored.specs.declared.Node.{Node}
use Rattle.stored.specs.declared.nodes.Sort.{Sort}
use Rattle.stored.specs.Bytes.{every_below}
use Rattle.stored.specs.Node.{proposition, formula, no_op, same_sort, requirement_sorts, emitted_sorts, sort_of, q_use, a_use, b_use, node_at, field_right, fields_right, operands_right}
use Rattle.stored.specs.Tree.{symbol_of, FormulaOp, formula_op, proposition_at, formula_of, formula_at}
use Rattle.stored.specs.Reach.{entry_of}
use Rattle.stored.specs.Sheet.{header_of}
use Rattle.stored.specs.Written.{NodeFits}
use Rattle.stored.proofs.Rules.{every_number}
use Rattle.stored.proofs.Sorts.{same_sort-true}
use Rattle.stored.proofs.Tree.{formula_cases, operands, proposition_law, formula_law}
use Rattle.plans.specs.Bound.{most_emitted, is_drawing, drawing_at}
use Rattle.plans.specs.Emission.{count, Step, HasProposition, Has, Emits, Ready}
use Rattle.emission.specs.Copying.{Stands, Mapped, copied_node, no_propositions, no_formulas, drawing_of, Copied, by_others, itself, copy_cost, copy_costs, NodesIn}
use Rattle.plans.proofs.Steps.{stay, steps, wider, has_kept, proposition_kept, ready_kept, Added, put_added}
use Rattle.plans.proofs.Plans.{Tells}
use Rattle.emission.proofs.Copies.{Given, some_sort, q_right, a_right, may_copy, is_proposition_copied, is_formula_copied}
use Rattle.emission.proofs.Drawings.{symbol_told, mark_told, gap_told}

-- ---- sorts
sort_kept : ℕ → Option Sort → Option Sort → Bool
sort_kept k sort sort' = leb 27 k && leb k 29 || (not (is_some sort) || same_sort sort' sort)

sort_kept_lem : (k : ℕ) → sort_kept k (sort_of requirement_sorts k) (sort_of emitted_sorts k) ≡ true
unfolding sort_of same_sort sort_kept every_below
sort_kept_lem =
    every_number 32 (λ k. sort_kept k (sort_of requirement_sorts k) (sort_of emitted_sorts k)) refl
    (λ k h. ap (λ (z : Option Sort). sort_kept k z (sort_of emitted_sorts k)) (get_or_past requirement_sorts k no_op h) ∙ past (leb 27 k && leb k 29))
  where
    past : (a : Bool) → (a || true) ≡ true
    past true = refl
    past false = refl

-- an op of kind 1 that is no drawing has the same sort in kind 2
sort_copied : (n : Node) → is_drawing n ≡ false → (sort_of requirement_sorts n.op ≡ no_op → ⊥) → sort_of emitted_sorts n.op ≡ sort_of requirement_sorts n.op
unfolding sort_kept is_drawing
sort_copied n e some =
    same_sort-true _ _ (left (leb 27 n.op && leb n.op 29) (not (is_some (sort_of requirement_sorts n.op))) _ e (known (sort_of requirement_sorts n.op) some) (sort_kept_lem n.op))
  where
    known : (sort : Option Sort) → (sort ≡ no_op → ⊥) → not (is_some sort) ≡ false
    known None h = absurd (h refl)
    known (Some sort) h = refl

    left : (a b c : Bool) → a ≡ false → b ≡ false → (a || (b || c)) ≡ true → c ≡ true
    left true b c p q r = absurd (true≢false p)
    left false true c p q r = absurd (true≢false q)
    left false false c p q r = r

-- ---- the operands of a node that rule 7 takes
undrawn_at : (ℕ → Node) → ℕ → Formula
undrawn_at x i = undrawn (formula_at x i)

module _ {x : ℕ → Node} {i : ℕ} {y map : List ℕ} (kept : operands_right requirement_sorts x i ≡ true) (mapped : Mapped x i y map) where
  given_a : Given y map (proposition_at x) (undrawn_at x) (a_use (x i).op) (x i).a
  unfolding undrawn_at
  given_a =
      let o = operands requirement_sorts x i kept in
      record {
        proposition = λ e. (mapped (x i).a (o.a_proposition e).less).proposition (o.a_proposition e).sorted;
        formula = λ e. (mapped (x i).a (o.a_formula e).less).formula (o.a_formula e).sorted;
      }

  given_b : Given y map (proposition_at x) (undrawn_at x) (b_use (x i).op) (x i).b
  unfolding undrawn_at
  given_b =
      let o = operands requirement_sorts x i kept in
      record {
        proposition = λ e. (mapped (x i).b (o.b_proposition e).less).proposition (o.b_proposition e).sorted;
        formula = λ e. (mapped (x i).b (o.b_formula e).less).formula (o.b_formula e).sorted;
      }

-- ---- the copy stands for the node
no_gap : (n : Node) → is_drawing n ≡ false → n.op ≡ 29 → ⊥
unfolding is_drawing
no_gap n e f = grind arith

-- what is no drawing keeps its op
UndrawnAlike : Node → (ℕ → Proposition) → (ℕ → Formula) → ℕ → Type 0
UndrawnAlike n p f k = leb 27 k && leb k 29 ≡ false → formula_of (formula_op k) n p (λ i. undrawn (f i)) ≡ undrawn (formula_of (formula_op k) n p f)

undrawn_alike : (n : Node) (p : ℕ → Proposition) (f : ℕ → Formula) (k : ℕ) → UndrawnAlike n p f k
unfolding UndrawnAlike formula_of formula_op undrawn
undrawn_alike n p f k =
    formula_cases (UndrawnAlike n p f)
    (λ d. refl) (λ d. refl) (λ d. refl) (λ d. refl) (λ d. refl) (λ d. refl) (λ d. refl) (λ d. refl) (λ d. refl) (λ d. refl) (λ d. refl)
    (λ d. absurd (true≢false d))
    (λ d. absurd (true≢false d))
    (λ d. absurd (true≢false d))
    (λ d. refl) (λ d. refl)
    k
    (λ other d. ap (λ (o : FormulaOp). formula_of o n p (λ i. undrawn (f i))) other ∙ sym (ap (λ (o : FormulaOp). undrawn (formula_of o n p f)) other))

copied_stands : {x : ℕ → Node} {i : ℕ} {y z map : List ℕ} {r : ℕ} → operands_right requirement_sorts x i ≡ true
    → (sort_of requirement_sorts (x i).op ≡ no_op → ⊥) → is_drawing (x i) ≡ false
    → Given y map (proposition_at x) (undrawn_at x) (a_use (x i).op) (x i).a → Given y map (proposition_at x) (undrawn_at x) (b_use (x i).op) (x i).b
    → Added y z r (copied_node map (x i)) → Stands x i z r
unfolding undrawn_at UndrawnAlike is_drawing
copied_stands {x} {i} {y} {z} {map} {r} kept some plain a b new =
    let sort = sort_copied (x i) plain some in
    record {
      proposition = λ e. subst (HasProposition z r) (sym (proposition_law requirement_sorts x i kept)) (is_proposition_copied (x i) a b new (sort ∙ e));
      formula =
          λ e. subst (Has z r)
          (undrawn_alike (x i) (proposition_at x) (formula_at x) (x i).op plain ∙ sym (ap undrawn (formula_law requirement_sorts x i kept)))
          (is_formula_copied (x i) a b new (sort ∙ e));
    }

-- ---- drawings
drawing_cases : (P : ℕ → Type 0) → P 27 → P 28 → P 29 → (n : Node) → is_drawing n ≡ true → P n.op
unfolding is_drawing
drawing_cases P p q r n e =
    elim (test (eqb n.op 27)) [
      | inl f ↦ rw (eqb-true _ 27 f) p
      | inr f ↦ elim (test (eqb n.op 28)) [
        | inl g ↦ rw (eqb-true _ 28 g) q
        | inr g ↦ let is : n.op ≡ 29 = grind arith in rw is r
      ]
    ]

DrawnAlike : Node → (ℕ → Proposition) → (ℕ → Formula) → ℕ → Type 0
DrawnAlike n p f k = (sort_of requirement_sorts k ≡ formula) × (formula_of (formula_op k) n no_propositions no_formulas ≡ formula_of (formula_op k) n p f)

drawn_alike : (n : Node) (p : ℕ → Proposition) (f : ℕ → Formula) → is_drawing n ≡ true → DrawnAlike n p f n.op
unfolding DrawnAlike sort_of formula_of formula_op
drawn_alike n p f e = drawing_cases (DrawnAlike n p f) (refl, refl) (refl, refl) (refl, refl) n e

drawing_stands : {x : ℕ → Node} {i : ℕ} {y z : List ℕ} {r k : ℕ} → operands_right requirement_sorts x i ≡ true → is_drawing (x i) ≡ true
    → Emits y z r k (drawing_of (x i)) → Stands x i z r
unfolding drawing_of DrawnAlike
drawing_stands {x} {i} kept drawing e =
    let alike = drawn_alike (x i) (proposition_at x) (formula_at x) drawing in
    record {
      proposition = λ s. let other : proposition ≡ formula = sym s ∙ alike.0 in cc;
      formula =
          λ s. record {
            below = e.has.below;
            sorted = e.has.sorted;
            tree = e.has.tree ∙ ap undrawn (alike.1 ∙ sym (formula_law requirement_sorts x i kept));
          };
    }

-- ---- the map
mapped_kept : {y z : List ℕ} {k : ℕ} (x : ℕ → Node) (i : ℕ) (map : List ℕ) → Step y z k → Mapped x i y map → Mapped x i z map
mapped_kept x i map s h j l =
    record {
      proposition = λ e. proposition_kept s ((h j l).proposition e);
      formula = λ e. has_kept s ((h j l).formula e);
    }

mapped_next : {y : List ℕ} {r : ℕ} (x : ℕ → Node) (i : ℕ) (map : List ℕ) → i < length map → Mapped x i y map
    → Stands x i y r → Mapped x (i + 1) y (set map i r)
unfolding entry_of
mapped_next {r = r} x i map fits h new j l =
    elim (test (eqb j i)) [
      | inl e ↦ rw (eqb-true j i e, get_or-set_same map i r 0 fits) new
      | inr e ↦ rw (get_or-set_other map i j r 0 (eqb-false j i e)) (h j (grind arith))
    ]

-- ---- costs
cost_next : (x : ℕ → Node) (i : ℕ) → copy_costs x i + copy_cost (x i) ≡ copy_costs x (i + 1)
unfolding copy_costs copy_cost count_below drawing_at
cost_next x i = grind arith

pub costs_most : (x : ℕ → Node) (i : ℕ) → copy_costs x i ≤ 12 * i
unfolding copy_costs
costs_most x i = omega (arith, count_most i (drawing_at x))

-- ---- drawings take at most 12 nodes
DrawingTold : List ℕ → Node → ℕ → Type 0
DrawingTold y n k =
    field_right (header_of y).signals (header_of y).names (q_use k) n.q ≡ true
    → field_right (header_of y).signals (header_of y).names (a_use k) n.a ≡ true
    → Tells y (undrawn (formula_of (formula_op k) n no_propositions no_formulas)) (undrawn (formula_of (formula_op k) n no_propositions no_formulas)) 12

drawing_told : {y : List ℕ} (n : Node) → Ready y → NodeFits n → is_drawing n ≡ true
    → fields_right requirement_sorts (header_of y).signals (header_of y).names n ≡ true → Tells y (drawing_of n) (drawing_of n) 12
unfolding drawing_of DrawingTold field_right q_use a_use formula_of formula_op undrawn
drawing_told {y} n ready fits drawing right =
    let s = (header_of y).signals in
    let m = (header_of y).names in
    drawing_cases (DrawingTold y n)
    (λ q a. symbol_told ready (symbol_of n.q) (ltb-true _ _ a))
    (λ q a. mark_told ready (ltb-true _ _ a))
    (λ q a. gap_told ready (ltb-true _ _ (and_left (ltb (n.q / 16) m) _ q)) (ltb-true _ _ (and_right (ltb (n.q / 16) m) _ q)) fits.a_fits fits.b_fits)
    n drawing (q_right requirement_sorts s m n right) (a_right requirement_sorts s m n right)

pub no_drawing : (n : Node) → n.op ≢ 27 → n.op ≢ 28 → n.op ≢ 29 → is_drawing n ≡ false
unfolding is_drawing
no_drawing n a b c = grind arith

-- ---- node i copied
copied : {y z map : List ℕ} {r : ℕ} (x : ℕ → Node) (i : ℕ) → Ready y → count y + 12 ≤ most_emitted
    → fields_right requirement_sorts (header_of y).signals (header_of y).names (x i) ≡ true → operands_right requirement_sorts x i ≡ true
    → Mapped x i y map → Copied map (x i) y z r → (Step y z (copy_cost (x i))) × (Stands x i z r)
unfolding copy_cost
copied {y} {z} {r = r} x i ready room right kept mapped (by_others drawing fits w) =
    let e = drawing_told (x i) ready fits drawing right y z r 0 (stay ready.good) room w in
    (subst (λ (b : Bool). Step y z (cond b 12 1)) (sym drawing) e.step, drawing_stands kept drawing e)
copied {y} {z} x i ready room right kept mapped (itself plain fits put) =
    let a = given_a kept mapped in
    let b = given_b kept mapped in
    let new = put_added
    (may_copy requirement_sorts (x i) ready.good (omega arith) fits (sort_copied (x i) plain (some_sort requirement_sorts _ _ (x i) right)) (no_gap (x i) plain) right a b)
    put
    in
    (subst (λ (b : Bool). Step y z (cond b 12 1)) (sym plain) new.step, copied_stands kept (some_sort requirement_sorts _ _ (x i) right) plain a b new)

-- one turn of the loop over the n nodes of a sheet
pub copied_next : {x y z map nodes : List ℕ} {n r : ℕ} (i : ℕ) → Ready x → count x + 768 ≤ most_emitted → NodesIn x nodes n → i < n → length map ≡ 64
    → Step x y (copy_costs (node_at nodes) i) → Mapped (node_at nodes) i y map → Copied map (node_at nodes i) y z r
    → (Step x z (copy_costs (node_at nodes) (i + 1))) × (Mapped (node_at nodes) (i + 1) z (set map i r))
copied_next {y = y} {map = map} {nodes = nodes} i ready room sheet less long s mapped new =
    let few = sheet.few in
    let right : fields_right requirement_sorts (header_of y).signals (header_of y).names (node_at nodes i) ≡ true
    = rw (s.signals, s.names) (sheet.fields i less)
    in
    let e = copied (node_at nodes) i (ready_kept s ready) (omega (arith, s.few, costs_most (node_at nodes) i)) right (sheet.operands i less) mapped new in (
      wider _ (omega (arith, cost_next (node_at nodes) i)) (steps s e.0),
      mapped_next (node_at nodes) i map (omega arith) (mapped_kept (node_at nodes) i map e.0 mapped) e.1,
    )
