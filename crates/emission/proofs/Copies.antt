-- A node copied by a map of its operands, whatever the sorts that its rules went by: it may come next, and is what it was over the nodes that
-- the map gives.
use Rattle.std.proofs.Common.{ℕ, ◌+◌, ◌*◌, ◌<◌, Bool, true, false, not, ◌&&◌, ◌||◌, true≢false, List, inl, inr, ◌≡◌, refl, sym, ◌∙◌, ap, ap₂, arith, ne_eqb, leb, eqb, get_or, Option}
use Rattle.semantics.specs.Proposition.{Proposition, negated, both_of, either_of}
use Rattle.semantics.specs.Formula.{Formula, point, stretch, whole, unit, chop, conjunction, disjunction, star, scount, sdur, negation, for_some}
use Rattle.semantics.proofs.Tests.{test, and_left, and_right, and_intro}
use Rattle.std.specs.Option.{is_some}
use Rattle.stored.specs.declared.Node.{Node}
use Rattle.stored.specs.declared.nodes.Sort.{Sort}
use Rattle.stored.specs.declared.nodes.Use.{Use}
use Rattle.stored.specs.declared.nodes.Use.TheVariants.{Nothing, Signal, Name, Comparison, Symbol, TwoNames, Number, PropositionNode, FormulaNode}
use Rattle.stored.specs.Bytes.{word}
use Rattle.stored.specs.Node.{proposition, formula, no_op, emitted_sorts, sort_of, q_use, a_use, b_use, is_operand, node_at, field_right, fields_right, operand_right}
use Rattle.stored.specs.Tree.{comparison_of, PropositionOp, FormulaOp, proposition_op, formula_op, proposition_of, formula_of}
use Rattle.stored.specs.Reach.{entry_of}
use Rattle.stored.specs.Sheet.{header_of}
use Rattle.stored.specs.Written.{node_in, NodeFits}
use Rattle.stored.proofs.Tree.{proposition_cases, formula_cases}
use Rattle.stored.proofs.Ways.{as_proposition, as_formula, use-of}
use Rattle.plans.specs.Bound.{most_emitted}
use Rattle.plans.specs.Emission.{count, proposition_in, formula_in, Good, HasProposition, Has}
use Rattle.plans.proofs.Steps.{has_kept, proposition_kept, Addable, Added}
use Rattle.plans.proofs.Nodes.{of_formula, of_proposition, new_proposition, new_formula}
use Rattle.emission.specs.Copying.{mapped_to, copied_node}

-- a field that is no operand is right as one
no_operand : (x : ℕ → Node) (i : ℕ) (what : Use) (v : ℕ) → is_operand what ≡ false → operand_right emitted_sorts x i what v ≡ true
unfolding is_operand operand_right
no_operand x i Nothing v e = refl
no_operand x i Signal v e = refl
no_operand x i Name v e = refl
no_operand x i Comparison v e = refl
no_operand x i Symbol v e = refl
no_operand x i TwoNames v e = refl
no_operand x i Number v e = refl
no_operand x i PropositionNode v e = absurd (true≢false e)
no_operand x i FormulaNode v e = absurd (true≢false e)

-- ---- fields
-- an operand that the map gives, where earlier nodes are the propositions p and the formulas f
pub record Given (y map : List ℕ) (p : ℕ → Proposition) (f : ℕ → Formula) (what : Use) (v : ℕ) : Type 0 where
  pub proposition : what ≡ PropositionNode → HasProposition y (entry_of map v) (p v)
  pub formula : what ≡ FormulaNode → Has y (entry_of map v) (f v)

module _ {y map : List ℕ} {p : ℕ → Proposition} {f : ℕ → Formula} (what : Use) (v : ℕ) (h : Given y map p f what v) where
  given_below : is_operand what ≡ true → entry_of map v < count y
  given_below e =
      elim (use-of what e) [
        | as_proposition u ↦ (h.proposition u).below
        | as_formula u ↦ (h.formula u).below
      ]

  given_fits : Good y → v < 65536 → mapped_to map what v < 65536
  unfolding mapped_to
  given_fits good small = grind (arith, given_below, good.few_nodes)

  given_right : (s m : ℕ) → field_right s m what v ≡ true → field_right s m what (mapped_to map what v) ≡ true
  unfolding mapped_to field_right
  given_right s m r =
      elim (test (is_operand what)) [
        | inl e ↦ elim (use-of what e) [
          | as_proposition u ↦ rw u
          | as_formula u ↦ rw u
        ]
        | inr e ↦ ap (field_right s m what) (value e) ∙ r
      ]
    where
      value : is_operand what ≡ false → mapped_to map what v ≡ v
      value e = rw e

  given_operand : operand_right emitted_sorts (node_in y) (count y) what (mapped_to map what v) ≡ true
  unfolding mapped_to
  given_operand =
      elim (test (is_operand what)) [
        | inl e ↦ elim (use-of what e) [
          | as_proposition u ↦ rw (e, u) (of_proposition (h.proposition u))
          | as_formula u ↦ rw (e, u) (of_formula (h.formula u))
        ]
        | inr e ↦ no_operand (node_in y) (count y) what _ e
      ]

-- rule 6, opened
module _ (sorts : List (Option Sort)) (s m : ℕ) (n : Node) (right : fields_right sorts s m n ≡ true) where
  pub some_sort : sort_of sorts n.op ≡ no_op → ⊥
  unfolding fields_right
  some_sort e = true≢false (sym (and_left (is_some (sort_of sorts n.op)) _ right) ∙ ap is_some e)

  pub q_right : field_right s m (q_use n.op) n.q ≡ true
  unfolding fields_right
  q_right = and_left (field_right s m (q_use n.op) n.q) _ (and_right (is_some (sort_of sorts n.op)) _ right)

  ab_right : (field_right s m (a_use n.op) n.a && (field_right s m (b_use n.op) n.b && (not (eqb n.op 29) || leb n.a n.b))) ≡ true
  unfolding fields_right
  ab_right = and_right (field_right s m (q_use n.op) n.q) _ (and_right (is_some (sort_of sorts n.op)) _ right)

  pub a_right : field_right s m (a_use n.op) n.a ≡ true
  a_right = and_left (field_right s m (a_use n.op) n.a) _ ab_right

  b_right : field_right s m (b_use n.op) n.b ≡ true
  b_right = and_left (field_right s m (b_use n.op) n.b) _ (and_right (field_right s m (a_use n.op) n.a) _ ab_right)

-- ---- the copy may come next
pub may_copy : {y map : List ℕ} {p : ℕ → Proposition} {f : ℕ → Formula} (sorts : List (Option Sort)) (n : Node) → Good y → count y < most_emitted → NodeFits n
    → sort_of emitted_sorts n.op ≡ sort_of sorts n.op → (n.op ≡ 29 → ⊥)
    → fields_right sorts (header_of y).signals (header_of y).names n ≡ true
    → Given y map p f (a_use n.op) n.a → Given y map p f (b_use n.op) n.b → Addable y (copied_node map n)
unfolding copied_node fields_right
may_copy {y} {map} sorts n good room fits sort no_gap right a b =
    let s = (header_of y).signals in
    let m = (header_of y).names in
    record {
      good = good;
      room = room;
      fields =
          record {
            op_fits = fits.op_fits;
            q_fits = fits.q_fits;
            a_fits = given_fits (a_use n.op) n.a a good fits.a_fits;
            b_fits = given_fits (b_use n.op) n.b b good fits.b_fits;
          };
      right =
          and_intro _ _ (ap is_some sort ∙ and_left (is_some (sort_of sorts n.op)) _ right)
          (and_intro _ _ (q_right sorts s m n right)
          (and_intro _ _ (given_right (a_use n.op) n.a a s m (a_right sorts s m n right))
          (and_intro _ _ (given_right (b_use n.op) n.b b s m (b_right sorts s m n right))
          (ap (λ (z : Bool). not z || leb (mapped_to map (a_use n.op) n.a) (mapped_to map (b_use n.op) n.b)) (ne_eqb n.op 29 no_gap)))));
      a_right = given_operand (a_use n.op) n.a a;
      b_right = given_operand (b_use n.op) n.b b;
    }

-- ---- and is what the node is
-- as a node of op k
copied_as : List ℕ → ℕ → Node → Node
copied_as map k n = record { op = n.op; q = n.q; a = mapped_to map (a_use k) n.a; b = mapped_to map (b_use k) n.b }

CopiedProposition : List ℕ → Node → (ℕ → Proposition) → (ℕ → Proposition) → ℕ → Type 0
CopiedProposition map n p p' k =
    (a_use k ≡ PropositionNode → p' (entry_of map n.a) ≡ p n.a)
    → (b_use k ≡ PropositionNode → p' (entry_of map n.b) ≡ p n.b)
    → proposition_of (proposition_op k) (copied_as map k n) p' ≡ proposition_of (proposition_op k) n p

copied_proposition : (map : List ℕ) (n : Node) (p p' : ℕ → Proposition) (k : ℕ) → CopiedProposition map n p p' k
unfolding CopiedProposition copied_as mapped_to is_operand a_use b_use proposition_of proposition_op
copied_proposition map n p p' k =
    proposition_cases (CopiedProposition map n p p')
    (λ g h. refl)
    (λ g h. refl)
    (λ g h. refl)
    (λ g h. refl)
    (λ g h. ap negated (g refl))
    (λ g h. ap₂ both_of (g refl) (h refl))
    (λ g h. ap₂ either_of (g refl) (h refl))
    k
    (λ e g h. ap (λ (o : PropositionOp). proposition_of o (copied_as map k n) p') e ∙ sym (ap (λ (o : PropositionOp). proposition_of o n p) e))

CopiedFormula : List ℕ → Node → (ℕ → Proposition) → (ℕ → Proposition) → (ℕ → Formula) → (ℕ → Formula) → ℕ → Type 0
CopiedFormula map n p p' f f' k =
    (a_use k ≡ PropositionNode → p' (entry_of map n.a) ≡ p n.a)
    → (a_use k ≡ FormulaNode → f' (entry_of map n.a) ≡ f n.a)
    → (b_use k ≡ FormulaNode → f' (entry_of map n.b) ≡ f n.b)
    → formula_of (formula_op k) (copied_as map k n) p' f' ≡ formula_of (formula_op k) n p f

copied_formula : (map : List ℕ) (n : Node) (p p' : ℕ → Proposition) (f f' : ℕ → Formula) (k : ℕ) → CopiedFormula map n p p' f f' k
unfolding CopiedFormula copied_as mapped_to is_operand a_use b_use formula_of formula_op
copied_formula map n p p' f f' k =
    formula_cases (CopiedFormula map n p p' f f')
    (λ e g h. ap point (e refl))
    (λ e g h. ap stretch (e refl))
    (λ e g h. ap whole (e refl))
    (λ e g h. ap unit (e refl))
    (λ e g h. ap₂ chop (g refl) (h refl))
    (λ e g h. ap₂ conjunction (g refl) (h refl))
    (λ e g h. ap₂ disjunction (g refl) (h refl))
    (λ e g h. ap star (g refl))
    (λ e g h. refl)
    (λ e g h. ap (λ (z : Proposition). scount (comparison_of n.q) z n.b) (e refl))
    (λ e g h. ap (λ (z : Proposition). sdur (comparison_of n.q) z n.b) (e refl))
    (λ e g h. refl)
    (λ e g h. refl)
    (λ e g h. refl)
    (λ e g h. ap negation (g refl))
    (λ e g h. ap (for_some n.b) (g refl))
    k
    (λ other e g h. ap (λ (o : FormulaOp). formula_of o (copied_as map k n) p' f') other ∙ sym (ap (λ (o : FormulaOp). formula_of o n p f) other))

module _ {y z map : List ℕ} {r : ℕ} {p : ℕ → Proposition} {f : ℕ → Formula} (n : Node)
    (a : Given y map p f (a_use n.op) n.a) (b : Given y map p f (b_use n.op) n.b) (new : Added y z r (copied_node map n)) where
  pub is_proposition_copied : sort_of emitted_sorts n.op ≡ proposition → HasProposition z r (proposition_of (proposition_op n.op) n p)
  unfolding copied_node copied_as CopiedProposition
  is_proposition_copied e =
      (new_proposition new _ e
      (copied_proposition map n p (proposition_in z) n.op
      (λ u. (proposition_kept new.step (a.proposition u)).tree)
      (λ u. (proposition_kept new.step (b.proposition u)).tree))
      ).has

  pub is_formula_copied : sort_of emitted_sorts n.op ≡ formula → Has z r (formula_of (formula_op n.op) n p f)
  unfolding copied_node copied_as CopiedFormula
  is_formula_copied e =
      (new_formula new _ e
      (copied_formula map n p (proposition_in z) f (formula_in z) n.op
      (λ u. (proposition_kept new.step (a.proposition u)).tree)
      (λ u. (has_kept new.step (a.formula u)).tree)
      (λ u. (has_kept new.step (b.formula u)).tree))
      ).has

-- ---- fields that bytes hold
pub node_fits : (l : List ℕ) (i : ℕ) → ((k : ℕ) → get_or l k 0 < 256) → NodeFits (node_at l i)
unfolding node_at word
node_fits l i h =
    record {
      op_fits = h (6 * i);
      q_fits = h (6 * i + 1);
      a_fits = omega (arith, h (6 * i + 2), h (6 * i + 2 + 1));
      b_fits = omega (arith, h (6 * i + 4), h (6 * i + 4 + 1));
    }
