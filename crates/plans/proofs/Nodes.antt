-- What a node that was put is, by op.
use Rattle.std.proofs.Common.{ℕ, ◌<◌, true, List, ◌≡◌, refl, ◌∙◌, ap, ap₂, arith, lt-ltb, Option}
use Rattle.semantics.specs.Proposition.{Proposition, signal, name, negated}
use Rattle.semantics.specs.Formula.{Formula, point, stretch, unit, chop, conjunction, disjunction, slen, scount, negation, for_some, equal}
use Rattle.stored.specs.declared.Node.{Node}
use Rattle.stored.specs.declared.nodes.Sort.{Sort}
use Rattle.stored.specs.declared.nodes.Use.TheVariants.{PropositionNode, FormulaNode}
use Rattle.stored.specs.Node.{proposition, formula, same_sort, emitted_sorts, sort_of, sort_below, q_use, a_use, b_use, field_right, fields_right, operand_right}
use Rattle.stored.specs.Tree.{proposition_op, formula_op, proposition_of, formula_of, comparison_of}
use Rattle.stored.specs.Sheet.{header_of}
use Rattle.stored.specs.Written.{node_in}
use Rattle.stored.proofs.Sorts.{sort_same}
use Rattle.stored.proofs.Tree.{proposition_law, formula_law}
use Rattle.plans.specs.Bound.{most_emitted}
use Rattle.plans.specs.Emission.{count, proposition_in, formula_in, Good, Step, HasProposition, Has, Emits}
use Rattle.plans.specs.Plan.{node, op_signal, op_name, op_negated, op_point, op_stretch, op_unit, op_chop, op_and, op_or, op_length, op_count, op_not, op_some, q_equal, Put}
use Rattle.plans.proofs.Steps.{has_kept, proposition_kept, Addable, Added, put_added}

-- x became y by at most k new nodes, and node r is proposition p
pub record EmitsProposition (x y : List ℕ) (r k : ℕ) (p : Proposition) : Type 0 where
  pub step : Step x y k
  pub has : HasProposition y r p

-- ---- operands
sort_is : (y : List ℕ) (a : ℕ) (sort : Option Sort) → a < count y → sort_of emitted_sorts (node_in y a).op ≡ sort → same_sort (sort_below emitted_sorts (node_in y) (count y) a) sort ≡ true
unfolding sort_below
sort_is y a sort h e = rw (lt-ltb a (count y) h) (sort_same _ sort e)

pub of_formula : {y : List ℕ} {a : ℕ} {f : Formula} → Has y a f → operand_right emitted_sorts (node_in y) (count y) FormulaNode a ≡ true
unfolding operand_right
of_formula {y} {a} h = sort_is y a formula h.below h.sorted

pub of_proposition : {y : List ℕ} {a : ℕ} {p : Proposition} → HasProposition y a p → operand_right emitted_sorts (node_in y) (count y) PropositionNode a ≡ true
unfolding operand_right
of_proposition {y} {a} h = sort_is y a proposition h.below h.sorted

-- ---- the tree of a new node
module _ {x y : List ℕ} {r : ℕ} {n : Node} (new : Added x y r n) where
  new_below : r < count y
  new_below = omega (arith, new.exact, new.place)

  pub new_proposition : (p : Proposition) → sort_of emitted_sorts n.op ≡ proposition
      → proposition_of (proposition_op n.op) n (proposition_in y) ≡ p → EmitsProposition x y r 1 p
  unfolding proposition_in
  new_proposition p s e =
      record {
        step = new.step;
        has =
            record {
              below = new_below;
              sorted = rw new.node s;
              tree =
                  proposition_law emitted_sorts (node_in y) r (new.step.good.operands_right_holds r new_below)
                  ∙ ap (λ (o : Node). proposition_of (proposition_op o.op) o (proposition_in y)) new.node
                  ∙ e;
            };
      }

  pub new_formula : (f : Formula) → sort_of emitted_sorts n.op ≡ formula
      → formula_of (formula_op n.op) n (proposition_in y) (formula_in y) ≡ f → Emits x y r 1 f
  unfolding proposition_in formula_in
  new_formula f s e =
      record {
        step = new.step;
        has =
            record {
              below = new_below;
              sorted = rw new.node s;
              tree =
                  formula_law emitted_sorts (node_in y) r (new.step.good.operands_right_holds r new_below)
                  ∙ ap (λ (o : Node). formula_of (formula_op o.op) o (proposition_in y) (formula_in y)) new.node
                  ∙ e;
            };
      }

-- what the rules for fields and operands compute to
unfoldable ruled : ℕ
unfolding fields_right field_right sort_of q_use a_use b_use operand_right proposition_of proposition_op formula_of formula_op
ruled = 0

-- ---- by op, where there is room for one node more
module _ {x : List ℕ} (good : Good x) (room : count x < most_emitted) where
  may : (op q a b : ℕ) → op < 256 → q < 256 → a < 65536 → b < 65536
      → fields_right emitted_sorts (header_of x).signals (header_of x).names (node op q a b) ≡ true
      → operand_right emitted_sorts (node_in x) (count x) (a_use op) a ≡ true
      → operand_right emitted_sorts (node_in x) (count x) (b_use op) b ≡ true
      → Addable x (node op q a b)
  may op q a b o p i j right h k =
      record { good = good; room = room; fields = record { op_fits = o; q_fits = p; a_fits = i; b_fits = j }; right = right; a_right = h; b_right = k }

  -- two formulas
  pair_new : {y : List ℕ} {r a b : ℕ} {f g : Formula} (op : ℕ) (t : Formula → Formula → Formula) → op < 256
      → fields_right emitted_sorts (header_of x).signals (header_of x).names (node op 0 a b) ≡ true → a_use op ≡ FormulaNode → b_use op ≡ FormulaNode
      → sort_of emitted_sorts op ≡ formula → ((p : ℕ → Proposition) (h : ℕ → Formula) → formula_of (formula_op op) (node op 0 a b) p h ≡ t (h a) (h b))
      → Has x a f → Has x b g → Put (node op 0 a b) x y r → Emits x y r 1 (t f g)
  pair_new {y} {a = a} {b = b} op t o right i j sort made h k put =
      let first = of_formula h in
      let second = of_formula k in
      let new = put_added (may op 0 a b o (omega arith) (omega arith) (omega arith) right (rw i first) (rw j second)) put in
      new_formula new _ sort (made (proposition_in y) (formula_in y) ∙ ap₂ t (has_kept new.step h).tree (has_kept new.step k).tree)

  pub chop_new : {y : List ℕ} {r a b : ℕ} {f g : Formula} → Has x a f → Has x b g → Put (node op_chop 0 a b) x y r → Emits x y r 1 (chop f g)
  unfolding ruled
  chop_new h k put = pair_new op_chop chop (omega arith) refl refl refl refl (λ p f. refl) h k put

  pub and_new : {y : List ℕ} {r a b : ℕ} {f g : Formula} → Has x a f → Has x b g → Put (node op_and 0 a b) x y r → Emits x y r 1 (conjunction f g)
  unfolding ruled
  and_new h k put = pair_new op_and conjunction (omega arith) refl refl refl refl (λ p f. refl) h k put

  pub or_new : {y : List ℕ} {r a b : ℕ} {f g : Formula} → Has x a f → Has x b g → Put (node op_or 0 a b) x y r → Emits x y r 1 (disjunction f g)
  unfolding ruled
  or_new h k put = pair_new op_or disjunction (omega arith) refl refl refl refl (λ p f. refl) h k put

  -- one formula
  pub not_new : {y : List ℕ} {r a : ℕ} {f : Formula} → Has x a f → Put (node op_not 0 a 0) x y r → Emits x y r 1 (negation f)
  unfolding ruled
  not_new {a = a} h put =
      let new = put_added (may op_not 0 a 0 (omega arith) (omega arith) (omega (arith, h.below)) (omega arith) refl (of_formula h) refl) put in
      new_formula new _ refl (ap negation (has_kept new.step h).tree)

  pub some_new : {y : List ℕ} {r a : ℕ} {f : Formula} (u : ℕ) → u < (header_of x).names → Has x a f → Put (node op_some 0 a u) x y r → Emits x y r 1 (for_some u f)
  unfolding ruled
  some_new {a = a} u l h put =
      let small : u < 65536 = omega (arith, good.few_names) in
      let right = lt-ltb u (header_of x).names l in
      let new = put_added (may op_some 0 a u (omega arith) (omega arith) (omega (arith, h.below)) small (rw right) (of_formula h) refl) put in
      new_formula new _ refl (ap (for_some u) (has_kept new.step h).tree)

  -- one proposition
  over_new : {y : List ℕ} {r a : ℕ} {p : Proposition} (op q b : ℕ) (t : Proposition → Formula) → op < 256 → q < 256 → b < 65536
      → fields_right emitted_sorts (header_of x).signals (header_of x).names (node op q a b) ≡ true → a_use op ≡ PropositionNode
      → operand_right emitted_sorts (node_in x) (count x) (b_use op) b ≡ true → sort_of emitted_sorts op ≡ formula
      → ((h : ℕ → Proposition) (f : ℕ → Formula) → formula_of (formula_op op) (node op q a b) h f ≡ t (h a))
      → HasProposition x a p → Put (node op q a b) x y r → Emits x y r 1 (t p)
  over_new {y} {a = a} op q b t o i j right uses k sort made h put =
      let new = put_added (may op q a b o i (omega (arith, h.below)) j right (rw uses (of_proposition h)) k) put in
      new_formula new _ sort (made (proposition_in y) (formula_in y) ∙ ap t (proposition_kept new.step h).tree)

  pub point_new : {y : List ℕ} {r a : ℕ} {p : Proposition} → HasProposition x a p → Put (node op_point 0 a 0) x y r → Emits x y r 1 (point p)
  unfolding ruled
  point_new h put = over_new op_point 0 0 point (omega arith) (omega arith) (omega arith) refl refl refl refl (λ p f. refl) h put

  pub stretch_new : {y : List ℕ} {r a : ℕ} {p : Proposition} → HasProposition x a p → Put (node op_stretch 0 a 0) x y r → Emits x y r 1 (stretch p)
  unfolding ruled
  stretch_new h put = over_new op_stretch 0 0 stretch (omega arith) (omega arith) (omega arith) refl refl refl refl (λ p f. refl) h put

  pub unit_new : {y : List ℕ} {r a : ℕ} {p : Proposition} → HasProposition x a p → Put (node op_unit 0 a 0) x y r → Emits x y r 1 (unit p)
  unfolding ruled
  unit_new h put = over_new op_unit 0 0 unit (omega arith) (omega arith) (omega arith) refl refl refl refl (λ p f. refl) h put

  pub count_new : {y : List ℕ} {r a : ℕ} {p : Proposition} → HasProposition x a p → Put (node op_count q_equal a 1) x y r → Emits x y r 1 (scount equal p 1)
  unfolding ruled comparison_of
  count_new h put =
      over_new op_count q_equal 1 (λ p. scount equal p 1) (omega arith) (omega arith) (omega arith) refl refl refl refl (λ p f. refl) h put

  pub negated_new : {y : List ℕ} {r a : ℕ} {p : Proposition} → HasProposition x a p → Put (node op_negated 0 a 0) x y r → EmitsProposition x y r 1 (negated p)
  unfolding ruled
  negated_new {a = a} h put =
      let new = put_added (may op_negated 0 a 0 (omega arith) (omega arith) (omega (arith, h.below)) (omega arith) refl (of_proposition h) refl) put in
      new_proposition new _ refl (ap negated (proposition_kept new.step h).tree)

  -- no operand
  pub length_new : {y : List ℕ} {r q n : ℕ} → q < 5 → n < 65536 → Put (node op_length q 0 n) x y r → Emits x y r 1 (slen (comparison_of q) n)
  unfolding ruled
  length_new {q = q} {n = n} l h put =
      new_formula (put_added (may op_length q 0 n (omega arith) (omega arith) (omega arith) h (rw (lt-ltb q 5 l)) refl refl) put) _ refl refl

  pub signal_new : {y : List ℕ} {r k : ℕ} → k < (header_of x).signals → Put (node op_signal 0 k 0) x y r → EmitsProposition x y r 1 (signal k)
  unfolding ruled
  signal_new {k = k} l put =
      let small : k < 65536 = omega (arith, good.few_signals) in
      let right = lt-ltb k (header_of x).signals l in
      new_proposition (put_added (may op_signal 0 k 0 (omega arith) (omega arith) small (omega arith) (rw right) refl refl) put) _ refl refl

  pub name_new : {y : List ℕ} {r u : ℕ} → u < (header_of x).names → Put (node op_name 0 u 0) x y r → EmitsProposition x y r 1 (name u)
  unfolding ruled
  name_new {u = u} l put =
      let small : u < 65536 = omega (arith, good.few_names) in
      let right = lt-ltb u (header_of x).names l in
      new_proposition (put_added (may op_name 0 u 0 (omega arith) (omega arith) small (omega arith) (rw right) refl refl) put) _ refl refl
