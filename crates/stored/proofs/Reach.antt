-- The reach mask of a node of a kind 1 sheet is the set of the names of its tree.
use Rattle.std.proofs.Common.{ℕ, zero, suc, ◌/◌, ◌%◌, ◌^◌, ◌≤◌, ◌<◌, Bool, true, false, not, ◌&&◌, ◌||◌, List, [], ◌∷◌, ◌≡◌, refl, sym, ◌∙◌, ap, ap₂, subst, arith, ltb-true, ltb-false, eqb, ltb, get_or}
use mathlib.Core.Bool.{beq}
use mathlib.Core.Path.{fun_ext}
use native.Mathlib.Nat.{pow-le-pow_right, div-eq_of_lt}
use lib.Bits.{or_zero_l, or_zero_r, or_lt}
use lib.ListN.{get_or-eq_default}
use Rattle.semantics.specs.Proposition.{Proposition, bit}
use Rattle.semantics.specs.Formula.{Formula}
use Rattle.semantics.specs.Placement.{Names, listed}
use Rattle.semantics.specs.Reach.{proposition_within, within}
use Rattle.stored.specs.declared.Node.{Node}
use Rattle.std.specs.Option.{is_some}
use Rattle.stored.specs.declared.nodes.Use.{Use}
use Rattle.stored.specs.declared.nodes.Use.TheVariants.{Nothing, Signal, Name, Comparison, Symbol, TwoNames, Number, PropositionNode, FormulaNode}
use Rattle.stored.specs.Bytes.{every_below}
use Rattle.stored.specs.Node.{proposition, formula, requirement_sorts, sort_of, q_use, a_use, b_use, is_operand, field_right, fields_right, operands_right}
use Rattle.stored.specs.Tree.{earlier, proposition_op, formula_op, proposition_of, proposition_at, formula_of, formula_at}
use Rattle.stored.specs.Reach.{joint, name_mask, field_reach, node_reach, reach_step, reach_at, covers, reach_table, entry_of}
use Rattle.semantics.proofs.Tests.{and_left, and_right}
use Rattle.stored.proofs.Rules.{every_at, every_number, get_or_in_order}
use Rattle.stored.proofs.Made.{earlier_at, made_step}
use Rattle.stored.proofs.Tree.{operands, proposition_cases, formula_cases, proposition_law, formula_law, is_proposition, is_formula}

-- tests of Bools and of masks below 8
unfoldable pub each_bool : (Bool → Bool) → Bool
each_bool p = p true && p false

pub each_at : (p : Bool → Bool) → each_bool p ≡ true → (b : Bool) → p b ≡ true
unfolding each_bool
each_at p h true = and_left (p true) (p false) h
each_at p h false = and_right (p true) (p false) h

beq_true : (a b : Bool) → beq a b ≡ true → a ≡ b
beq_true true true h = refl
beq_true true false h = sym h
beq_true false true h = h
beq_true false false h = refl

-- where a, b and c say whether a set has the names 0, 1 and 2: it has all of the mask's
covers₃ : ℕ → Bool → Bool → Bool → Bool
covers₃ r a b c = (not (bit r 0) || a) && ((not (bit r 1) || b) && (not (bit r 2) || c))

joint_test : ℕ → ℕ → Bool → Bool → Bool → Bool
joint_test r t a b c = beq (covers₃ (joint r t) a b c) (covers₃ r a b c && covers₃ t a b c)

joint_test_lem : every_below 8 (λ r. every_below 8 (λ t. each_bool (λ a. each_bool (λ b. each_bool (λ c. joint_test r t a b c))))) ≡ true
unfolding every_below each_bool joint_test covers₃ joint bit
joint_test_lem = refl

pub covers_joint : (r t : ℕ) (names : Names) → r < 8 → t < 8 → covers (joint r t) names ≡ (covers r names && covers t names)
unfolding covers covers₃ joint_test
covers_joint r t names p q =
    beq_true (covers (joint r t) names) (covers r names && covers t names)
    (each_at (λ c. joint_test r t (names 0) (names 1) c)
    (each_at (λ b. each_bool (λ c. joint_test r t (names 0) b c))
    (each_at (λ a. each_bool (λ b. each_bool (λ c. joint_test r t a b c)))
    (every_at 8 (λ t. each_bool (λ a. each_bool (λ b. each_bool (λ c. joint_test r t a b c))))
    (every_at 8 (λ r. every_below 8 (λ t. each_bool (λ a. each_bool (λ b. each_bool (λ c. joint_test r t a b c))))) joint_test_lem r p)
    t
    q)
    (names 0))
    (names 1))
    (names 2))

and_all : (a : Bool) → (a && true) ≡ a
and_all true = refl
and_all false = refl

pub covers_name : (u : ℕ) (names : Names) → u < 3 → covers (name_mask u) names ≡ names u
unfolding covers covers₃ bit name_mask
covers_name zero names h = and_all (names 0)
covers_name (suc zero) names h = and_all (names 1)
covers_name (suc (suc zero)) names h = refl
covers_name (suc (suc (suc u))) names h = absurd (omega arith)

pub joint_zero_l : (t : ℕ) → joint 0 t ≡ t
unfolding joint
joint_zero_l t = or_zero_l t

pub joint_zero_r : (r : ℕ) → joint r 0 ≡ r
unfolding joint
joint_zero_r r = or_zero_r r

pub joint_small : (r t : ℕ) → r < 8 → t < 8 → joint r t < 8
unfolding joint
joint_small r t p q = or_lt 3 r t p q

-- masks are below 8
pub name_small : (u : ℕ) → name_mask u < 8
unfolding name_mask every_below
name_small u =
    ltb-true (name_mask u) 8
    (every_number 3 (λ k. ltb (name_mask k) 8) refl
    (λ k h. ap (λ (z : ℕ). ltb z 8) (get_or-eq_default (1 ∷ 2 ∷ 4 ∷ []) 0 h)) u)

pub field_small : (r : ℕ → ℕ) (what : Use) (v : ℕ) → r v < 8 → field_reach r what v < 8
unfolding field_reach
field_small r Nothing v h = omega arith
field_small r Signal v h = omega arith
field_small r Name v h = name_small v
field_small r Comparison v h = omega arith
field_small r Symbol v h = omega arith
field_small r TwoNames v h = joint_small (name_mask (v / 16)) (name_mask (v % 16)) (name_small (v / 16)) (name_small (v % 16))
field_small r Number v h = omega arith
field_small r PropositionNode v h = h
field_small r FormulaNode v h = h

pub node_small : (r : ℕ → ℕ) (n : Node) → ((v : ℕ) → r v < 8) → node_reach r n < 8
unfolding node_reach
node_small r n h =
    joint_small (field_reach r (q_use n.op) n.q) _ (field_small r (q_use n.op) n.q (h n.q))
    (joint_small (field_reach r (a_use n.op) n.a) (field_reach r (b_use n.op) n.b)
    (field_small r (a_use n.op) n.a (h n.a))
    (field_small r (b_use n.op) n.b (h n.b)))

earlier_small : (i : ℕ) (t : ℕ → ℕ) (k : ℕ) → (k < i → t k < 8) → earlier i 0 t k < 8
unfolding earlier Rattle.stored.specs.Tree.pick
earlier_small i t k h = go (ltb k i) (λ e. h (ltb-true k i e))
  where
    go : (b : Bool) → (b ≡ true → t k < 8) → Rattle.stored.specs.Tree.pick b (t k) 0 < 8
    go true f = f refl
    go false f = omega arith

pub reach_step_lem : (x : ℕ → Node) (i : ℕ) → reach_at x i ≡ node_reach (earlier i 0 (reach_at x)) (x i)
unfolding reach_at reach_step
reach_step_lem x i = made_step 0 (reach_step x) i

small_below : (x : ℕ → Node) (n i : ℕ) → i < n → reach_at x i < 8
small_below x zero i h = absurd (omega arith)
small_below x (suc n) i h =
    subst (λ (z : ℕ). z < 8) (sym (reach_step_lem x i))
    (node_small (earlier i 0 (reach_at x)) (x i) (λ k. earlier_small i (reach_at x) k (λ l. small_below x n k (omega arith))))

pub reach_small : (x : ℕ → Node) (i : ℕ) → reach_at x i < 8
reach_small x i = small_below x (suc i) i (omega arith)

-- a name's field is below m
name_field : (s m v : ℕ) → field_right s m Name v ≡ true → v < m
unfolding field_right
name_field s m v h = ltb-true v m h

record BothNames (m v : ℕ) : Type 0 where
  pub first : v / 16 < m
  pub second : v % 16 < m

names_field : (s m v : ℕ) → field_right s m TwoNames v ≡ true → BothNames m v
unfolding field_right
names_field s m v h =
    record {
      first = ltb-true (v / 16) m (and_left (ltb (v / 16) m) (ltb (v % 16) m) h);
      second = ltb-true (v % 16) m (and_right (ltb (v / 16) m) (ltb (v % 16) m) h);
    }

-- one node: what holds of its operands holds of it
module _ (names : Names) (s m : ℕ) (three : m ≤ 3) (n : Node) (r : ℕ → ℕ) (small : (v : ℕ) → r v < 8) where
  reached : ℕ → ℕ
  reached k = joint (field_reach r (q_use k) n.q) (joint (field_reach r (a_use k) n.a) (field_reach r (b_use k) n.b))

  Proposed : (ℕ → Proposition) → ℕ → Type 0
  Proposed p k =
      sort_of requirement_sorts k ≡ proposition
      → field_right s m (a_use k) n.a ≡ true
      → (a_use k ≡ PropositionNode → proposition_within names (p n.a) ≡ covers (r n.a) names)
      → (b_use k ≡ PropositionNode → proposition_within names (p n.b) ≡ covers (r n.b) names)
      → proposition_within names (proposition_of (proposition_op k) n p) ≡ covers (reached k) names

  two : (v w : ℕ) (a b : Bool) → a ≡ covers (r v) names → b ≡ covers (r w) names → (a && b) ≡ covers (joint 0 (joint (r v) (r w))) names
  two v w a b e f =
      rw (joint_zero_l (joint (r v) (r w)), covers_joint (r v) (r w) names (small v) (small w)) (ap₂ (λ (y z : Bool). y && z) e f)

  one : (v : ℕ) (a : Bool) → a ≡ covers (r v) names → a ≡ covers (joint 0 (joint (r v) 0)) names
  one v a e = rw (joint_zero_l (joint (r v) 0), joint_zero_r (r v)) e

  none : true ≡ covers (joint 0 (joint 0 0)) names
  unfolding joint covers covers₃ bit
  none = refl

  named : (u : ℕ) → u < m → names u ≡ covers (joint 0 (joint (name_mask u) 0)) names
  named u h =
      rw (joint_zero_l (joint (name_mask u) 0), joint_zero_r (name_mask u)) (sym (covers_name u names (omega arith)))

  proposed : (p : ℕ → Proposition) (k : ℕ) → Proposed p k
  unfolding Proposed reached sort_of q_use a_use b_use is_operand field_reach proposition_within proposition_of proposition_op
  proposed p k =
      proposition_cases (Proposed p)
      (λ o f g h. none)
      (λ o f g h. none)
      (λ o f g h. none)
      (λ o f g h. named n.a (name_field s m n.a f))
      (λ o f g h. one n.a _ (g refl))
      (λ o f g h. two n.a n.b _ _ (g refl) (h refl))
      (λ o f g h. two n.a n.b _ _ (g refl) (h refl))
      k
      (λ other o f g h. absurd (is_proposition k o other))

  Formed : (ℕ → Proposition) → (ℕ → Formula) → ℕ → Type 0
  Formed p t k =
      sort_of requirement_sorts k ≡ formula
      → field_right s m (q_use k) n.q ≡ true
      → field_right s m (a_use k) n.a ≡ true
      → (a_use k ≡ PropositionNode → proposition_within names (p n.a) ≡ covers (r n.a) names)
      → (a_use k ≡ FormulaNode → within names (t n.a) ≡ covers (r n.a) names)
      → (b_use k ≡ FormulaNode → within names (t n.b) ≡ covers (r n.b) names)
      → within names (formula_of (formula_op k) n p t) ≡ covers (reached k) names

  gapped : BothNames m n.q → (names (n.q / 16) && names (n.q % 16)) ≡ covers (joint (joint (name_mask (n.q / 16)) (name_mask (n.q % 16))) (joint 0 0)) names
  gapped h =
      let u = n.q / 16 in
      let v = n.q % 16 in
      let low : u < 3 = omega (arith, h.first) in
      let high : v < 3 = omega (arith, h.second) in
      rw (joint_zero_l 0, joint_zero_r (joint (name_mask u) (name_mask v)), covers_joint (name_mask u) (name_mask v) names (name_small u) (name_small v))
      (ap₂ (λ (y z : Bool). y && z) (sym (covers_name u names low)) (sym (covers_name v names high)))

  formed : (p : ℕ → Proposition) (t : ℕ → Formula) (k : ℕ) → Formed p t k
  unfolding Formed reached sort_of q_use a_use b_use is_operand field_reach within formula_of formula_op
  formed p t k =
      formula_cases (Formed p t)
      (λ o e f g h i. one n.a _ (g refl))
      (λ o e f g h i. one n.a _ (g refl))
      (λ o e f g h i. one n.a _ (g refl))
      (λ o e f g h i. one n.a _ (g refl))
      (λ o e f g h i. two n.a n.b _ _ (h refl) (i refl))
      (λ o e f g h i. two n.a n.b _ _ (h refl) (i refl))
      (λ o e f g h i. two n.a n.b _ _ (h refl) (i refl))
      (λ o e f g h i. one n.a _ (h refl))
      (λ o e f g h i. none)
      (λ o e f g h i. one n.a _ (g refl))
      (λ o e f g h i. one n.a _ (g refl))
      (λ o e f g h i. none)
      (λ o e f g h i. named n.a (name_field s m n.a f))
      (λ o e f g h i. gapped (names_field s m n.q e))
      (λ o e f g h i. cc)
      (λ o e f g h i. cc)
      k
      (λ other o e f g h i. absurd (is_formula k o other))

-- rules 6 and 7 kept at every node
pub record NodesKept (s m n : ℕ) (x : ℕ → Node) : Type 0 where
  pub three : m ≤ 3
  pub fields : (i : ℕ) → i < n → fields_right requirement_sorts s m (x i) ≡ true
  pub operands_kept : (i : ℕ) → i < n → operands_right requirement_sorts x i ≡ true

pub record Reached (names : Names) (x : ℕ → Node) (i : ℕ) : Type 0 where
  pub of_proposition : sort_of requirement_sorts (x i).op ≡ proposition → proposition_within names (proposition_at x i) ≡ covers (reach_at x i) names
  pub of_formula : sort_of requirement_sorts (x i).op ≡ formula → within names (formula_at x i) ≡ covers (reach_at x i) names

module _ (s m n : ℕ) (x : ℕ → Node) (kept : NodesKept s m n x) (names : Names) where
  record Fields (i : ℕ) : Type 0 where
    pub q_right : field_right s m (q_use (x i).op) (x i).q ≡ true
    pub a_right : field_right s m (a_use (x i).op) (x i).a ≡ true

  fields_at : (i : ℕ) → i < n → Fields i
  unfolding fields_right
  fields_at i h =
      let after = and_right (is_some (sort_of requirement_sorts (x i).op)) _ (kept.fields i h) in
      let last = and_right (field_right s m (q_use (x i).op) (x i).q) _ after in
      record {
        q_right = and_left (field_right s m (q_use (x i).op) (x i).q) _ after;
        a_right = and_left (field_right s m (a_use (x i).op) (x i).a) _ last;
      }

  reached_step : (i : ℕ) → i < n → ((k : ℕ) → k < i → Reached names x k) → Reached names x i
  unfolding Proposed Formed reached node_reach
  reached_step i h before =
      let r = earlier i 0 (reach_at x) in
      let small : (v : ℕ) → r v < 8 = λ v. earlier_small i (reach_at x) v (λ l. reach_small x v) in
      let at = operands requirement_sorts x i (kept.operands_kept i h) in
      let right = fields_at i h in
      record {
        of_proposition =
            λ sort.
            ap (proposition_within names) (proposition_law requirement_sorts x i (kept.operands_kept i h))
            ∙ proposed names s m kept.three (x i) r small (proposition_at x) (x i).op sort right.a_right
            (λ e. (before (x i).a (at.a_proposition e).less).of_proposition (at.a_proposition e).sorted ∙ ap (λ (z : ℕ). covers z names) (sym (earlier_at i 0 (reach_at x) (x i).a (at.a_proposition e).less)))
            (λ e. (before (x i).b (at.b_proposition e).less).of_proposition (at.b_proposition e).sorted ∙ ap (λ (z : ℕ). covers z names) (sym (earlier_at i 0 (reach_at x) (x i).b (at.b_proposition e).less)))
            ∙ ap (λ (z : ℕ). covers z names) (sym (reach_step_lem x i));
        of_formula =
            λ sort.
            ap (within names) (formula_law requirement_sorts x i (kept.operands_kept i h))
            ∙ formed names s m kept.three (x i) r small (proposition_at x) (formula_at x) (x i).op sort right.q_right right.a_right
            (λ e. (before (x i).a (at.a_proposition e).less).of_proposition (at.a_proposition e).sorted ∙ ap (λ (z : ℕ). covers z names) (sym (earlier_at i 0 (reach_at x) (x i).a (at.a_proposition e).less)))
            (λ e. (before (x i).a (at.a_formula e).less).of_formula (at.a_formula e).sorted ∙ ap (λ (z : ℕ). covers z names) (sym (earlier_at i 0 (reach_at x) (x i).a (at.a_formula e).less)))
            (λ e. (before (x i).b (at.b_formula e).less).of_formula (at.b_formula e).sorted ∙ ap (λ (z : ℕ). covers z names) (sym (earlier_at i 0 (reach_at x) (x i).b (at.b_formula e).less)))
            ∙ ap (λ (z : ℕ). covers z names) (sym (reach_step_lem x i));
      }

  reached_below : (bound i : ℕ) → i < bound → i < n → Reached names x i
  reached_below zero i l h = absurd (omega arith)
  reached_below (suc bound) i l h = reached_step i h (λ k e. reached_below bound k (omega arith) (omega arith))

  -- every set has the names of the tree at a node exactly if it has those of the node's reach mask
  pub reach_law : (i : ℕ) → i < n → Reached names x i
  reach_law i h = reached_below (suc i) i (omega arith) h

mask_test : ℕ → ℕ → Bool
mask_test r mask = beq (covers r (bit mask)) (eqb (joint r mask) mask)

mask_test_lem : every_below 8 (λ r. every_below 8 (mask_test r)) ≡ true
unfolding every_below mask_test covers joint bit
mask_test_lem = refl

-- for a mask: exactly if it has all bits of the reach mask
pub covers_mask : (r mask : ℕ) → r < 8 → mask < 8 → covers r (bit mask) ≡ eqb (joint r mask) mask
unfolding mask_test
covers_mask r mask p q =
    beq_true (covers r (bit mask)) (eqb (joint r mask) mask)
    (every_at 8 (mask_test r) (every_at 8 (λ r. every_below 8 (mask_test r)) mask_test_lem r p) mask q)

bit_above : (mask u : ℕ) → mask < 8 → 3 ≤ u → bit mask u ≡ false
unfolding bit
bit_above mask u h l =
    let big : 8 ≤ 2 ^ u = pow-le-pow_right {n = 2} (omega arith) l in
    let least : mask < 2 ^ u = omega arith in
    rw (div-eq_of_lt least)

-- a mask below 8 has the names 0, 1 and 2 alone
pub bit_listed : (mask : ℕ) → mask < 8 → listed (bit mask) ≡ bit mask
unfolding listed
bit_listed mask h = fun_ext (λ u. go u (ltb u 3) refl)
  where
    go : (u : ℕ) (b : Bool) → ltb u 3 ≡ b → (b && bit mask u) ≡ bit mask u
    go u true e = refl
    go u false e = sym (bit_above mask u h (ltb-false u 3 e))

-- the mask of the next node, from the table of those before it
pub table_next : (x : ℕ → Node) (table : List ℕ) (i v : ℕ) → ((k : ℕ) → get_or table k 0 ≡ earlier i 0 (reach_at x) k)
    → v ≡ node_reach (entry_of table) (x i) → v ≡ reach_at x i
unfolding entry_of
table_next x table i v before e = e ∙ ap (λ (r : ℕ → ℕ). node_reach r (x i)) (fun_ext before) ∙ sym (reach_step_lem x i)

pub table_at : (x : ℕ → Node) (n i : ℕ) → n ≤ 64 → i < n → entry_of (reach_table x n) i ≡ reach_at x i
unfolding reach_table entry_of
table_at x n i few h =
    get_or_in_order 64 (earlier n 0 (reach_at x)) i 0 (omega arith) ∙ earlier_at n 0 (reach_at x) i h
