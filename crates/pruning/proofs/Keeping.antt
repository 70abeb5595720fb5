-- Keeping the marked nodes in their order: each becomes what it was, operands stay operands, and nothing else is written.
use Rattle.std.proofs.Common.{ℕ, zero, suc, ◌+◌, ◌≤◌, ◌<◌, Bool, true, false, List, inl, inr, ◌≡◌, refl, sym, ◌∙◌, ap, subst, arith, eqb-true, eqb, length, set, get_or}
use Rattle.std.proofs.lemmas.Bool.{eqb-false}
use Rattle.std.proofs.lemmas.Grind.{common_steps}
use Rattle.semantics.proofs.Tests.{test}
use Rattle.stored.specs.declared.Node.{Node}
use Rattle.stored.specs.declared.nodes.Use.{Use}
use Rattle.stored.specs.Node.{emitted_sorts, sort_of, is_operand, a_use, b_use, fields_right, operands_right}
use Rattle.stored.specs.Tree.{proposition_at, formula_at}
use Rattle.stored.specs.Reach.{entry_of}
use Rattle.stored.specs.Reached.{is_node, has_operand, Reached, itself, operand}
use Rattle.stored.specs.Sheet.{header_of}
use Rattle.stored.specs.Written.{node_in, NodeFits}
use Rattle.stored.proofs.Tree.{operands, proposition_law, formula_law}
use Rattle.stored.proofs.Ways.{operand_less}
use Rattle.plans.specs.Bound.{most_emitted}
use Rattle.plans.specs.Emission.{count, Good, Step, HasProposition, Has}
use Rattle.plans.specs.Plan.{Put}
use Rattle.plans.proofs.Steps.{steps, wider, has_kept, proposition_kept, Added, put_added}
use Rattle.emission.specs.Copying.{mapped_to, copied_node}
use Rattle.emission.proofs.Copies.{Given, some_sort, may_copy, is_proposition_copied, is_formula_copied}
use Rattle.pruning.specs.Pruned.{Live, MarkedFrom, Same, PrunedTo, Drafted}

-- ---- the copy of a node has the copies of its operands
field_copied : (map : List ℕ) (what : Use) (v k : ℕ) → is_node what v k ≡ true → is_node what (mapped_to map what v) (entry_of map k) ≡ true
unfolding is_node mapped_to
field_copied map what v k e = grind arith

operand_copied : (map : List ℕ) (n : Node) (k : ℕ) → has_operand n k ≡ true → has_operand (copied_node map n) (entry_of map k) ≡ true
unfolding has_operand copied_node
operand_copied map n k e = grind (arith, field_copied)

-- ---- the first i nodes, of which the marked ones are kept
-- node r came of a marked one
pub record Came (marks : List Bool) (map : List ℕ) (i r : ℕ) : Type 0 where
  pub node : ℕ
  pub less : node < i
  pub live : Live marks node
  pub place : entry_of map node ≡ r

pub record Kept (x : ℕ → Node) (marks : List Bool) (i : ℕ) (y map : List ℕ) : Type 0 where
  pub same : (k : ℕ) → k < i → Live marks k → Same x k y (entry_of map k)
  pub placed : (k : ℕ) → k < i → Live marks k → entry_of map k < count y
  pub linked : (j k : ℕ) → j < i → Live marks j → has_operand (x j) k ≡ true → has_operand (node_in y (entry_of map j)) (entry_of map k) ≡ true
  pub came : (r : ℕ) → r < count y → Came marks map i r
  pub last : (k : ℕ) → k + 1 ≡ i → Live marks k → count y ≡ entry_of map k + 1

pub none_kept : {x : ℕ → Node} {marks : List Bool} {y map : List ℕ} → count y ≡ 0 → Kept x marks 0 y map
none_kept e =
    record {
      same = λ k l live. absurd (omega arith);
      placed = λ k l live. absurd (omega arith);
      linked = λ j k l live h. absurd (omega arith);
      came = λ r l. absurd (omega arith);
      last = λ k f live. absurd (omega arith);
    }

-- ---- one turn
module _ (map : List ℕ) (i r : ℕ) where
  entry_old : (k : ℕ) → k < i → entry_of (set map i r) k ≡ entry_of map k
  unfolding entry_of
  entry_old k l = grind (arith, common_steps)

  entry_new : i < length map → entry_of (set map i r) i ≡ r
  unfolding entry_of
  entry_new l = grind (arith, common_steps)

same_kept : {x : ℕ → Node} {i k r : ℕ} {y z : List ℕ} → Step y z k → Same x i y r → Same x i z r
same_kept s h = record { proposition = λ e. proposition_kept s (h.proposition e); formula = λ e. has_kept s (h.formula e) }

-- node i is passed over, or kept as node r of bytes that y became
module _ {x : ℕ → Node} {marks : List Bool} {y map : List ℕ} {i : ℕ} (right : (k : ℕ) → k ≤ i → operands_right emitted_sorts x k ≡ true) (h : Kept x marks i y map) where
  pass_over : get_or marks i false ≡ false → Kept x marks (i + 1) y map
  pass_over dead =
      record {
        same = λ k l live. h.same k (earlier k l live) live;
        placed = λ k l live. h.placed k (earlier k l live) live;
        linked = λ j k l live e. h.linked j k (earlier j l live) live e;
        came = λ q l.
            let o = h.came q l in
            let less = o.less in
            record { node = o.node; less = omega arith; live = o.live; place = o.place };
        last = λ k e live. let less = earlier k (omega arith) live in absurd (omega arith);
      }
    where
      earlier : (k : ℕ) → k < i + 1 → Live marks k → k < i
      earlier k l live = grind arith

  module _ {z : List ℕ} {r : ℕ} (fits : i < length map) (live-i : Live marks i) (new : Added y z r (copied_node map (x i))) (is : Same x i z r) where
    entry_i : entry_of (set map i r) i ≡ r
    entry_i = entry_new map i r fits

    keep_same : (k : ℕ) → k < i + 1 → Live marks k → Same x k z (entry_of (set map i r) k)
    keep_same k l live =
        elim (test (eqb k i)) [
          | inl e ↦ rw (eqb-true k i e, entry_i) is
          | inr e ↦ let less : k < i = grind arith in rw (entry_old map i r k less) (same_kept new.step (h.same k less live))
        ]

    keep_placed : (k : ℕ) → k < i + 1 → Live marks k → entry_of (set map i r) k < count z
    keep_placed k l live = grind (arith, entry_i, entry_old map i r k, h.placed k, new.exact, new.place)

    keep_linked : (j k : ℕ) → j < i + 1 → Live marks j → has_operand (x j) k ≡ true → has_operand (node_in z (entry_of (set map i r) j)) (entry_of (set map i r) k) ≡ true
    keep_linked j k l live e =
        let below = operand_less emitted_sorts x j k (right j (omega arith)) e in
        grind (arith, entry_i, entry_old map i r, new.node, new.step.same, operand_copied map (x i) k, h.placed j, h.linked j k)

    keep_came : (q : ℕ) → q < count z → Came marks (set map i r) (i + 1) q
    keep_came q l =
        elim (test (eqb q r)) [
          | inl e ↦ record { node = i; less = omega arith; live = live-i; place = entry_i ∙ sym (eqb-true q r e) }
          | inr e ↦ let other = eqb-false q r e in
              let o = h.came q (omega (arith, new.exact, new.place)) in
              let less = o.less in
              record { node = o.node; less = omega arith; live = o.live; place = entry_old map i r o.node less ∙ o.place }
        ]

    keep_on : Kept x marks (i + 1) z (set map i r)
    keep_on =
        record {
          same = keep_same;
          placed = keep_placed;
          linked = keep_linked;
          came = keep_came;
          last = λ k e live. grind (arith, entry_i, new.exact, new.place);
        }

-- ---- a marked node's operands are marked, so that the map gives them
module _ {x : ℕ → Node} {marks : List Bool} {y map : List ℕ} {root i : ℕ} (right : operands_right emitted_sorts x i ≡ true) (m : MarkedFrom x root 0 marks)
    (most : i ≤ root) (live : Live marks i) (h : Kept x marks i y map) where
  live_a : is_operand (a_use (x i).op) ≡ true → Live marks (x i).a
  unfolding has_operand is_node
  live_a e = grind (arith, m.closed i (x i).a)

  live_b : is_operand (b_use (x i).op) ≡ true → Live marks (x i).b
  unfolding has_operand is_node
  live_b e = grind (arith, m.closed i (x i).b)

  given_a : Given y map (proposition_at x) (formula_at x) (a_use (x i).op) (x i).a
  unfolding is_operand
  given_a =
      let o = operands emitted_sorts x i right in
      record {
        proposition = λ e. (h.same (x i).a (o.a_proposition e).less (live_a (rw e))).proposition (o.a_proposition e).sorted;
        formula = λ e. (h.same (x i).a (o.a_formula e).less (live_a (rw e))).formula (o.a_formula e).sorted;
      }

  given_b : Given y map (proposition_at x) (formula_at x) (b_use (x i).op) (x i).b
  unfolding is_operand
  given_b =
      let o = operands emitted_sorts x i right in
      record {
        proposition = λ e. (h.same (x i).b (o.b_proposition e).less (live_b (rw e))).proposition (o.b_proposition e).sorted;
        formula = λ e. (h.same (x i).b (o.b_formula e).less (live_b (rw e))).formula (o.b_formula e).sorted;
      }

  -- its copy comes next, and is what it is
  copy_added : {z : List ℕ} {r : ℕ} → Good y → count y < most_emitted → NodeFits (x i)
      → fields_right emitted_sorts (header_of y).signals (header_of y).names (x i) ≡ true → Put (copied_node map (x i)) y z r → Added y z r (copied_node map (x i))
  unfolding sort_of
  copy_added good room fits fields put =
      put_added
      (may_copy emitted_sorts (x i) good room fits refl (λ e. some_sort emitted_sorts _ _ (x i) fields (ap (sort_of emitted_sorts) e)) fields given_a given_b)
      put

  copy_same : {z : List ℕ} {r : ℕ} → Added y z r (copied_node map (x i)) → Same x i z r
  copy_same {z} {r} new =
      record {
        proposition = λ e. subst (HasProposition z r) (sym (proposition_law emitted_sorts x i right)) (is_proposition_copied (x i) given_a given_b new e);
        formula = λ e. subst (Has z r) (sym (formula_law emitted_sorts x i right)) (is_formula_copied (x i) given_a given_b new e);
      }

-- ---- the loop
module _ {d x₀ : List ℕ} {marks : List Bool} {root : ℕ} (drafted : Drafted d root x₀) (m : MarkedFrom (node_in d) root 0 marks) where
  draft_right : (k : ℕ) → k ≤ root → operands_right emitted_sorts (node_in d) k ≡ true
  draft_right k l = drafted.good.operands_right_holds k (omega (arith, drafted.last))

  -- a marked node is kept, and another passed over
  pub turn_kept : {y z map : List ℕ} {i r : ℕ} → i ≤ root → length map ≡ most_emitted → Step x₀ y i → Kept (node_in d) marks i y map → Live marks i
      → NodeFits (node_in d i) → Put (copied_node map (node_in d i)) y z r → (Step x₀ z (i + 1)) × (Kept (node_in d) marks (i + 1) z (set map i r))
  turn_kept {y} {i = i} most long s h live fits put =
      let last = drafted.last in
      let few = drafted.good.few_nodes in
      let fields : fields_right emitted_sorts (header_of y).signals (header_of y).names (node_in d i) ≡ true
      = rw (s.signals, s.names, drafted.signals, drafted.names) (drafted.good.nodes_right_holds i (omega arith))
      in
      let new = copy_added (draft_right i most) m most live h s.good (omega (arith, s.few, drafted.none)) fits fields put in
      (steps s new.step, keep_on (λ k l. draft_right k (omega arith)) h (omega arith) live new (copy_same (draft_right i most) m most live h new))

  pub turn_passed : {y map : List ℕ} {i : ℕ} → i ≤ root → Step x₀ y i → Kept (node_in d) marks i y map → get_or marks i false ≡ false
      → (Step x₀ y (i + 1)) × (Kept (node_in d) marks (i + 1) y map)
  turn_passed {i = i} most s h dead = (wider (i + 1) (omega arith) s, pass_over (λ k l. draft_right k (omega arith)) h dead)

  -- every marked node is reached: it is the root, or an operand of a marked node after it
  live_reached : {y map : List ℕ} (z : ℕ → Node) → ((i : ℕ) → i < count y → z i ≡ node_in y i) → Kept (node_in d) marks (root + 1) y map
      → (more k : ℕ) → root ≤ k + more → k ≤ root → Live marks k → Reached z (entry_of map root) (entry_of map k)
  live_reached {map = map} z agree h zero k least most live =
      let is : root ≡ k = omega arith in
      subst (λ (o : ℕ). Reached z (entry_of map root) (entry_of map o)) is itself
  live_reached {map = map} z agree h (suc more) k least most live =
      elim (test (eqb k root)) [
        | inl e ↦ subst (λ (o : ℕ). Reached z (entry_of map root) (entry_of map o)) (sym (eqb-true k root e)) itself
        | inr e ↦ let p = m.parented k live (eqb-false k root e) in
            let up = p.most in
            let below = operand_less emitted_sorts (node_in d) p.node k (draft_right p.node up) p.operand in
            let link : has_operand (z (entry_of map p.node)) (entry_of map k) ≡ true
            = rw (agree (entry_of map p.node) (h.placed p.node (omega arith) p.live)) (h.linked p.node k (omega arith) p.live p.operand)
            in
            operand (live_reached z agree h more p.node (omega arith) up p.live) link
      ]

  pub pruned_to : {y map : List ℕ} {i r : ℕ} → i ≡ root + 1 → r ≡ entry_of map root → Step x₀ y i → Kept (node_in d) marks i y map → PrunedTo d root x₀ y r
  pruned_to {y} {map} {i} {r} e f s h =
      let all : Kept (node_in d) marks (root + 1) y map = subst (λ (n : ℕ). Kept (node_in d) marks n y map) e h in
      record {
        step = wider (root + 1) (omega arith) s;
        last = rw f (all.last root refl m.root_live);
        same = subst (Same (node_in d) root y) (sym f) (all.same root (omega arith) m.root_live);
        reached = λ z agree j l.
            let o = all.came j l in
            let less = o.less in
            rw f (subst (Reached z (entry_of map root)) o.place (live_reached z agree all root o.node (omega arith) (omega arith) o.live));
      }
