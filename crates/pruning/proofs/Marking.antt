-- Marking from the root down: a marked node marks its operands, which are earlier ones.
use Rattle.std.proofs.Common.{ℕ, ◌+◌, ◌≤◌, ◌<◌, Bool, true, false, List, ◌⊎◌, inl, inr, ◌≡◌, subst, arith, length, length-set, set, replicate, get_or}
use Rattle.std.proofs.lemmas.Grind.{common_steps}
use Rattle.stored.specs.declared.Node.{Node}
use Rattle.stored.specs.declared.nodes.Use.{Use}
use Rattle.stored.specs.Node.{emitted_sorts, operands_right}
use Rattle.stored.specs.Reached.{is_node, has_operand}
use Rattle.stored.proofs.Ways.{operand_less}
use Rattle.pruning.specs.Pruned.{Live, marked, marked_node, Parent, MarkedFrom}

-- ---- the mark of a field
module _ (marks : List Bool) (what : Use) (v : ℕ) where
  marked_length : length (marked marks what v) ≡ length marks
  unfolding marked
  marked_length = grind (arith, common_steps)

  marked_mono : (k : ℕ) → Live marks k → Live (marked marks what v) k
  unfolding marked
  marked_mono k h = grind (arith, common_steps)

  marked_new : (k : ℕ) → k < length marks → is_node what v k ≡ true → Live (marked marks what v) k
  unfolding marked is_node
  marked_new k l e = grind (arith, common_steps)

  marked_back : (k : ℕ) → Live (marked marks what v) k → (Live marks k) ⊎ (is_node what v k ≡ true)
  unfolding marked is_node
  marked_back k h = grind (arith, common_steps)

-- ---- the marks of a node's operands
module _ (marks : List Bool) (n : Node) where
  node_length : length (marked_node marks n) ≡ length marks
  unfolding marked_node
  node_length = grind (arith, marked_length)

  node_mono : (k : ℕ) → Live marks k → Live (marked_node marks n) k
  unfolding marked_node
  node_mono k h = grind (arith, marked_mono)

  node_new : (k : ℕ) → k < length marks → has_operand n k ≡ true → Live (marked_node marks n) k
  unfolding marked_node has_operand
  node_new k l e = grind (arith, marked_mono, marked_new, marked_length)

  node_back : (k : ℕ) → Live (marked_node marks n) k → (Live marks k) ⊎ (has_operand n k ≡ true)
  unfolding marked_node has_operand
  node_back k h = grind (arith, marked_back)

-- ---- from the root down
pub none_marked : (n k : ℕ) → get_or (replicate n false) k false ≡ false
none_marked n k = grind (arith, common_steps)

pub first_marked : {x : ℕ → Node} {root : ℕ} (marks : List Bool) → root < length marks → ((k : ℕ) → get_or marks k false ≡ false)
    → MarkedFrom x root (root + 1) (set marks root true)
first_marked {root = root} marks inside none =
    record {
      inside = omega (arith, length-set marks root true);
      root_live = grind (arith, common_steps);
      closed = λ p k least most live h. absurd (omega arith);
      parented = λ k live other.
          grind (arith, common_steps, none k);
    }

module _ {x : ℕ → Node} {root i : ℕ} {marks : List Bool} (m : MarkedFrom x root (i + 1) marks) where
  -- a node that is not marked has nothing to mark
  pub pass_down : get_or marks i false ≡ false → MarkedFrom x root i marks
  pass_down dead =
      record {
        inside = m.inside;
        root_live = m.root_live;
        closed = λ p k least most live h. grind (arith, m.closed p k);
        parented = m.parented;
      }

  module _ (right : (k : ℕ) → k ≤ root → operands_right emitted_sorts x k ≡ true) (most : i ≤ root) (live-i : Live marks i) where
    -- a marked node from i on was marked before
    marked_before : (p : ℕ) → i ≤ p → Live (marked_node marks (x i)) p → Live marks p
    marked_before p least live = let less = operand_less emitted_sorts x i p (right i most) in grind (arith, node_back marks (x i) p live)

    turn_closed : (p k : ℕ) → i ≤ p → p ≤ root → Live (marked_node marks (x i)) p → has_operand (x p) k ≡ true → Live (marked_node marks (x i)) k
    turn_closed p k least most live e =
        let less = operand_less emitted_sorts x p k (right p most) e in
        grind (arith, m.inside, m.closed p k, marked_before p least live, node_new marks (x i) k, node_mono marks (x i) k)

    turn_parented : (k : ℕ) → Live (marked_node marks (x i)) k → (k ≡ root → ⊥) → Parent x root (marked_node marks (x i)) k
    turn_parented k live other =
        elim (node_back marks (x i) k live) [
          | inl old ↦ let p = m.parented k old other in
              record { node = p.node; most = p.most; live = node_mono marks (x i) p.node p.live; operand = p.operand }
          | inr new ↦ record { node = i; most = most; live = node_mono marks (x i) i live-i; operand = new }
        ]

    -- a marked one marks its operands
    pub turn_down : MarkedFrom x root i (marked_node marks (x i))
    turn_down =
        record {
          inside = omega (arith, m.inside, node_length marks (x i));
          root_live = node_mono marks (x i) root m.root_live;
          closed = turn_closed;
          parented = turn_parented;
        }

pub marked_from : {x : ℕ → Node} {root i j : ℕ} {marks : List Bool} → i ≡ j → MarkedFrom x root i marks → MarkedFrom x root j marks
marked_from {x} {root} {marks = marks} e m = subst (λ (n : ℕ). MarkedFrom x root n marks) e m
