-- The order of the refusals, and rule 9 by reach masks.
use Rattle.std.proofs.Common.{ℕ, ◌^◌, ◌≤◌, Bool, true, false, ◌&&◌, List, ◌≡◌, refl, sym, ◌∙◌, ap, ap₂, ltb-true, leb-true, leb, ltb, eqb, length, Ok, Err}
use Rattle.semantics.specs.Proposition.{bit}
use Rattle.semantics.specs.Reach.{within}
use Rattle.stored.specs.declared.Node.{Node}
use Rattle.stored.specs.declared.StoredClause.{StoredClause}
use Rattle.stored.specs.declared.refusal.Refusal.TheVariants.{SheetNotFramed, UnknownSheetVersion, NotARequirement, CountOutOfRange, WrongSheetLength, InvalidNode, InvalidOperand, InvalidClause, UnlistedName}
use Rattle.stored.specs.Bytes.{framed_from, every_below, lowest}
use Rattle.stored.specs.Node.{formula, requirement_sorts, is_formula_node, node_right}
use Rattle.stored.specs.Tree.{pick, formula_at}
use Rattle.stored.specs.Refusal.{refusals, refusal_numbered, answered}
use Rattle.stored.specs.Reach.{joint, reach_at, reach_table, entry_of}
use Rattle.stored.specs.Clause.{last_role, parts_used, part_right, clause_right, clause_right_at, part_named, clause_named, clause_named_at, part_covered, clause_covered, clause_covered_at}
use Rattle.stored.specs.Sheet.{header_of, nodes_of, stored_of, framed, versioned, of_kind_one, counted, sized, nodes_right, operands_found, clauses_right, clauses_named, sheet_rules, sheet_refusal, sheet_answer}
use Rattle.semantics.proofs.Tests.{and_left, and_right}
use Rattle.stored.proofs.Rules.{every_at, every_same}
use Rattle.stored.proofs.Sorts.{same_sort-true}
use Rattle.stored.proofs.Tree.{Earlier, sort_below_lem}
use Rattle.stored.proofs.Reach.{NodesKept, reach_law, reach_small, covers_mask, table_at}
use Rattle.stored.proofs.Accepted.{counts, mask_small}

-- rules 1 to 3
pub record Framed (s : List ℕ) : Type 0 where
  pub rule1 : framed s ≡ true
  pub rule2 : versioned s ≡ true
  pub rule3 : of_kind_one s ≡ true

-- rules 1 to 5
pub record Sized (s : List ℕ) : Type 0 where
  pub frame : Framed s
  pub rule4 : counted (header_of s) ≡ true
  pub rule5 : sized s ≡ true

pub framed_from_lem : (least : ℕ) (s : List ℕ) → framed_from least s ≡ true → least ≤ length s
unfolding framed_from
framed_from_lem least s e = leb-true least (length s) (and_left (leb least (length s)) _ e)

module _ (s : List ℕ) where
  pub refused1 : framed s ≡ false → Err SheetNotFramed ≡ sheet_answer s
  unfolding sheet_answer answered refusal_numbered refusals sheet_refusal sheet_rules lowest pick
  refused1 e = rw e

  pub refused2 : framed s ≡ true → versioned s ≡ false → Err UnknownSheetVersion ≡ sheet_answer s
  unfolding sheet_answer answered refusal_numbered refusals sheet_refusal sheet_rules lowest pick
  refused2 r₁ e = rw (r₁, e)

  pub refused3 : framed s ≡ true → versioned s ≡ true → of_kind_one s ≡ false → Err NotARequirement ≡ sheet_answer s
  unfolding sheet_answer answered refusal_numbered refusals sheet_refusal sheet_rules lowest pick
  refused3 r₁ r₂ e = rw (r₁, r₂, e)

  pub refused4 : Framed s → counted (header_of s) ≡ false → Err CountOutOfRange ≡ sheet_answer s
  unfolding sheet_answer answered refusal_numbered refusals sheet_refusal sheet_rules lowest pick
  refused4 f e = rw (f.rule1, f.rule2, f.rule3, e)

  pub refused5 : Framed s → counted (header_of s) ≡ true → sized s ≡ false → Err WrongSheetLength ≡ sheet_answer s
  unfolding sheet_answer answered refusal_numbered refusals sheet_refusal sheet_rules lowest pick
  refused5 f r₄ e = rw (f.rule1, f.rule2, f.rule3, r₄, e)

  pub refused6 : Sized s → nodes_right s ≡ false → Err InvalidNode ≡ sheet_answer s
  unfolding sheet_answer answered refusal_numbered refusals sheet_refusal sheet_rules lowest pick
  refused6 f e = rw (f.frame.rule1, f.frame.rule2, f.frame.rule3, f.rule4, f.rule5, e)

  pub refused7 : Sized s → nodes_right s ≡ true → operands_found s ≡ false → Err InvalidOperand ≡ sheet_answer s
  unfolding sheet_answer answered refusal_numbered refusals sheet_refusal sheet_rules lowest pick
  refused7 f r₆ e = rw (f.frame.rule1, f.frame.rule2, f.frame.rule3, f.rule4, f.rule5, r₆, e)

  pub refused8 : Sized s → nodes_right s ≡ true → operands_found s ≡ true → clauses_right s ≡ false → Err InvalidClause ≡ sheet_answer s
  unfolding sheet_answer answered refusal_numbered refusals sheet_refusal sheet_rules lowest pick
  refused8 f r₆ r₇ e = rw (f.frame.rule1, f.frame.rule2, f.frame.rule3, f.rule4, f.rule5, r₆, r₇, e)

  pub refused9 : Sized s → nodes_right s ≡ true → operands_found s ≡ true → clauses_right s ≡ true → clauses_named s ≡ false → Err UnlistedName ≡ sheet_answer s
  unfolding sheet_answer answered refusal_numbered refusals sheet_refusal sheet_rules lowest pick
  refused9 f r₆ r₇ r₈ e = rw (f.frame.rule1, f.frame.rule2, f.frame.rule3, f.rule4, f.rule5, r₆, r₇, r₈, e)

  pub accepted : Sized s → nodes_right s ≡ true → operands_found s ≡ true → clauses_right s ≡ true → clauses_named s ≡ true → Ok (header_of s) ≡ sheet_answer s
  unfolding sheet_answer answered refusal_numbered refusals sheet_refusal sheet_rules lowest pick
  accepted f r₆ r₇ r₈ e = rw (f.frame.rule1, f.frame.rule2, f.frame.rule3, f.rule4, f.rule5, r₆, r₇, r₈, e)

  pub framed_long : framed s ≡ true → 9 ≤ length s
  unfolding framed
  framed_long e = framed_from_lem 9 s e

-- rule 9 at a part that rule 8 takes
part_covered_lem : (s m n : ℕ) (x : ℕ → Node) → NodesKept s m n x → n ≤ 64 → (used : Bool) (root mask : ℕ) → part_right x n used root mask ≡ true → part_covered (reach_table x n) m used root mask ≡ part_named x m used root mask
unfolding part_right part_covered part_named is_formula_node
part_covered_lem s m n x kept few true root mask e = go (ltb mask (2 ^ m)) refl
  where
    found : Earlier requirement_sorts x n root formula
    found = sort_below_lem requirement_sorts x n root formula refl (same_sort-true _ formula e)

    go : (b : Bool) → ltb mask (2 ^ m) ≡ b → (b && eqb (joint (entry_of (reach_table x n) root) mask) mask) ≡ (b && within (bit mask) (formula_at x root))
    go false f = refl
    go true f =
        ap (λ (r : ℕ). eqb (joint r mask) mask) (table_at x n root few found.less)
        ∙ sym (covers_mask (reach_at x root) mask (reach_small x root) (mask_small m mask kept.three (ltb-true mask (2 ^ m) f)))
        ∙ sym ((reach_law s m n x kept (bit mask) root found.less).of_formula found.sorted)
part_covered_lem s m n x kept few false root mask e = refl

clause_covered_lem : (s m n : ℕ) (x : ℕ → Node) → NodesKept s m n x → n ≤ 64 → (d : StoredClause) → clause_right x n d ≡ true → clause_covered (reach_table x n) m d ≡ clause_named x m d
unfolding clause_right clause_covered clause_named
clause_covered_lem s m n x kept few d e =
    let u = parts_used d.clause_type in
    let roled = and_right (leb 1 d.clause_type && leb d.clause_type 6) _ e in
    let parts = and_right (leb d.role last_role) _ roled in
    let first = part_right x n (ltb 0 u) d.root1 d.mask1 in
    let second = part_right x n (ltb 1 u) d.root2 d.mask2 in
    let rest = and_right first _ parts in
    ap₂ (λ (y z : Bool). y && z) (part_covered_lem s m n x kept few (ltb 0 u) d.root1 d.mask1 (and_left first _ parts))
    (ap₂ (λ (y z : Bool). y && z) (part_covered_lem s m n x kept few (ltb 1 u) d.root2 d.mask2 (and_left second _ rest))
    (part_covered_lem s m n x kept few (ltb 2 u) d.root3 d.mask3 (and_right second _ rest)))

-- for a sheet that rules 1 to 8 take, rule 9 by reach masks is rule 9
pub covered_named : (s : List ℕ) → counted (header_of s) ≡ true → nodes_right s ≡ true → operands_found s ≡ true → clauses_right s ≡ true → every_below (header_of s).clauses (clause_covered_at (reach_table (nodes_of s) (header_of s).nodes) (header_of s).names (stored_of s)) ≡ clauses_named s
unfolding nodes_right operands_found clauses_right clauses_named node_right clause_right_at clause_covered_at clause_named_at
covered_named s r₄ r₆ r₇ r₈ =
    let many = counts (header_of s) r₄ in
    let kept : NodesKept (header_of s).signals (header_of s).names (header_of s).nodes (nodes_of s)
    = record {
      three = many.few_names;
      fields = every_at (header_of s).nodes _ r₆;
      operands_kept = every_at (header_of s).nodes _ r₇;
    }
    in
    every_same (header_of s).clauses _ _
    (λ k h.
    clause_covered_lem (header_of s).signals (header_of s).names (header_of s).nodes (nodes_of s) kept many.few_nodes (stored_of s k)
    (every_at (header_of s).clauses _ r₈ k h))
