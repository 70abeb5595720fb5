-- The form of a kind 2 sheet, opened into one record and made from it.
use Rattle.std.proofs.Common.{ℕ, true, List, ◌≡◌}
use Rattle.semantics.specs.Placement.{no_names}
use Rattle.semantics.specs.Reach.{within}
use Rattle.stored.specs.Node.{emitted_sorts, is_formula_node}
use Rattle.stored.specs.Sheet.{header_of, nodes_of, framed, versioned, sized}
use Rattle.stored.specs.Emitted.{of_kind_two, emitted_counted, root_of, emitted_formula, emitted_nodes, emitted_operands, emitted_root, is_emitted}
use Rattle.semantics.proofs.Tests.{and_left, and_right, and_intro}

pub record Emitted (s : List ℕ) : Type 0 where
  pub is_framed : framed s ≡ true
  pub is_versioned : versioned s ≡ true
  pub of_kind_two_holds : of_kind_two s ≡ true
  pub is_counted : emitted_counted (header_of s) ≡ true
  pub is_sized : sized s ≡ true
  pub nodes_right_holds : emitted_nodes s ≡ true
  pub operands_right_holds : emitted_operands s ≡ true
  pub root_formula : is_formula_node emitted_sorts (nodes_of s) (header_of s).nodes (root_of s) ≡ true
  pub root_closed : within no_names (emitted_formula s) ≡ true

pub emitted_opened : (s : List ℕ) → is_emitted s ≡ true → Emitted s
unfolding is_emitted emitted_root
emitted_opened s e =
    let e₂ = and_right (framed s) _ e in
    let e₃ = and_right (versioned s) _ e₂ in
    let e₄ = and_right (of_kind_two s) _ e₃ in
    let e₅ = and_right (emitted_counted (header_of s)) _ e₄ in
    let e₆ = and_right (sized s) _ e₅ in
    let e₇ = and_right (emitted_nodes s) _ e₆ in
    let e₈ = and_right (emitted_operands s) _ e₇ in
    let root = is_formula_node emitted_sorts (nodes_of s) (header_of s).nodes (root_of s) in
    record {
      is_framed = and_left (framed s) _ e;
      is_versioned = and_left (versioned s) _ e₂;
      of_kind_two_holds = and_left (of_kind_two s) _ e₃;
      is_counted = and_left (emitted_counted (header_of s)) _ e₄;
      is_sized = and_left (sized s) _ e₅;
      nodes_right_holds = and_left (emitted_nodes s) _ e₆;
      operands_right_holds = and_left (emitted_operands s) _ e₇;
      root_formula = and_left root _ e₈;
      root_closed = and_right root _ e₈;
    }

pub emitted_made : (s : List ℕ) → Emitted s → is_emitted s ≡ true
unfolding is_emitted emitted_root
emitted_made s e =
    and_intro (framed s) _ e.is_framed
    (and_intro (versioned s) _ e.is_versioned
    (and_intro (of_kind_two s) _ e.of_kind_two_holds
    (and_intro (emitted_counted (header_of s)) _ e.is_counted
    (and_intro (sized s) _ e.is_sized
    (and_intro (emitted_nodes s) _ e.nodes_right_holds
    (and_intro (emitted_operands s) _ e.operands_right_holds
    (and_intro (is_formula_node emitted_sorts (nodes_of s) (header_of s).nodes (root_of s)) _ e.root_formula e.root_closed)))))))
