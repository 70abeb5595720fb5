-- What acceptance says, opened into one record, and what crates above need of an accepted sheet.
use Rattle.std.proofs.Common.{ℕ, zero, suc, ◌*◌, ◌^◌, ◌≤◌, ◌<◌, Bool, true, false, ◌&&◌, List, inl, inr, ◌≡◌, refl, subst, arith, ltb-true, leb-true, eqb-true, leb, ltb, length, length-take, length-drop, Ok, Err}
use mathlib.Core.Bool.{false≢true}
use native.Mathlib.Nat.{pow-le-pow_right}
use Rattle.stored.specs.Layout.{clauses_end, node_size, clause_size}
use Rattle.semantics.specs.Proposition.{bit}
use Rattle.semantics.specs.Clause.{Part, Clause}
use Rattle.semantics.specs.Reach.{within, fits, parts_fit, clause_fits, all_fit}
use Rattle.stored.specs.declared.Node.{Node}
use Rattle.stored.specs.declared.StoredClause.{StoredClause}
use Rattle.stored.specs.declared.Header.{Header}
use Rattle.stored.specs.declared.refusal.Refusal.{Refusal}
use Rattle.stored.specs.Bytes.{in_order}
use Rattle.stored.specs.Node.{requirement_sorts, is_formula_node, node_right, formula}
use Rattle.stored.specs.Tree.{formula_at}
use Rattle.stored.specs.Refusal.{number_of}
use Rattle.stored.specs.Clause.{last_role, parts_used, part_right, clause_right, part_named, clause_named, clause_right_at, clause_named_at, type_of, part_of, clause_of}
use Rattle.stored.specs.Sheet.{header_of, node_part, clause_part, nodes_of, stored_of, counted, sized, nodes_right, operands_found, clauses_right, clauses_named, sheet_rules, sheet_refusal, sheet_answer, clause_in, clauses_of}
use Rattle.semantics.proofs.Tests.{and_left, and_right, and_intro}
use Rattle.stored.proofs.Rules.{every_at, lowest_kept, Lowest, lowest_law}
use Rattle.stored.proofs.Sorts.{same_sort-true}
use Rattle.stored.proofs.Tree.{Earlier, sort_below_lem}
use Rattle.stored.proofs.Reach.{NodesKept, bit_listed}
use Rattle.stored.proofs.Refusals.{of_value, of_refusal}

-- the counts of an accepted sheet
pub record Counts (h : Header) : Type 0 where
  pub some_signals : 1 ≤ h.signals
  pub few_signals : h.signals ≤ 16
  pub few_names : h.names ≤ 3
  pub some_nodes : 1 ≤ h.nodes
  pub few_nodes : h.nodes ≤ 64
  pub some_clauses : 1 ≤ h.clauses
  pub few_clauses : h.clauses ≤ 8

pub counts : (h : Header) → counted h ≡ true → Counts h
unfolding counted
counts h e =
    let s₀ = leb 1 h.signals in
    let s₁ = leb h.signals 16 in
    let n₀ = leb 1 h.nodes in
    let n₁ = leb h.nodes 64 in
    let c₀ = leb 1 h.clauses in
    let c₁ = leb h.clauses 8 in
    let signals = and_left (s₀ && s₁) _ e in
    let rest = and_right (s₀ && s₁) _ e in
    let rest₂ = and_right (leb h.names 3) _ rest in
    let nodes = and_left (n₀ && n₁) (c₀ && c₁) rest₂ in
    let clauses = and_right (n₀ && n₁) (c₀ && c₁) rest₂ in
    record {
      some_signals = leb-true 1 h.signals (and_left s₀ s₁ signals);
      few_signals = leb-true h.signals 16 (and_right s₀ s₁ signals);
      few_names = leb-true h.names 3 (and_left (leb h.names 3) _ rest);
      some_nodes = leb-true 1 h.nodes (and_left n₀ n₁ nodes);
      few_nodes = leb-true h.nodes 64 (and_right n₀ n₁ nodes);
      some_clauses = leb-true 1 h.clauses (and_left c₀ c₁ clauses);
      few_clauses = leb-true h.clauses 8 (and_right c₀ c₁ clauses);
    }

-- a sheet to which none of the numbers 1 to 9 applies
pub record Opened (s : List ℕ) : Type 0 where
  pub in_range : Counts (header_of s)
  pub long : length s ≡ clauses_end (header_of s).nodes (header_of s).clauses
  pub nodes_kept : NodesKept (header_of s).signals (header_of s).names (header_of s).nodes (nodes_of s)
  pub clause_right_holds : (k : ℕ) → k < (header_of s).clauses → clause_right (nodes_of s) (header_of s).nodes (stored_of s k) ≡ true
  pub clause_named_holds : (k : ℕ) → k < (header_of s).clauses → clause_named (nodes_of s) (header_of s).names (stored_of s k) ≡ true

pub opened : (s : List ℕ) → sheet_refusal s ≡ 0 → Opened s
unfolding sheet_refusal sheet_rules sized nodes_right operands_found clauses_right clauses_named node_right clause_right_at clause_named_at
opened s e =
    let r₁ = lowest_kept 1 _ _ (omega arith) e in
    let r₂ = lowest_kept 2 _ _ (omega arith) r₁.1 in
    let r₃ = lowest_kept 3 _ _ (omega arith) r₂.1 in
    let r₄ = lowest_kept 4 _ _ (omega arith) r₃.1 in
    let r₅ = lowest_kept 5 _ _ (omega arith) r₄.1 in
    let r₆ = lowest_kept 6 _ _ (omega arith) r₅.1 in
    let r₇ = lowest_kept 7 _ _ (omega arith) r₆.1 in
    let r₈ = lowest_kept 8 _ _ (omega arith) r₇.1 in
    let r₉ = lowest_kept 9 _ _ (omega arith) r₈.1 in
    let many = counts (header_of s) r₄.0 in
    record {
      in_range = many;
      long = eqb-true _ _ r₅.0;
      nodes_kept =
          record {
            three = many.few_names;
            fields = every_at (header_of s).nodes _ r₆.0;
            operands_kept = every_at (header_of s).nodes _ r₇.0;
          };
      clause_right_holds = every_at (header_of s).clauses _ r₈.0;
      clause_named_holds = every_at (header_of s).clauses _ r₉.0;
    }

pub answer_accepted : (s : List ℕ) (h : Header) → sheet_answer s ≡ Ok h → (sheet_refusal s ≡ 0) × (header_of s ≡ h)
unfolding sheet_answer
answer_accepted s h e = of_value (sheet_refusal s) (header_of s) h e

pub open_answer_lem : (s : List ℕ) (h : Header) → sheet_answer s ≡ Ok h → Opened s
open_answer_lem s h e = opened s (answer_accepted s h e).0

-- the sizes of an accepted sheet, by its answer's header
pub record Sizes (s : List ℕ) (h : Header) : Type 0 where
  pub nodes_most : h.nodes ≤ 64
  pub clauses_most : h.clauses ≤ 8
  pub ends : length s ≡ clauses_end h.nodes h.clauses

pub sizes : (s : List ℕ) (h : Header) → sheet_answer s ≡ Ok h → Sizes s h
sizes s h e =
    let o = open_answer_lem s h e in
    subst (Sizes s) (answer_accepted s h e).1
    (record { nodes_most = o.in_range.few_nodes; clauses_most = o.in_range.few_clauses; ends = o.long })

-- the parts handed to the functions over them
pub length_nodes : (s : List ℕ) → Opened s → length (node_part s) ≡ node_size * (header_of s).nodes
unfolding node_part
length_nodes s o =
    simp (length-take, length-drop) (omega (arith, o.long))

pub length_clauses : (s : List ℕ) → Opened s → length (clause_part s) ≡ clause_size * (header_of s).clauses
unfolding clause_part
length_clauses s o =
    simp (length-take, length-drop) (omega (arith, o.long))

-- a part that rules 8 and 9 take
pub record PartKept (x : ℕ → Node) (n m : ℕ) (used : Bool) (root mask : ℕ) : Type 0 where
  pub root_found : used ≡ true → Earlier requirement_sorts x n root formula
  pub small : mask < 2 ^ m
  pub named : used ≡ true → within (bit mask) (formula_at x root) ≡ true

part_kept : (x : ℕ → Node) (n m : ℕ) (used : Bool) (root mask : ℕ) → part_right x n used root mask ≡ true → part_named x m used root mask ≡ true → PartKept x n m used root mask
unfolding part_right part_named is_formula_node
part_kept x n m true root mask e f =
    record {
      root_found = λ u. sort_below_lem requirement_sorts x n root formula refl (same_sort-true _ formula e);
      small = ltb-true mask (2 ^ m) (and_left (ltb mask (2 ^ m)) _ f);
      named = λ u. and_right (ltb mask (2 ^ m)) _ f;
    }
part_kept x n m false root mask e f =
    record {
      root_found = λ u. absurd (false≢true u);
      small = ltb-true mask (2 ^ m) (and_left (ltb mask (2 ^ m)) _ f);
      named = λ u. absurd (false≢true u);
    }

-- a clause that rules 8 and 9 take
pub record ClauseKept (x : ℕ → Node) (n m : ℕ) (d : StoredClause) : Type 0 where
  pub type_least : 1 ≤ d.clause_type
  pub type_most : d.clause_type ≤ 6
  pub role_most : d.role ≤ last_role
  pub part1 : PartKept x n m (ltb 0 (parts_used d.clause_type)) d.root1 d.mask1
  pub part2 : PartKept x n m (ltb 1 (parts_used d.clause_type)) d.root2 d.mask2
  pub part3 : PartKept x n m (ltb 2 (parts_used d.clause_type)) d.root3 d.mask3

pub clause_kept : (x : ℕ → Node) (n m : ℕ) (d : StoredClause) → clause_right x n d ≡ true → clause_named x m d ≡ true → ClauseKept x n m d
unfolding clause_right clause_named
clause_kept x n m d e f =
    let u = parts_used d.clause_type in
    let range = and_left (leb 1 d.clause_type && leb d.clause_type 6) _ e in
    let roled = and_right (leb 1 d.clause_type && leb d.clause_type 6) _ e in
    let parts = and_right (leb d.role last_role) _ roled in
    let first = part_right x n (ltb 0 u) d.root1 d.mask1 in
    let second = part_right x n (ltb 1 u) d.root2 d.mask2 in
    let rest = and_right first _ parts in
    let first' = part_named x m (ltb 0 u) d.root1 d.mask1 in
    let second' = part_named x m (ltb 1 u) d.root2 d.mask2 in
    let rest' = and_right first' _ f in
    record {
      type_least = leb-true 1 d.clause_type (and_left (leb 1 d.clause_type) _ range);
      type_most = leb-true d.clause_type 6 (and_right (leb 1 d.clause_type) _ range);
      role_most = leb-true d.role last_role (and_left (leb d.role last_role) _ roled);
      part1 = part_kept x n m (ltb 0 u) d.root1 d.mask1 (and_left first _ parts) (and_left first' _ f);
      part2 = part_kept x n m (ltb 1 u) d.root2 d.mask2 (and_left second _ rest) (and_left second' _ rest');
      part3 = part_kept x n m (ltb 2 u) d.root3 d.mask3 (and_right second _ rest) (and_right second' _ rest');
    }

pub clauses_kept : (s : List ℕ) → Opened s → (k : ℕ) → k < (header_of s).clauses → ClauseKept (nodes_of s) (header_of s).nodes (header_of s).names (stored_of s k)
clauses_kept s o k h =
    clause_kept (nodes_of s) (header_of s).nodes (header_of s).names (stored_of s k) (o.clause_right_holds k h) (o.clause_named_holds k h)

-- cases on a type's number
pub type_cases : (P : ℕ → Type 0) → P 1 → P 2 → P 3 → P 4 → P 5 → P 6 → (k : ℕ) → 1 ≤ k → k ≤ 6 → P k
type_cases P p1 p2 p3 p4 p5 p6 zero l h = absurd (omega arith)
type_cases P p1 p2 p3 p4 p5 p6 (suc zero) l h = p1
type_cases P p1 p2 p3 p4 p5 p6 (suc (suc zero)) l h = p2
type_cases P p1 p2 p3 p4 p5 p6 (suc (suc (suc zero))) l h = p3
type_cases P p1 p2 p3 p4 p5 p6 (suc (suc (suc (suc zero)))) l h = p4
type_cases P p1 p2 p3 p4 p5 p6 (suc (suc (suc (suc (suc zero))))) l h = p5
type_cases P p1 p2 p3 p4 p5 p6 (suc (suc (suc (suc (suc (suc zero)))))) l h = p6
type_cases P p1 p2 p3 p4 p5 p6 (suc (suc (suc (suc (suc (suc (suc k))))))) l h = absurd (omega arith)

-- masks of an accepted sheet are below 8
pub mask_small : (m mask : ℕ) → m ≤ 3 → mask < 2 ^ m → mask < 8
mask_small m mask h l =
    let big : 2 ^ m ≤ 8 = pow-le-pow_right {n = 2} (omega arith) h in
    omega arith

part_fits : (x : ℕ → Node) (n m : ℕ) (used : Bool) (root mask : ℕ) → m ≤ 3 → PartKept x n m used root mask → used ≡ true → fits (part_of x root mask) ≡ true
unfolding fits part_of
part_fits x n m used root mask h kept u =
    rw (bit_listed mask (mask_small m mask h kept.small)) (kept.named u)

PartsFit : ℕ → Part → Part → Part → ℕ → Type 0
PartsFit m d₁ d₂ d₃ k =
    (ltb 0 (parts_used k) ≡ true → fits d₁ ≡ true)
    → (ltb 1 (parts_used k) ≡ true → fits d₂ ≡ true)
    → (ltb 2 (parts_used k) ≡ true → fits d₃ ≡ true)
    → parts_fit (type_of k) d₁ d₂ d₃ ≡ true

parts_fit_lem : (m : ℕ) (d₁ d₂ d₃ : Part) (k : ℕ) → 1 ≤ k → k ≤ 6 → PartsFit m d₁ d₂ d₃ k
unfolding PartsFit parts_used type_of parts_fit
parts_fit_lem m d₁ d₂ d₃ =
    type_cases (PartsFit m d₁ d₂ d₃)
    (λ e f g. e refl)
    (λ e f g. and_intro (fits d₁) (fits d₂) (e refl) (f refl))
    (λ e f g. e refl)
    (λ e f g. and_intro (fits d₁) (fits d₂) (e refl) (f refl))
    (λ e f g. and_intro (fits d₁) _ (e refl) (and_intro (fits d₂) (fits d₃) (f refl) (g refl)))
    (λ e f g. and_intro (fits d₁) _ (e refl) (and_intro (fits d₂) (fits d₃) (f refl) (g refl)))

clause_fits_lem : (x : ℕ → Node) (n m : ℕ) (d : StoredClause) → m ≤ 3 → ClauseKept x n m d → clause_fits (clause_of x d) ≡ true
unfolding clause_fits clause_of PartsFit
clause_fits_lem x n m d h kept =
    parts_fit_lem m (part_of x d.root1 d.mask1) (part_of x d.root2 d.mask2) (part_of x d.root3 d.mask3) d.clause_type
    kept.type_least
    kept.type_most
    (part_fits x n m _ d.root1 d.mask1 h kept.part1)
    (part_fits x n m _ d.root2 d.mask2 h kept.part2)
    (part_fits x n m _ d.root3 d.mask3 h kept.part3)

all_fit_lem : (n : ℕ) (f : ℕ → Clause) → ((i : ℕ) → i < n → clause_fits (f i) ≡ true) → all_fit (in_order n f) ≡ true
unfolding all_fit in_order
all_fit_lem zero f h = refl
all_fit_lem (suc n) f h = and_intro (clause_fits (f 0)) _ (h 0 (omega arith)) (all_fit_lem n (λ i. f (suc i)) (λ i l. h (suc i) (omega arith)))

-- an accepted sheet meets the hypothesis of the agreement theorem
pub accepted_fits : (s : List ℕ) → Opened s → all_fit (clauses_of s) ≡ true
unfolding clauses_of clause_in
accepted_fits s o =
    all_fit_lem (header_of s).clauses (clause_in s)
    (λ k l. clause_fits_lem (nodes_of s) (header_of s).nodes (header_of s).names (stored_of s k) o.in_range.few_names (clauses_kept s o k l))

-- whatever the bytes, the answer is none of the numbers or one of them, and the lowest that applies
pub sheet_lowest : (s : List ℕ) → Lowest 1 (sheet_rules s) (sheet_refusal s)
unfolding sheet_refusal
sheet_lowest s = lowest_law 1 (sheet_rules s) (omega arith)

pub sheet_small : (s : List ℕ) → sheet_refusal s < 10
unfolding sheet_rules
sheet_small s =
    elim (sheet_lowest s).range [
      | inl e ↦ omega arith
      | inr e ↦ omega (arith, e.1)
    ]

-- a refused sheet has the refusal's number
pub answer_refused : (s : List ℕ) (e : Refusal) → sheet_answer s ≡ Err e → number_of e ≡ sheet_refusal s
unfolding sheet_answer
answer_refused s e is = of_refusal (sheet_refusal s) (header_of s) e (let small = sheet_small s in omega arith) is
