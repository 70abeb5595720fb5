-- The clauses as formulas over the copied nodes, and how many nodes they take.
use Rattle.std.specs.Prelude.{ℕ, ◌+◌, ◌*◌, ◌≤◌, ◌<◌, Bool, true, cond, List, ◌≡◌, length, get_or, set}
use Rattle.semantics.specs.Proposition.{bit}
use Rattle.semantics.specs.Formula.{Formula, at}
use Rattle.semantics.specs.Clause.{ClauseType, Clause}
use Rattle.semantics.specs.Placement.{Names}
use Rattle.semantics.specs.Translation.{once, placed, broken_of}
use Rattle.stored.specs.declared.StoredClause.{StoredClause}
use Rattle.stored.specs.Bytes.{in_order}
use Rattle.stored.specs.Layout.{clause_size, most_clauses}
use Rattle.stored.specs.Node.{node_at}
use Rattle.stored.specs.Reach.{entry_of}
use Rattle.stored.specs.Clause.{stored_at, clause_right, clause_named, type_of, clause_of}
use Rattle.stored.specs.Sheet.{header_of}
use Rattle.plans.specs.Plan.{node, op_or, Put, Wrote}
use Rattle.emission.specs.Copying.{copy_costs}
use Rattle.clauses.specs.declared.clause.Part.{Part}

-- the clauses of a sheet that rules 8 and 9 take
pub record ClausesIn (y : List ℕ) (nodes : List ℕ) (n : ℕ) (clauses : List ℕ) (c : ℕ) : Type 0 where
  pub few : c ≤ most_clauses
  pub inside : clause_size * c ≤ length clauses
  pub right : (k : ℕ) → k < c → clause_right (node_at nodes) n (stored_at clauses k) ≡ true
  pub named : (k : ℕ) → k < c → clause_named (node_at nodes) (header_of y).names (stored_at clauses k) ≡ true

-- the roles that the formula speaks of: assumption and commitment
abbrev pub side_count : ℕ
side_count = 2

-- each name of the set has one mark, in a column of its own or not, and f holds
abbrev pub names_over : Bool → Names → Formula → Formula
names_over own names f = cond own (placed names f) (once names f)

-- the plan of a clause whose parts are nodes with the masks of their names: "it is broken"
abbrev pub broken_over : ClauseType → Part → Part → Part → Formula
broken_over type d₁ d₂ d₃ =
    broken_of type (at d₁.node) (bit d₁.names) (at d₂.node) (bit d₂.names) (at d₃.node) (bit d₃.names)

-- the plan of a stored clause, over the copies
unfoldable pub broken_in : List ℕ → StoredClause → Formula
broken_in map d =
    broken_of (type_of d.clause_type)
    (at (entry_of map d.root1)) (bit d.mask1)
    (at (entry_of map d.root2)) (bit d.mask2)
    (at (entry_of map d.root3)) (bit d.mask3)

-- x became y by a clause: its plan is joined to the formula on the side of its role; advice has no side and is passed over
pub data JoinedBy (map : List ℕ) (d : StoredClause) : List ℕ → List ℕ → List ℕ → List ℕ → Type 0 where
  passed : {x sides : List ℕ} → side_count ≤ d.role → JoinedBy map d x x sides sides
  joined : {x y z sides : List ℕ} {b r : ℕ} → d.role < side_count → Wrote x y b (broken_in map d) → Put (node op_or 0 (get_or sides d.role 0) b) y z r
      → JoinedBy map d x z sides (set sides d.role r)

-- clause k of the parts of a sheet, and all of them
unfoldable pub clause_at : List ℕ → List ℕ → ℕ → Clause
clause_at nodes clauses k = clause_of (node_at nodes) (stored_at clauses k)

unfoldable pub clauses_at : List ℕ → List ℕ → ℕ → List Clause
clauses_at nodes clauses c = in_order c (clause_at nodes clauses)

-- the most nodes a clause takes with the `or` that joins it to the others, and a requirement
abbrev pub clause_cost : ℕ → ℕ
clause_cost m = 11 + 3 * m

unfoldable pub requirement_cost : List ℕ → ℕ → ℕ → ℕ → ℕ
requirement_cost nodes n c m = copy_costs (node_at nodes) n + c * clause_cost m + 2
