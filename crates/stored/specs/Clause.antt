-- Document 01, "The stored sheet" and "Clauses": a clause's fields, what they stand for, and rules 8 and 9 at one clause.
use Rattle.std.specs.Prelude.{ℕ, ◌+◌, ◌*◌, ◌^◌, Bool, not, cond, ◌&&◌, ◌||◌, List, [], ◌∷◌, leb, ltb, eqb, get_or}
use Rattle.semantics.specs.Proposition.{bit}
use Rattle.semantics.specs.Clause.{Part, ClauseType, pref, init, anti, implies, follows, triggers, Role, assumption_role, commitment, advice, Clause}
use Rattle.semantics.specs.Reach.{within}
use Rattle.stored.specs.declared.Node.{Node}
use Rattle.stored.specs.declared.StoredClause.{StoredClause}
use Rattle.stored.specs.Bytes.{word}
use Rattle.stored.specs.Layout.{clause_size}
use Rattle.stored.specs.Node.{requirement_sorts, is_formula_node}
use Rattle.stored.specs.Tree.{formula_at}
use Rattle.stored.specs.Reach.{joint, entry_of}

-- clause k of a clause area; roots and masks stand in the order D1, D2, D3
unfoldable pub stored_at : List ℕ → ℕ → StoredClause
stored_at l k =
    record {
      clause_type = get_or l (clause_size * k) 0;
      role = get_or l (clause_size * k + 1) 0;
      root1 = word l (clause_size * k + 2);
      root2 = word l (clause_size * k + 4);
      root3 = word l (clause_size * k + 6);
      mask1 = get_or l (clause_size * k + 8) 0;
      mask2 = get_or l (clause_size * k + 9) 0;
      mask3 = get_or l (clause_size * k + 10) 0;
    }

-- the roles by their numbers: 0 is an assumption, 1 a commitment, 2 advice
abbrev pub roles : List Role
roles = assumption_role ∷ commitment ∷ advice ∷ []

abbrev pub last_role : ℕ
last_role = 2

-- how many parts a type uses, by its number
unfoldable pub parts_used : ℕ → ℕ
parts_used type = get_or (0 ∷ 1 ∷ 2 ∷ 1 ∷ 2 ∷ 3 ∷ 3 ∷ []) type 0

-- a used root is a formula node; an unused root and mask are zero
unfoldable pub part_right : (ℕ → Node) → ℕ → Bool → ℕ → ℕ → Bool
part_right x n used root mask = cond used (is_formula_node requirement_sorts x n root) (eqb root 0 && eqb mask 0)

-- Rule 8 at one clause.
unfoldable pub clause_right : (ℕ → Node) → ℕ → StoredClause → Bool
clause_right x n d =
    (leb 1 d.clause_type && leb d.clause_type 6)
    && (leb d.role last_role
    && (part_right x n (ltb 0 (parts_used d.clause_type)) d.root1 d.mask1
    && (part_right x n (ltb 1 (parts_used d.clause_type)) d.root2 d.mask2
    && part_right x n (ltb 2 (parts_used d.clause_type)) d.root3 d.mask3)))

-- a mask has no bit for a name from m up, and a used part reaches no name that its mask lacks
unfoldable pub part_named : (ℕ → Node) → ℕ → Bool → ℕ → ℕ → Bool
part_named x m used root mask = ltb mask (2 ^ m) && (not used || within (bit mask) (formula_at x root))

-- Rule 9 at one clause.
unfoldable pub clause_named : (ℕ → Node) → ℕ → StoredClause → Bool
clause_named x m d =
    part_named x m (ltb 0 (parts_used d.clause_type)) d.root1 d.mask1
    && (part_named x m (ltb 1 (parts_used d.clause_type)) d.root2 d.mask2
    && part_named x m (ltb 2 (parts_used d.clause_type)) d.root3 d.mask3)

unfoldable pub clause_right_at : (ℕ → Node) → ℕ → (ℕ → StoredClause) → ℕ → Bool
clause_right_at x n y k = clause_right x n (y k)

unfoldable pub clause_named_at : (ℕ → Node) → ℕ → (ℕ → StoredClause) → ℕ → Bool
clause_named_at x m y k = clause_named x m (y k)

-- Rule 9 at one clause, by a table of reach masks; the laws say that it is the same.
unfoldable pub part_covered : List ℕ → ℕ → Bool → ℕ → ℕ → Bool
part_covered table m used root mask = ltb mask (2 ^ m) && (not used || eqb (joint (entry_of table root) mask) mask)

unfoldable pub clause_covered : List ℕ → ℕ → StoredClause → Bool
clause_covered table m d =
    part_covered table m (ltb 0 (parts_used d.clause_type)) d.root1 d.mask1
    && (part_covered table m (ltb 1 (parts_used d.clause_type)) d.root2 d.mask2
    && part_covered table m (ltb 2 (parts_used d.clause_type)) d.root3 d.mask3)

unfoldable pub clause_covered_at : List ℕ → ℕ → (ℕ → StoredClause) → ℕ → Bool
clause_covered_at table m y k = clause_covered table m (y k)

-- types 1 to 6
unfoldable pub type_of : ℕ → ClauseType
type_of type = get_or (pref ∷ pref ∷ init ∷ anti ∷ implies ∷ follows ∷ triggers ∷ []) type pref

unfoldable pub role_of : ℕ → Role
role_of role = get_or roles role commitment

unfoldable pub part_of : (ℕ → Node) → ℕ → ℕ → Part
part_of x root mask = record { formula = formula_at x root; names = bit mask }

-- the clause that the fields stand for
unfoldable pub clause_of : (ℕ → Node) → StoredClause → Clause
clause_of x d =
    record {
      type = type_of d.clause_type;
      role = role_of d.role;
      first = part_of x d.root1 d.mask1;
      second = part_of x d.root2 d.mask2;
      third = part_of x d.root3 d.mask3;
    }
