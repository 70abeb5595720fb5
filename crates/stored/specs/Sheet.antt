-- Document 01, "The stored sheet" and refusals 1 to 9.
use Rattle.std.specs.Prelude.{ℕ, Bool, ◌&&◌, List, [], ◌∷◌, leb, eqb, length, get_or, Result}
use Rattle.semantics.specs.Proposition.{Trace}
use Rattle.semantics.specs.Clause.{Clause}
use Rattle.semantics.specs.Verdict.{requirement}
use Rattle.stored.specs.declared.Node.{Node}
use Rattle.stored.specs.declared.StoredClause.{StoredClause}
use Rattle.stored.specs.declared.Header.{Header}
use Rattle.stored.specs.declared.refusal.Refusal.{Refusal}
use Rattle.stored.specs.Bytes.{word, framed_from, part, every_below, in_order, lowest}
use Rattle.stored.specs.Layout.{requirement_kind, nodes_start, nodes_end, clauses_end, most_signals, most_names, most_nodes, most_clauses}
use Rattle.stored.specs.Node.{node_at, requirement_sorts, node_right, operands_right}
use Rattle.stored.specs.Clause.{stored_at, clause_right_at, clause_named_at, clause_of}
use Rattle.stored.specs.Refusal.{answered}

unfoldable pub header_of : List ℕ → Header
header_of s = record { signals = get_or s 4 0; names = get_or s 5 0; nodes = word s 6; clauses = get_or s 8 0 }

unfoldable pub node_part : List ℕ → List ℕ
node_part s = part nodes_start (nodes_end (header_of s).nodes) s

unfoldable pub clause_part : List ℕ → List ℕ
clause_part s = part (nodes_end (header_of s).nodes) (clauses_end (header_of s).nodes (header_of s).clauses) s

unfoldable pub nodes_of : List ℕ → ℕ → Node
nodes_of s = node_at (node_part s)

unfoldable pub stored_of : List ℕ → ℕ → StoredClause
stored_of s = stored_at (clause_part s)

-- 1. It has 9 bytes or more, and bytes 0–1 are its length less 2.
unfoldable pub framed : List ℕ → Bool
framed s = framed_from nodes_start s

-- 2. Its version is 1.
unfoldable pub versioned : List ℕ → Bool
versioned s = eqb (get_or s 2 0) 1

-- 3. Its kind is 1.
unfoldable pub of_kind_one : List ℕ → Bool
of_kind_one s = eqb (get_or s 3 0) requirement_kind

-- 4. Its counts are in range for kind 1.
unfoldable pub counted : Header → Bool
counted h =
    (leb 1 h.signals && leb h.signals most_signals)
    && (leb h.names most_names
    && ((leb 1 h.nodes && leb h.nodes most_nodes) && (leb 1 h.clauses && leb h.clauses most_clauses)))

-- 5. Its length is 9 + 6n + 11c.
unfoldable pub sized : List ℕ → Bool
sized s = eqb (length s) (clauses_end (header_of s).nodes (header_of s).clauses)

-- 6. Each node has an op of kind 1, unused fields zero, and signals, names, comparisons, symbols and gaps in range.
unfoldable pub nodes_right : List ℕ → Bool
nodes_right s =
    every_below (header_of s).nodes (node_right requirement_sorts (header_of s).signals (header_of s).names (nodes_of s))

-- 7. Each operand is an earlier node of the sort needed.
unfoldable pub operands_found : List ℕ → Bool
operands_found s = every_below (header_of s).nodes (operands_right requirement_sorts (nodes_of s))

-- 8. Each clause has a type from 1 to 6, a role of at most 2, formula nodes as used roots, and zeros as unused roots and masks.
unfoldable pub clauses_right : List ℕ → Bool
clauses_right s = every_below (header_of s).clauses (clause_right_at (nodes_of s) (header_of s).nodes (stored_of s))

-- 9. Each mask has bits for names below m only, and each part reaches only names of its mask.
unfoldable pub clauses_named : List ℕ → Bool
clauses_named s = every_below (header_of s).clauses (clause_named_at (nodes_of s) (header_of s).names (stored_of s))

unfoldable pub sheet_rules : List ℕ → List Bool
sheet_rules s =
    framed s
    ∷ versioned s
    ∷ of_kind_one s
    ∷ counted (header_of s)
    ∷ sized s
    ∷ nodes_right s
    ∷ operands_found s
    ∷ clauses_right s
    ∷ clauses_named s
    ∷ []

-- the lowest number that applies, or 0: none does, and the sheet is accepted
unfoldable pub sheet_refusal : List ℕ → ℕ
sheet_refusal s = lowest 1 (sheet_rules s)

-- the header of a sheet to which no number applies, or the refusal with the lowest number that does
unfoldable pub sheet_answer : List ℕ → Result Header Refusal
sheet_answer s = answered (sheet_refusal s) (header_of s)

-- the clauses of a sheet in order, and its requirement
unfoldable pub clause_in : List ℕ → ℕ → Clause
clause_in s k = clause_of (nodes_of s) (stored_of s k)

unfoldable pub clauses_of : List ℕ → List Clause
clauses_of s = in_order (header_of s).clauses (clause_in s)

unfoldable pub requirement_of : List ℕ → Trace → Bool
requirement_of s σ = requirement (clauses_of s) σ
