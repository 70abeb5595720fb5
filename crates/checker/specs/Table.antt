-- Document 01, "Verdicts and tables": the table operation, and refusals 15 to 17.
use Rattle.std.specs.Prelude.{ℕ, Bool, not, cond, ◌&&◌, ◌||◌, List, [], ◌∷◌, leb, ltb, eqb, length, replicate, Result, Ok, Err}
use Rattle.semantics.specs.Proposition.{Trace}
use Rattle.semantics.specs.Formula.{holds}
use Rattle.semantics.specs.Placement.{Placement, marks}
use Rattle.rows.specs.Row.{row}
use Rattle.stored.specs.declared.Node.{Node}
use Rattle.stored.specs.declared.refusal.Refusal.{Refusal}
use Rattle.stored.specs.Bytes.{in_order, lowest}
use Rattle.stored.specs.Layout.{least_words}
use Rattle.stored.specs.Node.{requirement_sorts, is_formula_node}
use Rattle.stored.specs.Refusal.{answered}
use Rattle.stored.specs.Sheet.{header_of, nodes_of, sheet_refusal}
use Rattle.traces.specs.Trace.{cycle_count, cycles_of, trace_refusal}
use Rattle.stored.specs.Tree.{pick, formula_at}
use Rattle.tables.specs.Table.{standing}

-- a name below m is put on one of the n cycles
unfoldable pub name_placed : ℕ → ℕ → ℕ → ℕ → Bool
name_placed m n u p = not (ltb u m) || ltb p n

unfoldable pub names_placed : ℕ → ℕ → ℕ → ℕ → ℕ → Bool
names_placed m n p0 p1 p2 = name_placed m n 0 p0 && (name_placed m n 1 p1 && name_placed m n 2 p2)

-- the cycles of the names below m; those given for names from m up are ignored
unfoldable pub heeded : ℕ → ℕ → ℕ → ℕ
heeded m u p = cond (ltb u m) p 0

unfoldable pub placement_of : ℕ → ℕ → ℕ → ℕ → Placement
placement_of m p0 p1 p2 = standing (heeded m 0 p0 ∷ heeded m 1 p1 ∷ heeded m 2 p2 ∷ [])

-- the 64 rows of a formula node over a trace
unfoldable pub table_of : (ℕ → Node) → Trace → ℕ → Placement → List ℕ
table_of x σ node ν = in_order 64 (row (length σ) (holds (formula_at x node) σ (marks ν)))

-- 16. The node asked for is a formula node. 17. Each name below m is put on a cycle of the trace.
unfoldable pub node_rules : (ℕ → Node) → ℕ → ℕ → ℕ → ℕ → ℕ → ℕ → ℕ → List Bool
node_rules x count n m node p0 p1 p2 = is_formula_node requirement_sorts x count node ∷ names_placed m n p0 p1 p2 ∷ []

unfoldable pub node_refusal : (ℕ → Node) → ℕ → ℕ → ℕ → ℕ → ℕ → ℕ → ℕ → ℕ
node_refusal x count n m node p0 p1 p2 = lowest 16 (node_rules x count n m node p0 p1 p2)

-- the second number where the first is 0
unfoldable pub or_else : ℕ → ℕ → ℕ
or_else first second = cond (eqb first 0) second first

-- 15. The lent words are 4,096 or more.
unfoldable pub words_refusal : List ℕ → ℕ
words_refusal words = lowest 15 (leb least_words (length words) ∷ [])

-- the lowest number that applies, or 0
unfoldable pub table_refusal : List ℕ → List ℕ → ℕ → ℕ → ℕ → ℕ → List ℕ → ℕ
table_refusal s t node p0 p1 p2 words =
    or_else (sheet_refusal s)
    (or_else (trace_refusal (header_of s).signals t)
    (or_else (words_refusal words)
    (node_refusal (nodes_of s) (header_of s).nodes (cycle_count t) (header_of s).names node p0 p1 p2)))

-- the node's rows, or the refusal with the lowest number that applies
unfoldable pub table_answer : List ℕ → List ℕ → ℕ → ℕ → ℕ → ℕ → List ℕ → Result (List ℕ) Refusal
table_answer s t node p0 p1 p2 words =
    answered (table_refusal s t node p0 p1 p2 words)
    (table_of (nodes_of s) (cycles_of t) node (placement_of (header_of s).names p0 p1 p2))

-- the 64 words of an answer: a refused table's are zero
unfoldable pub table_words : Result (List ℕ) Refusal → List ℕ
table_words (Ok rows) = rows
table_words (Err refusal) = replicate 64 0

-- what the lent words hold afterwards: they are all zero, and unchanged where there is a refusal
unfoldable pub words_after : ℕ → List ℕ → List ℕ
words_after number words = pick (eqb number 0) (replicate (length words) 0) words
