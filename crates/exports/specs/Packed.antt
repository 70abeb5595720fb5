-- An answer as one number, its tag and 256 times its value, and the advice above them; and a table in lent rows.
use Rattle.std.specs.Prelude.{ℕ, ◌+◌, ◌*◌, ◌/◌, ◌%◌, ◌≤◌, cond, ◌&&◌, List, [], ◌∷◌, ◌++◌, eqb, leb, length, drop, Result, Ok, Err, IfOk}
use Rattle.stored.specs.declared.refusal.Refusal.{Refusal}
use Rattle.stored.specs.Refusal.{number_of, refusal_numbered}
use Rattle.stored.specs.Bytes.{lowest}
use Rattle.stored.specs.Layout.{least_output, least_words}
use Rattle.stored.specs.Sheet.{header_of, nodes_of, sheet_refusal}
use Rattle.traces.specs.Trace.{cycle_count, cycles_of, trace_refusal}
use Rattle.stored.specs.Tree.{pick}
use Rattle.checker.specs.declared.check.Place.{Place}
use Rattle.checker.specs.declared.check.Finding.{Finding}
use Rattle.checker.specs.declared.check.Finding.TheVariants.{Excused, Broken, Holds}
use Rattle.checker.specs.declared.check.Verdict.{Verdict}
use Rattle.checker.specs.Table.{placement_of, table_of, node_refusal, or_else}

-- a clause's number and its three cycles as one number, 6 bits a cycle
unfoldable pub packed_place : Place → ℕ
packed_place p = p.clause * 262144 + p.i * 4096 + p.j * 64 + p.k

-- a finding: tag 1 and the clause, 2 and the place, 3 and 0
unfoldable pub packed_finding : Finding → ℕ
packed_finding (Excused clause) = 1 + clause * 256
packed_finding (Broken p) = 2 + packed_place p * 256
packed_finding Holds = 3

-- the numbers of a finding are below it; the advice stands above them
abbrev pub findings : ℕ
findings = 4294967296

-- the check's answer: tag 0 and the refusal's number, or the finding with the advice above it
unfoldable pub packed : Result Verdict Refusal → ℕ
packed (Ok v) = packed_finding v.finding + v.advice * findings
packed (Err refusal) = number_of refusal * 256

-- and back: what a caller reads in the number
unfoldable pub unpacked_place : ℕ → Place
unpacked_place v = record { clause = v / 262144; i = v / 4096 % 64; j = v / 64 % 64; k = v % 64 }

unfoldable pub unpacked_finding : ℕ → Finding
unpacked_finding r = pick (eqb (r % 256) 1) (Excused (r / 256)) (pick (eqb (r % 256) 2) (Broken (unpacked_place (r / 256))) Holds)

unfoldable pub unpacked : ℕ → Result Verdict Refusal
unpacked r =
    pick (eqb (r % 256) 0) (Err (refusal_numbered (r / 256))) (Ok (record { finding = unpacked_finding (r % findings); advice = r / findings }))

-- the answer of an operation that writes a sheet: tag 0 and the refusal's number, 4 and the length of the sheet written
unfoldable pub packed_writing : Result ℕ Refusal → ℕ
packed_writing (Ok size) = 4 + size * 256
packed_writing (Err refusal) = number_of refusal * 256

-- and back
unfoldable pub unpacked_writing : ℕ → Result ℕ Refusal
unpacked_writing r = pick (eqb (r % 256) 4) (Ok (r / 256)) (Err (refusal_numbered (r / 256)))

-- its length can be packed
abbrev pub SmallWriting : Result ℕ Refusal → Type 0
SmallWriting answer = IfOk answer (λ size. size ≤ least_output)

-- the table's answer: tag 0 and the refusal's number, 4 and 0 where there is none
unfoldable pub packed_table : ℕ → ℕ
packed_table number = cond (eqb number 0) 4 (number * 256)

-- 15. The lent words are 4,096 or more, and the lent rows 64 or more.
unfoldable pub lent_refusal : List ℕ → List ℕ → ℕ
lent_refusal words rows = lowest 15 ((leb least_words (length words) && leb 64 (length rows)) ∷ [])

-- the lowest number that applies to a table written into lent rows, or 0
unfoldable pub rows_refusal : List ℕ → List ℕ → ℕ → ℕ → ℕ → ℕ → List ℕ → List ℕ → ℕ
rows_refusal s t node p0 p1 p2 words rows =
    or_else (sheet_refusal s)
    (or_else (trace_refusal (header_of s).signals t)
    (or_else (lent_refusal words rows)
    (node_refusal (nodes_of s) (header_of s).nodes (cycle_count t) (header_of s).names node p0 p1 p2)))

-- the 64 rows of a node of a sheet over a trace
unfoldable pub rows_of : List ℕ → List ℕ → ℕ → ℕ → ℕ → ℕ → List ℕ
rows_of s t node p0 p1 p2 = table_of (nodes_of s) (cycles_of t) node (placement_of (header_of s).names p0 p1 p2)

-- what the lent rows hold afterwards: the table first, and later ones unchanged; all are unchanged where there is a refusal
unfoldable pub rows_after : ℕ → List ℕ → List ℕ → List ℕ
rows_after number table rows = pick (eqb number 0) (table ++ drop 64 rows) rows
