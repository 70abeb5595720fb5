-- The programs' inputs as those of table and check.
use Rattle.std.proofs.Common.{ℕ, ◌-◌, ◌≤◌, List, [], ◌∷◌, ◌≡◌, sym, ◌∙◌, ap, arith, leb, length, get_or, take, drop, replicate, length-drop, take_all}
use lib.ListN.{length-replicate}
use Rattle.stored.specs.Layout.{least_words}
use Rattle.stored.specs.Bytes.{word, lowest}
use Rattle.stored.specs.Refusal.{answered}
use Rattle.stored.specs.Sheet.{header_of, nodes_of, sheet_refusal}
use Rattle.traces.specs.Trace.{cycle_count, cycles_of, trace_refusal}
use Rattle.checker.specs.Table.{or_else, words_refusal, node_refusal, table_refusal, table_answer, table_of, placement_of}
use Rattle.lines.specs.Input.{split_at, sheet_of, trace_of}
use Rattle.checker.specs.Check.{check_refusal, check_answer}
use Rattle.printed.specs.Page.{answer_to}
use Rattle.printed.specs.Line as line

-- parts from the start and up to the end
pub first_part : (l : List ℕ) (e : ℕ) → take (e - 0) (drop 0 l) ≡ take e l
first_part l e = let same : e - 0 ≡ e = omega arith in ap (λ (k : ℕ). take k l) same

pub last_part : (l : List ℕ) (e : ℕ) → take (length l - e) (drop e l) ≡ drop e l
last_part l e =
    let long = length-drop e l in
    let most : length (drop e l) ≤ length l - e = omega arith in
    take_all (length l - e) (drop e l) most

-- the answer goes by how many words are lent
answer_words : (s t : List ℕ) (node p0 p1 p2 : ℕ) (v w : List ℕ) → length v ≡ length w → table_answer s t node p0 p1 p2 v ≡ table_answer s t node p0 p1 p2 w
unfolding table_answer table_refusal words_refusal
answer_words s t node p0 p1 p2 v w e =
    ap
    (λ (n : ℕ).
    answered
    (or_else (sheet_refusal s)
    (or_else (trace_refusal (header_of s).signals t)
    (or_else (lowest 15 (leb least_words n ∷ []))
    (node_refusal (nodes_of s) (header_of s).nodes (cycle_count t) (header_of s).names node p0 p1 p2))))
    (table_of (nodes_of s) (cycles_of t) node (placement_of (header_of s).names p0 p1 p2)))
    e

pub answer_is : (input body s t : List ℕ) (node p0 p1 p2 end : ℕ) (words : List ℕ) → body ≡ drop 5 input → end ≡ split_at body → s ≡ take end body → t ≡ drop end body
    → node ≡ word input 0 → p0 ≡ get_or input 2 0 → p1 ≡ get_or input 3 0 → p2 ≡ get_or input 4 0 → least_words ≡ length words
    → table_answer s t node p0 p1 p2 words ≡ answer_to input
unfolding answer_to sheet_of trace_of
answer_is input body s t node p0 p1 p2 end words b e f g h i j k l =
    answer_words s t node p0 p1 p2 words (replicate least_words 0) (sym l ∙ sym (length-replicate {A = ℕ} least_words 0))
    ∙ rw (f, g, e, b, h, i, j, k)

-- ---- the program's input as the check's
check_words : (s t v w : List ℕ) → length v ≡ length w → check_answer s t v ≡ check_answer s t w
unfolding check_answer check_refusal words_refusal
check_words s t v w e = rw e

pub check_is : (input s t : List ℕ) (end : ℕ) (words : List ℕ) → end ≡ split_at input → s ≡ take end input → t ≡ drop end input → least_words ≡ length words
    → check_answer s t words ≡ line.answer_for input
unfolding line.answer_for sheet_of trace_of
check_is input s t end words e f g l =
    check_words s t words (replicate least_words 0) (sym l ∙ sym (length-replicate {A = ℕ} least_words 0)) ∙ rw (f, g, e)
