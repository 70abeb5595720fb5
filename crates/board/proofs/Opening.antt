-- A board that is opened, and the sheet of a new board.
use Rattle.std.proofs.Common.{ℕ, ◌+◌, ◌*◌, ◌≤◌, min, List, [], ◌≡◌, refl, ◌∙◌, ap, arith, eqb-true, leb, length, get_or, take, replicate, Ok, Err}
use lib.ListN.{length-replicate}
use lib.Seq.{sets, length-sets}
use Rattle.semantics.proofs.Tests.{and_left, and_right}
use Rattle.stored.specs.declared.Header.{Header}
use Rattle.stored.specs.declared.refusal.Refusal.{Refusal}
use Rattle.stored.proofs.Refusals.{answered_value, answered_refusal}
use Rattle.stored.specs.Bytes.{word, framed_from}
use Rattle.stored.specs.Layout.{most_sheet, most_cycles, following}
use Rattle.stored.specs.Sheet.{framed, sheet_rules, sheet_refusal, sheet_answer}
use Rattle.stored.proofs.Rules.{lowest_kept}
use Rattle.stored.proofs.Written.{sets_front, get_or_put}
use Rattle.stored.proofs.Accepted.{opened, answer_accepted, answer_refused}
use Rattle.lines.specs.Input.{split_at, sheet_of}
use Rattle.board.specs.Board.{Sized, sheet_on, cycles_on, new_board, open_answer}

-- an accepted sheet is no longer than the longest
pub sheet_short : (s : List ℕ) → sheet_refusal s ≡ 0 → length s ≤ most_sheet
sheet_short s e =
    let o = opened s e in
    let nodes = o.in_range.few_nodes in
    let clauses = o.in_range.few_clauses in
    omega (arith, o.long)

-- what open answers
pub open_refused : (s : List ℕ) (e : Refusal) → sheet_answer s ≡ Err e → Err e ≡ open_answer s
unfolding open_answer
open_refused s e is = answered_refusal (sheet_refusal s) (new_board s) e (answer_refused s e is)

pub open_accepted : (s : List ℕ) (h : Header) → sheet_answer s ≡ Ok h → Ok (new_board s) ≡ open_answer s
unfolding open_answer
open_accepted s h e = answered_value (sheet_refusal s) (new_board s) (answer_accepted s h e).0

-- ---- a new board
pub new_sized : (s : List ℕ) → Sized (new_board s)
unfolding new_board
new_sized s =
    record {
      sheet_long = length-sets (replicate most_sheet 0) 0 s ∙ length-replicate {A = ℕ} most_sheet 0;
      cycles_long = length-replicate {A = ℕ} most_cycles 0;
    }

-- its sheet is the one that it was opened on, and it has no cycles
pub new_sheet : (s : List ℕ) → sheet_refusal s ≡ 0 → sheet_on (new_board s) ≡ s
unfolding sheet_on sheet_of split_at new_board sheet_refusal sheet_rules framed framed_from word
new_sheet s e =
    let zeros = replicate {A = ℕ} most_sheet 0 in
    let all = length-replicate {A = ℕ} most_sheet 0 in
    let rules = (lowest_kept 1 _ _ (omega arith) e).0 in
    let least = borrow.Author.Tests.leb-true 9 (length s) (and_left (leb 9 (length s)) _ rules) in
    let says = eqb-true (get_or s 0 0 * 256 + get_or s 1 0) (following (length s)) (and_right (leb 9 (length s)) _ rules) in
    let fits : 0 + length s ≤ length zeros = omega (arith, sheet_short s e) in
    let first = get_or_put zeros 0 s 0 fits (omega arith) in
    let second = get_or_put zeros 0 s 1 fits (omega arith) in
    let size = length-sets zeros 0 s in
    let end : min (get_or (sets zeros 0 s) 0 0 * 256 + get_or (sets zeros 0 s) 1 0 + 2) (length (sets zeros 0 s)) ≡ length s =
    rw (first, second, says, size) (omega arith)
    in
    ap (λ (k : ℕ). take k (sets zeros 0 s)) end ∙ sets_front zeros s (omega arith)

pub new_cycles : (s : List ℕ) → cycles_on (new_board s) ≡ []
unfolding cycles_on new_board
new_cycles s = refl
