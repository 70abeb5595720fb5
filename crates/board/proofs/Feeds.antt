-- What feeds do: one cycle taken, and the claim over every list of them.
use Rattle.std.proofs.Common.{ℕ, suc, ◌+◌, ◌-◌, ◌^◌, ◌≤◌, ◌<◌, Bool, true, false, List, [], ◌∷◌, ◌++◌, append_assoc, append-nil, inl, inr, ◌≡◌, refl, sym, ◌∙◌, ap, ap₂, subst, arith, ne_eqb, eqb-true, ltb-true, ltb-false, eqb, ltb, length, get_or, set, take, drop, replicate, length-append, length-take, length-set, take_all, take-suc, get_or-take, take-suc-set, get_or-append-add, Option, Some, Result, Ok, Err}
use lib.ListN.{length-replicate, get_or-append}
use Rattle.semantics.specs.Verdict.{verdict}
use Rattle.semantics.proofs.Tests.{test}
use Rattle.stored.specs.Sheet.{header_of, clauses_of, sheet_refusal}
use Rattle.stored.specs.Tree.{pick}
use Rattle.traces.specs.Trace.{trace_refusal}
use Rattle.traces.specs.Written.{trace_bytes}
use Rattle.traces.proofs.Written.{trace_accepted, trace_cycles}
use Rattle.std.specs.Result.{result_ok}
use Rattle.stored.specs.declared.refusal.Refusal.{Refusal}
use Rattle.stored.specs.Refusal.{number_of, refusal_numbered, answered}
use Rattle.stored.proofs.Refusals.{refusal_applies, numbered_number}
use Rattle.checker.specs.declared.check.Verdict.{Verdict}
use Rattle.checker.specs.Table.{words_refusal, words_after}
use Rattle.checker.specs.Check.{told_whole, check_refusal, check_answer}
use Rattle.checker.proofs.Refusals.{or_second}
use Rattle.lines.specs.Input.{sheet_of}
use Rattle.board.specs.declared.Board.{Board}
use Rattle.board.specs.Board.{Sized, sheet_on, signals_on, cycles_on, board_refusal, cycle_rules, feed_refusal, check_on, feed_answer, with_cycle, next_board}
use Rattle.board.specs.Feeds.{Feed, board_after, kept, taken_from, lent, words_left, verdict_on, Shows, Told}
use Rattle.board.proofs.Admission.{Takes, takes}

-- ---- one cycle more
-- cycles without a bit from s up
abbrev Small : ℕ → List ℕ → Type 0
Small s ws = (i : ℕ) → i < length ws → get_or ws i 0 < 2 ^ s

small_more : (s : ℕ) (ws : List ℕ) (w : ℕ) → Small s ws → w < 2 ^ s → Small s (ws ++ (w ∷ []))
small_more s ws w small l i h =
    let long = length-append ws (w ∷ []) in
    elim (test (ltb i (length ws))) [
      | inl e ↦ (
          let below = ltb-true i (length ws) e in
          let same = get_or-append ws (w ∷ []) 0 i below in
          omega (arith, small i below))
      | inr e ↦ (
          let above = ltb-false i (length ws) e in
          let last : i ≡ length ws + 0 = omega arith in
          let same = ap (λ (k : ℕ). get_or (ws ++ (w ∷ [])) k 0) last ∙ get_or-append-add ws (w ∷ []) 0 0 in
          omega arith)
    ]

-- the check on the stored trace of such cycles gives their verdict
module _ (s : List ℕ) (ws words : List ℕ) (accepted : sheet_refusal s ≡ 0) (some : 1 ≤ length ws) (few : length ws ≤ 64)
    (small : Small (header_of s).signals ws) (enough : words_refusal words ≡ 0) where
  pub check_passes : check_refusal s (trace_bytes (header_of s).signals ws) words ≡ 0
  unfolding check_refusal
  check_passes =
      or_second (sheet_refusal s) _ accepted
      ∙ or_second (trace_refusal (header_of s).signals (trace_bytes (header_of s).signals ws)) _ (trace_accepted (header_of s).signals ws some few small)
      ∙ enough

  pub check_gives : check_answer s (trace_bytes (header_of s).signals ws) words ≡ Ok (told_whole (verdict (clauses_of s) ws))
  unfolding check_answer answered pick
  check_gives = rw (check_passes, trace_cycles (header_of s).signals ws)

-- a board that takes a cycle
module _ (b : Board) (cycle : ℕ) (words : List ℕ) (none : feed_refusal b cycle words ≡ 0) where
  abbrev pub all : List ℕ
  all = cycles_on b ++ (cycle ∷ [])

  taking : Takes b cycle words
  taking = takes b cycle words none

  held_few : length (cycles_on b) ≤ b.taken
  unfolding cycles_on
  held_few = let size = length-take b.taken b.cycles in omega arith

  all_long : length all ≡ suc (length (cycles_on b))
  all_long = let long = length-append (cycles_on b) (cycle ∷ []) in omega arith

  held_small : Small (signals_on b) (cycles_on b)
  unfolding cycles_on
  held_small i h =
      let less : i < b.taken = omega (arith, held_few) in
      let same = get_or-take b.taken b.cycles i 0 less in
      omega (arith, taking.held_small i less)

  all_small : Small (signals_on b) all
  all_small = small_more (signals_on b) (cycles_on b) cycle held_small taking.cycle_small

  -- the check takes the cycles with the new one, over any words enough
  passes : (more : List ℕ) → words_refusal more ≡ 0 → check_refusal (sheet_on b) (trace_bytes (signals_on b) all) more ≡ 0
  unfolding signals_on
  passes more enough =
      check_passes (sheet_on b) all more taking.sheet_accepted (omega (arith, all_long)) (omega (arith, all_long, held_few, taking.room)) all_small enough

  gives : (more : List ℕ) → words_refusal more ≡ 0 → check_on b all more ≡ Ok (told_whole (verdict (clauses_of (sheet_on b)) all))
  unfolding check_on signals_on
  gives more enough =
      check_gives (sheet_on b) all more taking.sheet_accepted (omega (arith, all_long)) (omega (arith, all_long, held_few, taking.room)) all_small enough

  answers : feed_answer b cycle words ≡ check_on b all words
  unfolding feed_answer pick
  answers = rw none

  -- a feed that is not refused gives a verdict
  pub answers_checked : feed_answer b cycle words ≡ Ok (told_whole (verdict (clauses_of (sheet_on b)) all))
  answers_checked = answers ∙ gives words taking.words_enough

  pub next_is : next_board b cycle words ≡ with_cycle b cycle (feed_answer b cycle words)
  unfolding next_board pick
  next_is = rw none

  -- where its arrays are as long as its type says
  module _ (sized : Sized b) where
    cycles_with : take (suc b.taken) (set b.cycles b.taken cycle) ≡ all
    unfolding cycles_on
    cycles_with = take-suc-set b.cycles b.taken cycle (omega (arith, sized.cycles_long, taking.room))

    pub cycles_part : take (b.taken + 1 - 0) (drop 0 (set b.cycles b.taken cycle)) ≡ all
    cycles_part = let end : b.taken + 1 - 0 ≡ suc b.taken = omega arith in rw end cycles_with

    next_sheet : (next_board b cycle words).sheet ≡ b.sheet
    unfolding with_cycle
    next_sheet = ap (λ (r : Board). r.sheet) next_is

    next_cycles : cycles_on (next_board b cycle words) ≡ all
    unfolding with_cycle cycles_on
    next_cycles = ap cycles_on next_is ∙ cycles_with

    next_sized : Sized (next_board b cycle words)
    unfolding with_cycle
    next_sized =
        record {
          sheet_long = ap length next_sheet ∙ sized.sheet_long;
          cycles_long =
              ap (λ (r : Board). length r.cycles) next_is ∙ length-set b.cycles b.taken cycle ∙ sized.cycles_long;
        }

    -- the next board shows its verdict
    next_shows : Shows (next_board b cycle words)
    unfolding with_cycle check_on signals_on sheet_on verdict_on
    next_shows =
        let r = next_board b cycle words in
        let same : verdict_on r ≡ told_whole (verdict (clauses_of (sheet_on b)) (all)) =
        ap₂ (λ (bytes ws : List ℕ). told_whole (verdict (clauses_of (sheet_of bytes)) ws)) next_sheet next_cycles
        in
        record {
          checked = λ more enough.
              ap₂ (λ (bytes ws : List ℕ). check_answer (sheet_of bytes) (trace_bytes (header_of (sheet_of bytes)).signals ws) more) next_sheet next_cycles
              ∙ gives more enough
              ∙ ap Ok (sym same);
          given =
              ap (λ (x : Board). x.verdict) next_is
              ∙ ap result_ok answers_checked
              ∙ ap Some (sym same);
        }

    -- what `take` hands back
    pub took : (answer : Result Verdict Refusal) (shown : Option Verdict) (s : ℕ) (sheet ws after : List ℕ) → s ≡ signals_on b → sheet ≡ sheet_on b → ws ≡ all
        → answer ≡ check_answer sheet (trace_bytes s ws) words → after ≡ words_after (check_refusal sheet (trace_bytes s ws) words) words → shown ≡ result_ok answer
        → (◌≡◌ {A = Board} (record { sheet = b.sheet; cycles = set b.cycles b.taken cycle; taken = b.taken + 1; verdict = shown }) (next_board b cycle words))
        × ((answer ≡ feed_answer b cycle words) × (after ≡ words_after 0 words))
    unfolding with_cycle check_on
    took answer shown s sheet ws after es eh ew ea el ev =
        let more : b.taken + 1 ≡ suc b.taken = omega arith in
        let told : answer ≡ feed_answer b cycle words = ea ∙ rw (eh, es, ew) (sym answers) in (
          rw (ev, told, more) (sym next_is),
          (told, el ∙ rw (eh, es, ew) (ap (λ (n : ℕ). words_after n words) (passes words taking.words_enough))),
        )

-- ---- a board that is refused
module _ (b : Board) (cycle : ℕ) (words : List ℕ) (refused : eqb (feed_refusal b cycle words) 0 ≡ false) where
  pub next_same : next_board b cycle words ≡ b
  unfolding next_board pick
  next_same = rw refused

-- what `feed` hands back where it refuses
pub fed_refused : (b : Board) (cycle : ℕ) (words : List ℕ) (e : Refusal) → number_of e ≡ feed_refusal b cycle words
    → (b ≡ next_board b cycle words) × ((Err e ≡ feed_answer b cycle words) × (words ≡ words_after (feed_refusal b cycle words) words))
unfolding feed_answer words_after pick
fed_refused b cycle words e is =
    let refused = refusal_applies e is in
    (sym (next_same b cycle words refused), (rw refused (ap Err (sym (numbered_number e) ∙ ap refusal_numbered is)), rw refused))

-- a feed's result is the same over as many words
module _ (b : Board) (cycle : ℕ) (words more : List ℕ) (same : length words ≡ length more) where
  words_same : words_refusal words ≡ words_refusal more
  unfolding words_refusal
  words_same = rw same

  pub refusal_same : feed_refusal b cycle words ≡ feed_refusal b cycle more
  unfolding feed_refusal
  refusal_same = rw words_same

  pub next_over_lem : next_board b cycle words ≡ next_board b cycle more
  unfolding next_board feed_answer check_on check_answer check_refusal answered
  next_over_lem = rw (refusal_same, words_same)

  pub answer_over : feed_answer b cycle words ≡ feed_answer b cycle more
  unfolding feed_answer check_on check_answer check_refusal answered
  answer_over = rw (refusal_same, words_same)

-- the verdict on a board is never looked at
module _ (b : Board) (shown : Option Verdict) (cycle : ℕ) (words : List ℕ) where
  abbrev pub showing : Board
  showing = record { sheet = b.sheet; cycles = b.cycles; taken = b.taken; verdict = shown }

  pub refusal_unseen : feed_refusal showing cycle words ≡ feed_refusal b cycle words
  unfolding feed_refusal board_refusal cycle_rules signals_on sheet_on
  refusal_unseen = refl

  pub answer_unseen : feed_answer showing cycle words ≡ feed_answer b cycle words
  unfolding feed_answer feed_refusal board_refusal cycle_rules check_on signals_on sheet_on cycles_on
  answer_unseen = refl

  pub next_unseen : feed_refusal b cycle words ≡ 0 → next_board showing cycle words ≡ next_board b cycle words
  unfolding with_cycle
  next_unseen e =
      next_is showing cycle words (refusal_unseen ∙ e)
      ∙ ap (with_cycle b cycle) answer_unseen
      ∙ sym (next_is b cycle words e)

-- a board's arrays keep their lengths
sized_more : (b : Board) (cycle : ℕ) (words : List ℕ) → Sized b → Sized (next_board b cycle words)
sized_more b cycle words sized =
    elim (test (eqb (feed_refusal b cycle words) 0)) [
      | inl e ↦ next_sized b cycle words (eqb-true (feed_refusal b cycle words) 0 e) sized
      | inr e ↦ subst Sized (sym (next_same b cycle words e)) sized
    ]

-- ---- a list of feeds
pub sized_after : (b : Board) (feeds : List Feed) → Sized b → Sized (board_after b feeds)
unfolding board_after
sized_after b [] sized = sized
sized_after b (f ∷ feeds) sized = sized_after (next_board b f.cycle f.words) feeds (sized_more b f.cycle f.words sized)

kept_append : (number cycle : ℕ) (xs ys : List ℕ) → kept number cycle (xs ++ ys) ≡ kept number cycle xs ++ ys
unfolding kept pick
kept_append number cycle xs ys =
    elim (test (eqb number 0)) [
      | inl e ↦ rw e
      | inr e ↦ rw e
    ]

pub after_append : (b : Board) (feeds more : List Feed) → board_after b (feeds ++ more) ≡ board_after (board_after b feeds) more
unfolding board_after
after_append b [] more = refl
after_append b (f ∷ feeds) more = after_append (next_board b f.cycle f.words) feeds more

taken_more : (b : Board) (feeds : List Feed) (f : Feed)
    → taken_from b (feeds ++ (f ∷ [])) ≡ taken_from b feeds ++ kept (feed_refusal (board_after b feeds) f.cycle f.words) f.cycle []
unfolding taken_from board_after
taken_more b [] f = refl
taken_more b (g ∷ feeds) f =
    ap (kept (feed_refusal b g.cycle g.words) g.cycle) (taken_more (next_board b g.cycle g.words) feeds f)
    ∙ kept_append (feed_refusal b g.cycle g.words) g.cycle (taken_from (next_board b g.cycle g.words) feeds) _

-- no feed, and one feed more
pub told_none : (b : Board) → Told b [] b
unfolding board_after taken_from
told_none b =
    record { after = refl; sheet = refl; cycles = sym (append-nil (cycles_on b)); none = λ e. refl; some = λ h. absurd (omega arith) }

module _ (b : Board) (feeds : List Feed) (r : Board) (f : Feed) (told : Told b feeds r) (sized : Sized r) where
  number : ℕ
  number = feed_refusal r f.cycle f.words

  last_taken : taken_from b (feeds ++ (f ∷ [])) ≡ taken_from b feeds ++ kept number f.cycle []
  unfolding number
  last_taken =
      taken_more b feeds f
      ∙ ap (λ (x : Board). taken_from b feeds ++ kept (feed_refusal x f.cycle f.words) f.cycle []) (sym told.after)

  last_after : next_board r f.cycle f.words ≡ board_after b (feeds ++ (f ∷ []))
  unfolding board_after
  last_after = ap (λ (x : Board). next_board x f.cycle f.words) told.after ∙ sym (after_append b feeds (f ∷ []))

  when_refused : eqb number 0 ≡ false → Told b (feeds ++ (f ∷ [])) (next_board r f.cycle f.words)
  unfolding number kept pick
  when_refused e =
      let same = next_same r f.cycle f.words e in
      let taken : taken_from b (feeds ++ (f ∷ [])) ≡ taken_from b feeds = last_taken ∙ rw e (append-nil (taken_from b feeds)) in
      record {
        after = last_after;
        sheet = ap (λ (x : Board). x.sheet) same ∙ told.sheet;
        cycles = ap cycles_on same ∙ told.cycles ∙ ap (λ (l : List ℕ). cycles_on b ++ l) (sym taken);
        none = λ n. same ∙ told.none (sym taken ∙ n);
        some = λ h. subst Shows (sym same) (told.some (subst (λ (l : List ℕ). 0 < length l) taken h));
      }

  when_taken : eqb number 0 ≡ true → Told b (feeds ++ (f ∷ [])) (next_board r f.cycle f.words)
  unfolding number kept pick
  when_taken e =
      let zero_number = eqb-true (feed_refusal r f.cycle f.words) 0 e in
      let taken : taken_from b (feeds ++ (f ∷ [])) ≡ taken_from b feeds ++ (f.cycle ∷ []) = last_taken ∙ rw e in
      let long = ap length taken ∙ length-append (taken_from b feeds) (f.cycle ∷ []) in
      record {
        after = last_after;
        sheet = next_sheet r f.cycle f.words zero_number sized ∙ told.sheet;
        cycles =
            next_cycles r f.cycle f.words zero_number sized
            ∙ ap (λ (l : List ℕ). l ++ (f.cycle ∷ [])) told.cycles
            ∙ append_assoc (cycles_on b) (taken_from b feeds) (f.cycle ∷ [])
            ∙ ap (λ (l : List ℕ). cycles_on b ++ l) (sym taken);
        none = λ n. let none-long = ap length n in absurd (omega arith);
        some = λ h. next_shows r f.cycle f.words zero_number sized;
      }

  pub told_more : Told b (feeds ++ (f ∷ [])) (next_board r f.cycle f.words)
  told_more =
      elim (test (eqb number 0)) [
        | inl e ↦ when_taken e
        | inr e ↦ when_refused e
      ]

  -- what words hold that were lent to all the feeds
  module _ (words : List ℕ) (long : length words ≡ length f.words) (left : words ≡ words_left (taken_from b feeds) f.words) where
    words_refused : eqb number 0 ≡ false → words_after number words ≡ words_left (taken_from b (feeds ++ (f ∷ []))) f.words
    unfolding kept words_after pick
    words_refused e =
        let taken : taken_from b (feeds ++ (f ∷ [])) ≡ taken_from b feeds = last_taken ∙ rw e (append-nil (taken_from b feeds)) in
        rw e (left ∙ ap (λ (l : List ℕ). words_left l f.words) (sym taken))

    words_taken : eqb number 0 ≡ true → words_after number words ≡ words_left (taken_from b (feeds ++ (f ∷ []))) f.words
    unfolding kept words_after words_left pick
    words_taken e =
        let taken : taken_from b (feeds ++ (f ∷ [])) ≡ taken_from b feeds ++ (f.cycle ∷ []) = last_taken ∙ rw e in
        let many = ap length taken ∙ length-append (taken_from b feeds) (f.cycle ∷ []) in
        rw (e, ne_eqb (length (taken_from b (feeds ++ (f ∷ [])))) 0 (λ z. omega arith), long)

    pub words_more : words_after (feed_refusal r f.cycle words) words ≡ words_left (taken_from b (feeds ++ (f ∷ []))) f.words
    unfolding number
    words_more =
        ap (λ (n : ℕ). words_after n words) (refusal_same r f.cycle words f.words long)
        ∙ elim (test (eqb number 0)) [
          | inl e ↦ words_taken e
          | inr e ↦ words_refused e
        ]

-- after any feeds of a board to which others were fed before
told_from : (b : Board) (feeds : List Feed) (r : Board) → Told b feeds r → Sized r → (more : List Feed) → Told b (feeds ++ more) (board_after r more)
unfolding board_after
told_from b feeds r told sized [] = subst (λ (l : List Feed). Told b l r) (sym (append-nil feeds)) told
told_from b feeds r told sized (f ∷ more) =
    subst (λ (l : List Feed). Told b l (board_after (next_board r f.cycle f.words) more)) (append_assoc feeds (f ∷ []) more)
    (told_from b (feeds ++ (f ∷ [])) (next_board r f.cycle f.words) (told_more b feeds r f told sized) (sized_more r f.cycle f.words sized) more)

-- the claim: after any feeds of any board
pub told : (b : Board) → Sized b → (feeds : List Feed) → Told b feeds (board_after b feeds)
told b sized feeds = told_from b [] b (told_none b) sized feeds

-- ---- feeds one after the other in a loop
lent_append : (ws xs ys : List ℕ) → lent ws (xs ++ ys) ≡ lent ws xs ++ lent ws ys
unfolding lent
lent_append ws [] ys = refl
lent_append ws (x ∷ xs) ys = ap (λ (l : List Feed). record { cycle = x; words = ws } ∷ l) (lent_append ws xs ys)

lent_more : (ws cycles : List ℕ) (i : ℕ) → i < length cycles → lent ws (take (i + 1) cycles) ≡ lent ws (take i cycles) ++ (record { cycle = get_or cycles i 0; words = ws } ∷ [])
unfolding lent
lent_more ws cycles i h =
    let next : i + 1 ≡ suc i = omega arith in
    rw next (ap (lent ws) (take-suc cycles i 0 h) ∙ lent_append ws (take i cycles) (get_or cycles i 0 ∷ []))

pub left_long : (taken words : List ℕ) → length (words_left taken words) ≡ length words
unfolding words_left pick
left_long taken words = go (eqb (length taken) 0)
  where
    go : (t : Bool) → length (pick t words (replicate (length words) 0)) ≡ length words
    go true = refl
    go false = length-replicate {A = ℕ} (length words) 0

-- the board r and the words after the first i cycles were fed to b, words ws lent first
pub record Feeding (b : Board) (ws cycles : List ℕ) (i : ℕ) (words : List ℕ) (r : Board) : Type 0 where
  pub bound : i ≤ length cycles
  pub sized : Sized r
  pub told_so_far : Told b (lent ws (take i cycles)) r
  pub left : words ≡ words_left (taken_from b (lent ws (take i cycles))) ws

pub feeding_none : (b : Board) (ws cycles : List ℕ) → Sized b → Feeding b ws cycles 0 ws b
unfolding lent taken_from words_left pick
feeding_none b ws cycles sized = record { bound = omega arith; sized = sized; told_so_far = told_none b; left = refl }

pub feeding_more : (b : Board) (ws cycles : List ℕ) (i : ℕ) (words : List ℕ) (r : Board) (words' : List ℕ) (r' : Board) → Feeding b ws cycles i words r → i < length cycles
    → r' ≡ next_board r (get_or cycles i 0) words → words' ≡ words_after (feed_refusal r (get_or cycles i 0) words) words → Feeding b ws cycles (i + 1) words' r'
feeding_more b ws cycles i words r words' r' f h er ew =
    let cycle = get_or cycles i 0 in
    let feed : Feed = record { cycle = cycle; words = ws } in
    let feeds = lent ws (take i cycles) in
    let long : length words ≡ length ws = ap length f.left ∙ left_long (taken_from b feeds) ws in
    let more = lent_more ws cycles i h in
    let next : r' ≡ next_board r cycle ws = er ∙ next_over_lem r cycle words ws long in
    record {
      bound = omega arith;
      sized = subst Sized (sym next) (sized_more r cycle ws f.sized);
      told_so_far = subst (λ (l : List Feed). Told b l r') (sym more) (subst (Told b (feeds ++ (feed ∷ []))) (sym next) (told_more b feeds r feed f.told_so_far f.sized));
      left =
          ew
          ∙ words_more b feeds r feed f.told_so_far f.sized words long f.left
          ∙ ap (λ (l : List Feed). words_left (taken_from b l) ws) (sym more);
    }

pub feeding_done : (b : Board) (ws cycles : List ℕ) (i : ℕ) (words : List ℕ) (r : Board) → Feeding b ws cycles i words r → length cycles ≤ i
    → Told b (lent ws cycles) r × (words ≡ words_left (taken_from b (lent ws cycles)) ws)
feeding_done b ws cycles i words r f h =
    let whole = take_all i cycles h in
    subst (λ (l : List ℕ). Told b (lent ws l) r × (words ≡ words_left (taken_from b (lent ws l)) ws)) whole (f.told_so_far, f.left)
