-- `board::feed::admit` meets its contract.
use Rattle.std.proofs.Common.{sym, ◌∙◌, ap}
use Rattle.std.proofs.lemmas.Result.{err_from_is_err_and}
use Rattle.stored.specs.Sheet.{sheet_answer}
use Rattle.board.proofs.Admission.{sheet_part, admit_sheet, admit_held, admit_words, admit_signals, admit_full, admitted}
use Rattle.board.proofs.feed.admit.Goals as goal

pub returns-in_err-s : goal.returns-in_err-s
returns-in_err-s c =
    let a = c.args in
    let p = err_from_is_err_and c.from_residual.result c.from_residual.ensures.1 in
    let read = c.in_err-s.ensures ∙ ap sheet_answer (sheet_part a.board _ c.split-end.ensures.0) in
    rw (p.1, p.2) (admit_sheet a.board a.cycle a.words.now _ (sym read))

pub returns-then-not-are_held : goal.returns-then-not-are_held
returns-then-not-are_held c =
    let a = c.args in
    let accepted = sym (c.in_ok-s.ensures ∙ ap sheet_answer (sheet_part a.board _ c.split-end.ensures.0)) in
    let held = c.are_held in
    admit_held a.board a.cycle a.words.now _ accepted held.result held.ensures (c.if-not-are_held.true)

pub returns-then-words-lt-LEAST_WORDS : goal.returns-then-words-lt-LEAST_WORDS
returns-then-words-lt-LEAST_WORDS c =
    let a = c.args in
    let accepted = sym (c.in_ok-s.ensures ∙ ap sheet_answer (sheet_part a.board _ c.split-end.ensures.0)) in
    let held = c.are_held in
    admit_words a.board a.cycle a.words.now _ accepted held.result held.ensures (c.if-not-are_held.false) c.if-words-lt-LEAST_WORDS.true

pub returns-then-not-is_below : goal.returns-then-not-is_below
returns-then-not-is_below c =
    let a = c.args in
    let accepted = sym (c.in_ok-s.ensures ∙ ap sheet_answer (sheet_part a.board _ c.split-end.ensures.0)) in
    let held = c.are_held in
    let fits = c.is_below in
    admit_signals a.board a.cycle a.words.now _ accepted held.result held.ensures (c.if-not-are_held.false) c.if-words-lt-LEAST_WORDS.false fits.result fits.ensures (c.if-not-is_below.true)

pub returns-then-taken-ge-MOST_CYCLES : goal.returns-then-taken-ge-MOST_CYCLES
returns-then-taken-ge-MOST_CYCLES c =
    let a = c.args in
    let accepted = sym (c.in_ok-s.ensures ∙ ap sheet_answer (sheet_part a.board _ c.split-end.ensures.0)) in
    let held = c.are_held in
    let fits = c.is_below in
    admit_full a.board a.cycle a.words.now _ accepted held.result held.ensures (c.if-not-are_held.false) c.if-words-lt-LEAST_WORDS.false fits.result fits.ensures (c.if-not-is_below.false) c.if-taken-ge-MOST_CYCLES.true

pub returns : goal.returns
returns c =
    let a = c.args in
    let accepted = sym (c.in_ok-s.ensures ∙ ap sheet_answer (sheet_part a.board _ c.split-end.ensures.0)) in
    let held = c.are_held in
    let fits = c.is_below in
    admitted a.board a.cycle a.words.now _ accepted held.result held.ensures (c.if-not-are_held.false) c.if-words-lt-LEAST_WORDS.false fits.result fits.ensures (c.if-not-is_below.false) c.if-taken-ge-MOST_CYCLES.false
