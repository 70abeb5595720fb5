-- `board::offer::watch` meets its contract.
use Rattle.std.proofs.Common.{sym, ◌∙◌, ap, Err}
use Rattle.std.proofs.lemmas.Result.{err_from_is_err_and}
use Rattle.board.proofs.Watched.{watch_refused, watch_opened}
use Rattle.board.proofs.offer.watch.Goals as goal

pub returns-in_err-new-clause-value : goal.returns-in_err-new-clause-value
returns-in_err-new-clause-value c =
    let a = c.args in
    let p = err_from_is_err_and c.from_residual.result c.from_residual.ensures.1 in
    p.1 ∙ ap Err p.2 ∙ (watch_refused a.sheet.now a.words.now a.cycles.now _ (sym c.in_err-new.ensures)).0

pub returns-in_err-new-clause-words_after : goal.returns-in_err-new-clause-words_after
returns-in_err-new-clause-words_after c =
    let a = c.args in
    (watch_refused a.sheet.now a.words.now a.cycles.now _ (sym c.in_err-new.ensures)).1

pub returns : goal.returns
returns c =
    let a = c.args in
    let fed = c.feed_all.ensures in
    let z = watch_opened a.sheet.now a.words.now a.cycles.now _ _ _ (sym c.in_ok-new.ensures) fed.told fed.words_after in
    record { value = z.value; told = z.told_new; watched = z.watched_new; words_after = z.left }
