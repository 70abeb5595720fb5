-- `printed::wall::minute_line` meets its contract.
use Rattle.std.proofs.Common.{ℕ, sym, ◌∙◌, ap, subst, replicate, Result, IfOk}
use lib.ListN.{length-replicate}
use Rattle.stored.specs.Layout.{least_words}
use Rattle.stored.specs.declared.refusal.Refusal.{Refusal}
use Rattle.checker.specs.declared.check.Verdict.{Verdict}
use Rattle.checker.specs.Small.{SmallVerdict}
use Rattle.board.specs.Board.{feed_answer, next_board}
use Rattle.board.proofs.Answers.{feed_fits}
use Rattle.board.proofs.Feeds.{next_over_lem, answer_over}
use Rattle.printed.specs.Line.{line_text}
use Rattle.lines.specs.Output.{Holds}
use Rattle.printed.specs.Wall.{minute_answer, minute_board}
use Rattle.printed.proofs.wall.minute_line.Goals as goal

pub answer_line-line-requires : goal.answer_line-line-requires
answer_line-line-requires c =
    subst (λ (x : Result Verdict Refusal). IfOk x SmallVerdict) (sym c.feed-fed.ensures.answer_value) (feed_fits _ _ _)

pub returns : goal.returns
unfolding minute_answer minute_board
returns c =
    let a = c.args in
    let cycle = c.word_at-cycle in
    let words = c.lent_words-words in
    let fed = c.feed-fed.ensures in
    let long = sym words.ensures ∙ sym (length-replicate {A = ℕ} least_words 0) in
    let enough = replicate {A = ℕ} least_words 0 in
    let told = fed.answer_value ∙ answer_over a.board cycle.result words.result enough long ∙ ap (λ (w : ℕ). feed_answer a.board w enough) cycle.ensures.0 in
    record {
      board_value = fed.board_value ∙ next_over_lem a.board cycle.result words.result enough long ∙ ap (λ (w : ℕ). next_board a.board w enough) cycle.ensures.0;
      line_value = subst (λ (x : Result Verdict Refusal). Holds c.answer_line-line.result (line_text x)) told c.answer_line-line.ensures;
    }
