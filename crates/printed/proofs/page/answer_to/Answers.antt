-- `printed::page::answer_to` meets its contract.
use Rattle.std.proofs.Common.{◌∙◌, ◌-◌, length, take, drop}
use Rattle.printed.proofs.Answers.{first_part, last_part, answer_is}
use Rattle.printed.proofs.page.answer_to.Goals as goal

pub returns : goal.returns
returns c =
    let input = c.args.input.now in
    let from = c.body_start-from in
    let body = take (length input - from.result) (drop from.result input) in
    let end = c.split-end.result in
    let words = c.lent_words-words.result in
    c.table.ensures.value
    ∙ answer_is input body (take (end - 0) (drop 0 body)) (take (length body - end) (drop end body)) _ _ _ _ end words (last_part input from.result ∙ from.ensures.0) c.split-end.ensures.0 (first_part body end) (last_part body end)
    c.word_at-node.ensures.0 c.byte_at-p0.ensures.0 c.byte_at-p1.ensures.0 c.byte_at-p2.ensures.0 c.lent_words-words.ensures
