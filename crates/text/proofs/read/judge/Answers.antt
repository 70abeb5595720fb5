-- `text::read::judge` meets its contract.
use Rattle.std.proofs.Common.{sym}
use Rattle.std.proofs.lemmas.Result.{err_from_is_err_and}
use Rattle.propositions.specs.Nodes.{so_far}
use Rattle.text.specs.Parts.{clauses_so_far}
use Rattle.text.proofs.Text.{many_nodes, many_clauses, by_sheet, by_output, by_none}
use Rattle.text.proofs.read.judge.Goals as goal

pub returns-then-nodes-gt-MOST_NODES : goal.returns-then-nodes-gt-MOST_NODES
returns-then-nodes-gt-MOST_NODES c =
    let a = c.args in
    many_nodes a.said.signals a.said.names (so_far a.nodes.now) (clauses_so_far a.clauses.now) a.lent c.if-nodes-gt-MOST_NODES.true

pub returns-then-clauses-gt-MOST_CLAUSES : goal.returns-then-clauses-gt-MOST_CLAUSES
returns-then-clauses-gt-MOST_CLAUSES c =
    let a = c.args in
    many_clauses a.said.signals a.said.names (so_far a.nodes.now) (clauses_so_far a.clauses.now) a.lent c.if-nodes-gt-MOST_NODES.false c.if-clauses-gt-MOST_CLAUSES.true

pub returns-in_err-read_draft : goal.returns-in_err-read_draft
returns-in_err-read_draft c =
    let a = c.args in
    let p = err_from_is_err_and c.from_residual.result c.from_residual.ensures.1 in
    rw (p.1, p.2)
    (by_sheet a.said.signals a.said.names (so_far a.nodes.now) (clauses_so_far a.clauses.now) a.lent c.if-nodes-gt-MOST_NODES.false c.if-clauses-gt-MOST_CLAUSES.false _ (sym c.in_err-read_draft.ensures))

pub returns-then-lent-lt-LEAST_OUTPUT : goal.returns-then-lent-lt-LEAST_OUTPUT
returns-then-lent-lt-LEAST_OUTPUT c =
    let a = c.args in
    by_output a.said.signals a.said.names (so_far a.nodes.now) (clauses_so_far a.clauses.now) a.lent c.if-nodes-gt-MOST_NODES.false c.if-clauses-gt-MOST_CLAUSES.false _
    (sym c.in_ok-read_draft.ensures) c.if-lent-lt-LEAST_OUTPUT.true

pub returns : goal.returns
returns c =
    let a = c.args in
    by_none a.said.signals a.said.names (so_far a.nodes.now) (clauses_so_far a.clauses.now) a.lent c.if-nodes-gt-MOST_NODES.false c.if-clauses-gt-MOST_CLAUSES.false _
    (sym c.in_ok-read_draft.ensures) c.if-lent-lt-LEAST_OUTPUT.false
