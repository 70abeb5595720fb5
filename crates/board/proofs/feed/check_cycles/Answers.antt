-- `board::feed::check_cycles` meets its contract.
use Rattle.std.proofs.Common.{ℕ, ◌-◌, List, ◌≡◌, subst, arith}
use Rattle.traces.proofs.Written.{trace_front}
use Rattle.checker.specs.Table.{words_after}
use Rattle.checker.specs.Check.{check_answer, check_refusal}
use Rattle.board.proofs.feed.check_cycles.Goals as goal

pub put_trace-requires : goal.put_trace-requires
put_trace-requires c = let pre = c.requires in (pre.0, pre.1, omega (arith, pre.1))

pub trace_end-end-requires : goal.trace_end-end-requires
trace_end-end-requires c = c.requires.1

pub slice_bounds-check-end : goal.slice_bounds-check-end
slice_bounds-check-end c =
    let size = c.put_trace.auto.out in
    let most = c.requires.1 in
    omega (arith, c.trace_end-end.ensures, size, most)

pub returns : goal.returns
returns c =
    let a = c.args in
    let front = trace_front _ _ a.s a.cycles.now (c.trace_end-end.result - 0) (omega (arith, c.requires.1)) c.put_trace.ensures (omega (arith, c.trace_end-end.ensures)) in
    let told = c.check.ensures in
    let all =
    subst (λ (t : List ℕ). (c.check.result ≡ check_answer a.sheet.now t a.words.now) × (c.check.new.words ≡ words_after (check_refusal a.sheet.now t a.words.now) a.words.now)) front (told.value, told.words_after) in
    record { value = all.0; words_after = all.1 }
