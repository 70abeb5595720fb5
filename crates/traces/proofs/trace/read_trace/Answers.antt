-- `traces::trace::read_trace` meets its contract.
use Rattle.std.proofs.Common.{◌≡◌, sym, ◌∙◌, arith, eq-eqb, ne_eqb, le-leb, true}
use borrow.Author.Tests.{lt-leb}
use Rattle.traces.specs.Trace.{cycle_count, trace_framed, trace_versioned, same_signals, cycles_right}
use Rattle.traces.proofs.Answer.{TraceHeaded, trace_framed_long, refused10, refused11, refused12, refused13, trace_accepted}
use Rattle.traces.proofs.trace.read_trace.Lts as lts
use Rattle.traces.proofs.trace.read_trace.Tie as tie
use Rattle.traces.proofs.trace.read_trace.Reads as reads
use Rattle.traces.proofs.trace.read_trace.Goals as goal

-- what is known past the first three tests
rule10 : (c : lts.Else1 tie.the-claims reads.Pre reads.Post) → trace_framed c.before.before.before.args.trace.now ≡ true
unfolding trace_framed
rule10 c = sym c.before.is_framed.ensures ∙ c.if-not-is_framed.false

rule11 : (c : lts.Else2 tie.the-claims reads.Pre reads.Post) → trace_versioned c.before.before.before.before.before.args.trace.now ≡ true
unfolding trace_versioned
rule11 c = eq-eqb _ 1 (sym c.before.byte.ensures.0 ∙ c.if-byte-ne1.false)

head : (c : lts.Else3 tie.the-claims reads.Pre reads.Post) → TraceHeaded c.before.before.before.before.before.before.before.args.s c.before.before.before.before.before.before.before.args.trace.now
unfolding same_signals
head c =
    record {
      rule10 = rule10 c.before.before.before.before;
      rule11 = rule11 c.before.before;
      rule12 = eq-eqb _ _ (sym c.before.byte-2.ensures.0 ∙ c.if-byte-s.false);
    }

pub is_framed-requires : goal.is_framed-requires
is_framed-requires c = omega arith

pub returns-then-not-is_framed : goal.returns-then-not-is_framed
unfolding trace_framed
returns-then-not-is_framed c = refused10 _ _ (sym c.is_framed.ensures ∙ c.if-not-is_framed.true)

pub byte-requires : goal.byte-requires
byte-requires c = omega (arith, trace_framed_long 0 _ (rule10 c.before))

pub returns-then-byte-ne1 : goal.returns-then-byte-ne1
unfolding trace_versioned
returns-then-byte-ne1 c = refused11 _ _ (rule10 c.before.before.before) (ne_eqb _ 1 (λ e. c.if-byte-ne1.true (c.byte.ensures.0 ∙ e)))

pub byte-requires-2 : goal.byte-requires-2
byte-requires-2 c = omega (arith, trace_framed_long 0 _ (rule10 c.before.before.before))

pub returns-then-byte-s : goal.returns-then-byte-s
unfolding same_signals
returns-then-byte-s c = refused12 _ _ (rule10 c.before.before.before.before.before) (rule11 c.before.before.before) (ne_eqb _ _ (λ e. c.if-byte-s.true (c.byte-2.ensures.0 ∙ e)))

pub overflow_sub-n : goal.overflow_sub-n
overflow_sub-n c = omega (arith, trace_framed_long 0 _ (head c.before).rule10)

pub overflow_mul-n : goal.overflow_mul-n
overflow_mul-n c = omega arith

pub overflow_add-n : goal.overflow_add-n
overflow_add-n c = omega arith

pub returns-then-trace-n : goal.returns-then-trace-n
unfolding cycles_right cycle_count
returns-then-trace-n c = refused13 _ _ (head c.before.before) (rw (ne_eqb _ _ c.if-trace-n.true))

pub returns-then-n-lt1 : goal.returns-then-n-lt1
unfolding cycles_right cycle_count
returns-then-n-lt1 c = refused13 _ _ (head c.before.before.before) (rw (eq-eqb _ _ c.if-trace-n.false, lt-leb _ _ c.if-n-lt1.true))

pub returns-then-n-gt-MOST_CYCLES : goal.returns-then-n-gt-MOST_CYCLES
unfolding cycles_right cycle_count
returns-then-n-gt-MOST_CYCLES c = refused13 _ _ (head c.before.before.before.before) (rw (eq-eqb _ _ c.if-trace-n.false, le-leb _ _ c.if-n-lt1.false, lt-leb _ _ c.if-n-gt-MOST_CYCLES.true))

pub cycles_ok-requires : goal.cycles_ok-requires
cycles_ok-requires c = omega arith

pub returns-then-not-cycles_ok : goal.returns-then-not-cycles_ok
unfolding cycles_right cycle_count
returns-then-not-cycles_ok c = refused13 _ _ (head c.before.before.before.before.before.before) (rw (eq-eqb _ _ c.if-trace-n.false, le-leb _ _ c.if-n-lt1.false, le-leb _ _ c.if-n-gt-MOST_CYCLES.false) (sym c.cycles_ok.ensures ∙ c.if-not-cycles_ok.true))

pub returns : goal.returns
unfolding cycles_right cycle_count
returns c = trace_accepted _ _ (head c.before.before.before.before.before.before) (rw (eq-eqb _ _ c.if-trace-n.false, le-leb _ _ c.if-n-lt1.false, le-leb _ _ c.if-n-gt-MOST_CYCLES.false) (sym c.cycles_ok.ensures ∙ c.if-not-cycles_ok.false))
