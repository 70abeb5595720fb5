-- Request 7, "A broken clause doesn't heal": what the verdict on a trace's first cycles says of the verdict on the whole of it.
use Rattle.std.specs.Prelude.{ℕ, Bool, true, false, ◌&&◌, ◌||◌, ◌≡◌, leb, ltb, eqb}
use Rattle.semantics.specs.Proposition.{bit}
use Rattle.semantics.specs.Verdict.{Place, Finding, Excused, Broken, Holds, Verdict}

-- x is less than y, or they are equal and the rest passes
unfoldable pub less_or : ℕ → ℕ → Bool → Bool
less_or x y rest = ltb x y || eqb x y && rest

-- place q is p or comes before it, by clause, then i, then j, then k
unfoldable pub not_later : Place → Place → Bool
not_later q p = less_or q.clause p.clause (less_or q.i p.i (less_or q.j p.j (leb q.k p.k)))

-- Where the first cycles of a trace have the one finding, the trace may have the other. Broken stays Broken, there or at an earlier place, or
-- becomes Excused; Excused stays Excused, by that assumption or an earlier one; Holds may become anything.
unfoldable pub may_become : Finding → Finding → Bool
may_become (Excused n) (Excused m) = leb m n
may_become (Excused n) (Broken q) = false
may_become (Excused n) Holds = false
may_become (Broken p) (Excused m) = true
may_become (Broken p) (Broken q) = not_later q p
may_become (Broken p) Holds = false
may_become Holds f = true

-- what lasts of verdict v in verdict w, on more cycles: its finding as above, and every bit of its advice
pub record Lasting (v w : Verdict) : Type 0 where
  pub finding : may_become v.finding w.finding ≡ true
  pub advice : (k : ℕ) → bit v.advice k ≡ true → bit w.advice k ≡ true
