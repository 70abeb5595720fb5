-- What a plan tells, and by how many nodes: one law an op, of any bytes after y.
use Rattle.std.proofs.Common.{ℕ, zero, suc, ◌+◌, ◌≤◌, ◌<◌, List, ◌≡◌, refl, arith}
use Rattle.semantics.specs.Proposition.{Proposition, signal, name, negated}
use Rattle.semantics.specs.Formula.{Formula, point, stretch, unit, chop, conjunction, disjunction, slen, scount, at, negation, for_some, at_most, equal, at_least}
use Rattle.semantics.specs.Translation.{anywhere, extended}
use Rattle.stored.specs.Tree.{comparison_of}
use Rattle.stored.specs.Sheet.{header_of}
use Rattle.plans.specs.Bound.{most_emitted}
use Rattle.plans.specs.Emission.{count, Step, Has, Emits, Ready}
use Rattle.plans.specs.Plan.{node, op_length, q_at_least, Put, WroteProposition, named, signalled, negated_of}
use Rattle.plans.specs.Plan.{Wrote, there, everywhere, longer, marked, no_more, exactly, no_less, pointed, stretched, united, chopped, conjoined, disjoined, denied, columned}
use Rattle.plans.proofs.Steps.{stay, steps, has_kept, proposition_kept, ready_kept, after, within_cost}
use Rattle.plans.proofs.Nodes.{EmitsProposition, chop_new, and_new, or_new, not_new, some_new, point_new, stretch_new, unit_new, length_new, signal_new, negated_new}

-- ---- plans as they are written
-- a length above 0 is not shared
pub at_least_lem : {x y : List ℕ} {r : ℕ} (n : ℕ) → (n ≡ 0 → ⊥) → Put (node op_length q_at_least 0 n) x y r → Wrote x y r (slen at_least n)
at_least_lem zero h put = absurd (h refl)
at_least_lem (suc n) h put = no_less put

-- ---- what they tell
-- wherever plan p is written after y, with room for k nodes, it takes at most k and its node is formula f
abbrev pub Tells : List ℕ → Formula → Formula → ℕ → Type 0
Tells y p f k = (x z : List ℕ) (r j : ℕ) → Step y x j → count x + k ≤ most_emitted → Wrote x z r p → Emits x z r k f

abbrev pub TellsProposition : List ℕ → Proposition → ℕ → Type 0
TellsProposition y p k = (x z : List ℕ) (r j : ℕ) → Step y x j → count x + k ≤ most_emitted → WroteProposition x z r p → EmitsProposition x z r k p

-- what two plans tell, one after the other
record Both (x z : List ℕ) (a b k : ℕ) (f g : Formula) : Type 0 where
  step : Step x z k
  first : Has z a f
  second : Has z b g

module _ {y : List ℕ} where
  pub tells_within : {p f : Formula} {j : ℕ} (k : ℕ) → j ≤ k → Tells y p f j → Tells y p f k
  tells_within k h t x z r i step room w = within_cost k h (t x z r i step (omega arith) w)

  -- ---- nodes that are there
  pub told : {a : ℕ} {f : Formula} → Has y a f → Tells y (at a) f 0
  told h x z r i step room there = record { step = stay step.good; has = has_kept step h }

  pub everywhere_told : Ready y → Tells y anywhere anywhere 0
  unfolding anywhere
  everywhere_told h x z r i step room everywhere = record { step = stay step.good; has = (ready_kept step h).everywhere }

  pub longer_told : Ready y → Tells y extended extended 0
  unfolding extended
  longer_told h x z r i step room longer = record { step = stay step.good; has = (ready_kept step h).longer }

  pub once_told : {u : ℕ} → Ready y → u < (header_of y).names → Tells y (scount equal (name u) 1) (scount equal (name u) 1) 0
  once_told h l x z r i step room marked = record { step = stay step.good; has = has_kept step (h.once _ l) }

  pub name_told : {u : ℕ} → Ready y → u < (header_of y).names → TellsProposition y (name u) 0
  name_told h l x z r i step room named = record { step = stay step.good; has = proposition_kept step (h.named _ l) }

  -- ---- one node more, over one formula or two
  pub not_told : {p f : Formula} {k : ℕ} → Tells y p f k → Tells y (negation p) (negation f) (k + 1)
  not_told s x z r i step room (denied w put) =
      let a = s _ _ _ _ step (omega arith) w in
      after a.step (not_new a.step.good (omega arith) a.has put)

  pub some_told : {p f : Formula} {k : ℕ} (u : ℕ) → u < (header_of y).names → Tells y p f k → Tells y (for_some u p) (for_some u f) (k + 1)
  some_told u l s x z r i step room (columned w put) =
      let a = s _ _ _ _ step (omega arith) w in
      after a.step (some_new a.step.good (omega arith) u (omega (arith, step.names, a.step.names)) a.has put)

  two : {x m z : List ℕ} {a b i j k : ℕ} {p q f g : Formula} → Tells y p f j → Tells y q g k
      → Step y x i → count x + (j + k + 1) ≤ most_emitted → Wrote x m a p → Wrote m z b q → Both x z a b (j + k) f g
  two s t step room v w =
      let d = s _ _ _ _ step (omega arith) v in
      let e = t _ _ _ _ (steps step d.step) (omega arith) w in
      record { step = steps d.step e.step; first = has_kept e.step d.has; second = e.has }

  pub chop_told : {p q f g : Formula} {j k : ℕ} → Tells y p f j → Tells y q g k → Tells y (chop p q) (chop f g) (j + k + 1)
  chop_told s t x z r i step room (chopped v w put) =
      let b = two s t step room v w in
      after b.step (chop_new b.step.good (omega arith) b.first b.second put)

  pub and_told : {p q f g : Formula} {j k : ℕ} → Tells y p f j → Tells y q g k → Tells y (conjunction p q) (conjunction f g) (j + k + 1)
  and_told s t x z r i step room (conjoined v w put) =
      let b = two s t step room v w in
      after b.step (and_new b.step.good (omega arith) b.first b.second put)

  pub or_told : {p q f g : Formula} {j k : ℕ} → Tells y p f j → Tells y q g k → Tells y (disjunction p q) (disjunction f g) (j + k + 1)
  or_told s t x z r i step room (disjoined v w put) =
      let b = two s t step room v w in
      after b.step (or_new b.step.good (omega arith) b.first b.second put)

  -- ---- over a proposition
  pub point_told : {p : Proposition} {k : ℕ} → TellsProposition y p k → Tells y (point p) (point p) (k + 1)
  point_told s x z r i step room (pointed w put) =
      let a = s _ _ _ _ step (omega arith) w in
      after a.step (point_new a.step.good (omega arith) a.has put)

  pub stretch_told : {p : Proposition} {k : ℕ} → TellsProposition y p k → Tells y (stretch p) (stretch p) (k + 1)
  stretch_told s x z r i step room (stretched w put) =
      let a = s _ _ _ _ step (omega arith) w in
      after a.step (stretch_new a.step.good (omega arith) a.has put)

  pub unit_told : {p : Proposition} {k : ℕ} → TellsProposition y p k → Tells y (unit p) (unit p) (k + 1)
  unit_told s x z r i step room (united w put) =
      let a = s _ _ _ _ step (omega arith) w in
      after a.step (unit_new a.step.good (omega arith) a.has put)

  pub negated_told : {p : Proposition} {k : ℕ} → TellsProposition y p k → TellsProposition y (negated p) (k + 1)
  negated_told s x z r i step room (negated_of w put) =
      let a = s _ _ _ _ step (omega arith) w in
      let e = negated_new a.step.good (omega arith) a.has put in
      record { step = steps a.step e.step; has = e.has }

  -- ---- over nothing
  pub signal_told : {k : ℕ} → k < (header_of y).signals → TellsProposition y (signal k) 1
  signal_told l x z r i step room (signalled put) = signal_new step.good (omega arith) (omega (arith, step.signals)) put

  pub exactly_told : {n : ℕ} → n < 65536 → Tells y (slen equal n) (slen equal n) 1
  unfolding comparison_of
  exactly_told l x z r i step room (exactly put) = length_new step.good (omega arith) (omega arith) l put

  pub no_more_told : {n : ℕ} → n < 65536 → Tells y (slen at_most n) (slen at_most n) 1
  unfolding comparison_of
  no_more_told l x z r i step room (no_more put) = length_new step.good (omega arith) (omega arith) l put

  pub no_less_told : {n : ℕ} → Ready y → n < 65536 → Tells y (slen at_least n) (slen at_least n) 1
  unfolding comparison_of anywhere
  no_less_told h l x z r i step room everywhere = within_cost 1 (omega arith) (everywhere_told h x x 0 i step (omega arith) everywhere)
  no_less_told h l x z r i step room (no_less put) = length_new step.good (omega arith) (omega arith) l put
