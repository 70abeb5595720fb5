-- The shared nodes come at their numbers.
use Rattle.std.proofs.Common.{ℕ, ◌+◌, ◌*◌, ◌<◌, List, inl, inr, ◌≡◌, sym, ◌∙◌, subst, arith, eqb-true, eqb}
use Rattle.std.proofs.lemmas.Bool.{eqb-false}
use Rattle.semantics.specs.Proposition.{name}
use Rattle.semantics.specs.Formula.{Formula, equal, slen, scount}
use Rattle.semantics.specs.Translation.{anywhere, extended, nothing}
use Rattle.semantics.proofs.Tests.{test}
use Rattle.stored.specs.Sheet.{header_of}
use Rattle.stored.specs.Tree.{comparison_of}
use Rattle.plans.specs.Bound.{most_emitted}
use Rattle.plans.specs.Emission.{count, Good, Step, HasProposition, Has, Emits, Shared}
use Rattle.plans.specs.Plan.{node, op_name, op_length, op_count, q_below, q_equal, q_at_least, q_above, Put}
use Rattle.plans.proofs.Steps.{steps, has_kept, proposition_kept, shared_kept, put_place}
use Rattle.plans.proofs.Nodes.{length_new, name_new, count_new}

-- a length comes as the next node
record Length (x y : List ℕ) (r q : ℕ) : Type 0 where
  emits : Emits x y r 1 (slen (comparison_of q) 0)
  place : r ≡ count x

length_next : {x y : List ℕ} {r : ℕ} (q : ℕ) → q < 5 → Good x → count x < most_emitted → Put (node op_length q 0 0) x y r → Length x y r q
length_next q l good room put =
    record {
      emits = length_new good room l (omega arith) put;
      place = put_place good room (omega arith) (omega arith) (omega arith) (omega arith) put;
    }

has_at : {y : List ℕ} {a : ℕ} {f : Formula} (b : ℕ) → a ≡ b → Has y a f → Has y b f
has_at {y} {f = f} b e h = subst (λ (i : ℕ). Has y i f) e h

pub shared_start : {x y z w : List ℕ} {i j k : ℕ} → Good x → count x ≡ 0 → Put (node op_length q_at_least 0 0) x y i → Put (node op_length q_above 0 0) y z j
    → Put (node op_length q_below 0 0) z w k → (Shared w 0) × (count w ≡ 3) × (Step x w 3)
unfolding anywhere extended nothing comparison_of
shared_start good e p q r =
    let a = length_next q_at_least (omega arith) good (omega arith) p in
    let b = length_next q_above (omega arith) a.emits.step.good (omega arith) q in
    let c = length_next q_below (omega arith) b.emits.step.good (omega arith) r in (
      record {
        good = c.emits.step.good;
        everywhere = has_at 0 (omega arith) (has_kept (steps b.emits.step c.emits.step) a.emits.has);
        longer = has_at 1 (omega arith) (has_kept c.emits.step b.emits.has);
        never = has_at 2 (omega arith) c.emits.has;
        named = λ u l. absurd (omega arith);
        once = λ u l. absurd (omega arith);
      },
      omega arith,
      steps (steps a.emits.step b.emits.step) c.emits.step,
    )

pub shared_next : {x y z : List ℕ} {p r : ℕ} (u : ℕ) → Shared x u → count x ≡ 3 + 2 * u → u < (header_of x).names
    → Put (node op_name 0 u 0) x y p → Put (node op_count q_equal p 1) y z r → (Shared z (u + 1)) × (count z ≡ 3 + 2 * (u + 1)) × (Step x z 2)
shared_next {x} {y} {z} {p} {r} u h e less put put' =
    let few = h.good.few_names in
    let a = name_new h.good (omega arith) less put in
    let b = count_new a.step.good (omega arith) a.has put' in
    let s = steps a.step b.step in
    let old = shared_kept u s h in
    let at : p ≡ count x
    = put_place h.good (omega arith) (omega arith) (omega arith) (omega arith) (omega arith) put
    in
    let at' : r ≡ count y
    = put_place a.step.good (omega arith) (omega arith) (omega arith) (omega arith) (omega arith) put'
    in
    let here : HasProposition z (3 + 2 * u) (name u) = subst (λ (i : ℕ). HasProposition z i (name u)) (at ∙ e) (proposition_kept b.step a.has) in
    let there : Has z (4 + 2 * u) (scount equal (name u) 1) = has_at _ (omega arith) b.has in (
      record {
        good = s.good;
        everywhere = old.everywhere;
        longer = old.longer;
        never = old.never;
        named =
            λ v l. elim (test (eqb v u)) [
              | inl q ↦ subst (λ (w : ℕ). HasProposition z (3 + 2 * w) (name w)) (sym (eqb-true v u q)) here
              | inr q ↦ let other = eqb-false v u q in old.named v (omega arith)
            ];
        once =
            λ v l. elim (test (eqb v u)) [
              | inl q ↦ subst (λ (w : ℕ). Has z (4 + 2 * w) (scount equal (name w) 1)) (sym (eqb-true v u q)) there
              | inr q ↦ let other = eqb-false v u q in old.once v (omega arith)
            ];
      },
      omega arith,
      s,
    )
