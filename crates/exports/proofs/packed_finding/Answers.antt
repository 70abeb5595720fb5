-- `exports::packed_finding` meets its contract.
use Rattle.std.proofs.Common.{ℕ, ◌+◌, ◌*◌, ◌<◌, ◌≡◌, sym, ◌∙◌, ap, subst, rules}
use Rattle.checker.specs.declared.check.Finding.{Finding}
use Rattle.checker.specs.Small.{SmallPlace, SmallFinding}
use Rattle.exports.specs.Packed.{packed_finding, findings}
use Rattle.exports.proofs.Packing.{place_small, finding_small}
use Rattle.exports.proofs.packed_finding.Goals as goal

-- the number of a finding, which takes no more than the lower half
packed_as : (r : ℕ) (f : Finding) → SmallFinding f → r ≡ packed_finding f → (r ≡ packed_finding f) × (r < findings)
packed_as r f h e = (e, subst (λ (x : ℕ). x < findings) (sym e) (finding_small f h))

pub overflow_mul-result-in-Broken : goal.overflow_mul-result-in-Broken
overflow_mul-result-in-Broken c =
    let small : SmallPlace c.in-Broken.place = subst (λ (x : Finding). SmallFinding x) c.in-Broken.is c.requires in
    let bound = place_small c.in-Broken.place small in
    let is = c.packed_place.ensures in
    search rules

pub overflow_add-result-in-Broken : goal.overflow_add-result-in-Broken
overflow_add-result-in-Broken c =
    let small : SmallPlace c.in-Broken.place = subst (λ (x : Finding). SmallFinding x) c.in-Broken.is c.requires in
    let bound = place_small c.in-Broken.place small in
    let is = c.packed_place.ensures in
    search rules

pub returns-in-Excused : goal.returns-in-Excused
unfolding packed_finding
returns-in-Excused c =
    packed_as _ c.args.finding c.requires (sym (ap packed_finding c.in-Excused.is))

pub returns-in-Broken : goal.returns-in-Broken
unfolding packed_finding
returns-in-Broken c =
    packed_as _ c.args.finding c.requires
    (ap (λ (n : ℕ). 2 + n * 256) c.packed_place.ensures ∙ sym (ap packed_finding c.in-Broken.is))

pub returns-in-Holds : goal.returns-in-Holds
unfolding packed_finding
returns-in-Holds c =
    packed_as _ c.args.finding c.requires (sym (ap packed_finding c.in-Holds.is))
