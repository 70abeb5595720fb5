-- A packed answer of the check is read back as it was.
use Rattle.std.proofs.Common.{ℕ, ◌+◌, ◌*◌, ◌/◌, ◌%◌, ◌<◌, false, List, ◌≡◌, refl, ◌∙◌, ap, ap₂, arith, eqb, Result, Ok, Err, IfOk}
use Rattle.stored.specs.Tree.{pick}
use Rattle.checker.specs.declared.check.Place.{Place}
use Rattle.checker.specs.declared.check.Finding.{Finding}
use Rattle.checker.specs.declared.check.Finding.TheVariants.{Excused, Broken, Holds}
use Rattle.stored.specs.declared.refusal.Refusal.{Refusal}
use Rattle.stored.specs.Refusal.{number_of, refusal_numbered}
use Rattle.stored.proofs.Refusals.{numbered_number}
use Rattle.checker.specs.declared.check.Verdict.{Verdict}
use Rattle.checker.specs.Check.{check_answer}
use Rattle.checker.specs.Small.{SmallFinding, SmallVerdict}
use Rattle.checker.proofs.Bounds.{verdict_fits}
use Rattle.exports.specs.Packed.{packed_place, packed_finding, findings, packed, unpacked_place, unpacked_finding, unpacked}
use Rattle.exports.proofs.Packing.{finding_small}

place_back : (p : Place) → p.i < 64 → p.j < 64 → p.k < 64 → unpacked_place (packed_place p) ≡ p
unfolding unpacked_place packed_place
place_back p hi hj hk =
    let v : ℕ = p.clause * 262144 + p.i * 4096 + p.j * 64 + p.k in
    let e0 : v / 262144 ≡ p.clause = omega arith in
    let e1 : v / 4096 % 64 ≡ p.i = omega arith in
    let e2 : v / 64 % 64 ≡ p.j = omega arith in
    let e3 : v % 64 ≡ p.k = omega arith in
    rw (e0, e1, e2, e3)

-- the tag of a finding and its value
tag_of : (tag value : ℕ) → tag < 256 → (tag + value * 256) % 256 ≡ tag
tag_of tag value h = omega arith

value_of : (tag value : ℕ) → tag < 256 → (tag + value * 256) / 256 ≡ value
value_of tag value h = omega arith

finding_back : (f : Finding) → SmallFinding f → unpacked_finding (packed_finding f) ≡ f
unfolding unpacked_finding packed_finding pick
finding_back (Excused clause) h = rw (tag_of 1 clause (omega arith), value_of 1 clause (omega arith))
finding_back (Broken p) h =
    rw (tag_of 2 (packed_place p) (omega arith), value_of 2 (packed_place p) (omega arith)) (ap Broken (place_back p h.1 h.2 h.3))
finding_back Holds h = refl

-- no finding has the tag of a refusal
finding_tag : (f : Finding) → eqb (packed_finding f % 256) 0 ≡ false
unfolding packed_finding
finding_tag (Excused clause) = rw (tag_of 1 clause (omega arith))
finding_tag (Broken p) = rw (tag_of 2 (packed_place p) (omega arith))
finding_tag Holds = refl

-- the halves of a number
lower_tag : (x y : ℕ) → (x + y * findings) % 256 ≡ x % 256
lower_tag x y = omega arith

lower : (x y : ℕ) → x < findings → (x + y * findings) % findings ≡ x
lower x y h = omega arith

upper : (x y : ℕ) → x < findings → (x + y * findings) / findings ≡ y
upper x y h = omega arith

pub back : (a : Result Verdict Refusal) → IfOk a SmallVerdict → unpacked (packed a) ≡ a
unfolding unpacked packed pick
back (Err e) h =
    let tag : number_of e * 256 % 256 ≡ 0 = omega arith in
    let value : number_of e * 256 / 256 ≡ number_of e = omega arith in
    rw (tag, value) (ap Err (numbered_number e))
back (Ok v) h =
    let x = packed_finding v.finding in
    let small = finding_small v.finding h.0 in
    rw (lower_tag x v.advice, finding_tag v.finding)
    (ap₂ (λ (f : Finding) (y : ℕ). Ok (record { finding = f; advice = y }))
    (ap unpacked_finding (lower x v.advice small) ∙ finding_back v.finding h.0)
    (upper x v.advice small))

pub unpacked_is : (s t words : List ℕ) (r : ℕ) → r ≡ packed (check_answer s t words) → unpacked r ≡ check_answer s t words
unpacked_is s t words r e = ap unpacked e ∙ back (check_answer s t words) (verdict_fits s t words)
