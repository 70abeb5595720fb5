-- Packed numbers fit in 64 bits, and are unpacked again.
use Rattle.std.proofs.Common.{ℕ, ◌+◌, ◌*◌, ◌/◌, ◌%◌, ◌≤◌, ◌<◌, Bool, true, false, cond, ◌&&◌, List, ◌≡◌, refl, sym, ◌∙◌, ap, subst, mul-le-mul, arith, eqb-true, eqb, ltb, leb, length, take, Result, Ok, Err}
use Rattle.stored.specs.declared.refusal.Refusal.{Refusal}
use Rattle.stored.specs.Refusal.{number_of, answer_number}
use Rattle.stored.proofs.Refusals.{numbered_number}
use Rattle.stored.specs.Layout.{nodes_end, clauses_end, least_output}
use Rattle.semantics.proofs.Tests.{and_right}
use Rattle.semantics.proofs.Cycles.{count_most}
use Rattle.stored.specs.Sheet.{header_of, nodes_of, sized, sheet_refusal}
use Rattle.stored.specs.Tree.{pick}
use Rattle.stored.specs.Emitted.{is_emitted, emitted_counted}
use Rattle.stored.proofs.Accepted.{opened}
use Rattle.stored.proofs.Emitted.{emitted_opened}
use Rattle.checker.specs.declared.check.Place.{Place}
use Rattle.checker.specs.declared.check.Finding.{Finding}
use Rattle.checker.specs.declared.check.Finding.TheVariants as finding
use Rattle.stored.specs.Output.{written_length}
use Rattle.translator.specs.Refusal.{translate_refusal}
use Rattle.plans.specs.Bound.{drawing_at, drawings, node_bound}
use Rattle.translator.specs.Translated.{Translated}
use Rattle.text.specs.Text.{ReadText}
use Rattle.text.proofs.Text.{written_fits}
use Rattle.translator.proofs.Translating.{number_told}
use Rattle.checker.specs.Small.{SmallPlace, SmallFinding}
use Rattle.exports.specs.Packed.{packed_place, packed_finding, findings, packed_writing, unpacked_writing, SmallWriting}

pub place_small : (p : Place) → SmallPlace p → packed_place p < 2097152
unfolding packed_place
place_small p s =
    let a = s.0 in
    let b = s.1 in
    let c = s.2 in
    let d = s.3 in
    omega arith

-- a finding takes no more than the lower half of a number
pub finding_small : (f : Finding) → SmallFinding f → packed_finding f < findings
unfolding packed_finding
finding_small (finding.Excused clause) h = omega (arith, h)
finding_small (finding.Broken p) h = omega (arith, place_small p h)
finding_small finding.Holds h = omega arith

-- ---- the answer of an operation that writes a sheet
pub unpacked : (a : Result ℕ Refusal) → unpacked_writing (packed_writing a) ≡ a
unfolding packed_writing unpacked_writing pick
unpacked (Ok size) =
    let tag : (4 + size * 256) % 256 ≡ 4 = omega arith in
    let value : (4 + size * 256) / 256 ≡ size = omega arith in
    rw (tag, value)
unpacked (Err e) =
    let tag : number_of e * 256 % 256 ≡ 0 = omega arith in
    let value : number_of e * 256 / 256 ≡ number_of e = omega arith in
    rw (tag, value) (ap Err (numbered_number e))

bound_most : (s : List ℕ) → sheet_refusal s ≡ 0 → node_bound s ≤ 1025
unfolding node_bound drawings
bound_most s e =
    let o = (opened s e).in_range in
    let nodes = o.few_nodes in
    let names = o.few_names in
    let clauses = o.few_clauses in
    let drawn = count_most (header_of s).nodes (drawing_at (nodes_of s)) in
    let each : 16 + 5 * (header_of s).names ≤ 31 = omega arith in
    let all : (header_of s).clauses * (16 + 5 * (header_of s).names) ≤ 8 * 31 = mul-le-mul clauses each in
    omega arith

emitted_length : (y : List ℕ) → is_emitted y ≡ true → length y ≡ nodes_end (header_of y).nodes
unfolding sized emitted_counted
emitted_length y e =
    let o = emitted_opened y e in
    let h = header_of y in
    let long = eqb-true (length y) (clauses_end (header_of y).nodes (header_of y).clauses) o.is_sized in
    let rest = and_right (leb 1 h.signals && leb h.signals 16) _ o.is_counted in
    let rest₂ = and_right (leb h.names 3) _ rest in
    let none = eqb-true h.clauses 0 (and_right (leb 1 h.nodes) _ rest₂) in
    omega arith

sheet_accepted : (s : List ℕ) (size : ℕ) → translate_refusal s size ≡ 0 → sheet_refusal s ≡ 0
unfolding translate_refusal
sheet_accepted s size e = go (eqb (sheet_refusal s) 0) refl e
  where
    go : (b : Bool) → eqb (sheet_refusal s) 0 ≡ b → cond b (cond (ltb size least_output) 14 0) (sheet_refusal s) ≡ 0 → sheet_refusal s ≡ 0
    go true t e = eqb-true (sheet_refusal s) 0 t
    go false t e = e

pub formula_small : (s x y : List ℕ) (r : Result ℕ Refusal) → Translated s x y r → SmallWriting r
unfolding answer_number written_length
formula_small s x y (Ok size) t =
    let none : translate_refusal s (length x) ≡ 0 = sym (number_told t) in
    let f = t.formula none in
    let long = t.long none in
    let is = emitted_length (take size y) f.form in
    let bound = f.bound in
    let most = bound_most s (sheet_accepted s (length x) none) in
    omega arith
formula_small s x y (Err e) t = tt

pub text_small : (text x y : List ℕ) (r : Result ℕ Refusal) → ReadText text x y r → SmallWriting r
text_small text x y (Ok size) p = omega (arith, (written_fits text x y size p).long)
text_small text x y (Err e) p = tt

-- what is promised of an answer is promised of the packed one
writing_packed : (Promised : Result ℕ Refusal → Type 0) (a : Result ℕ Refusal) (r : ℕ) → Promised a → r ≡ packed_writing a
    → (r ≡ packed_writing (unpacked_writing r)) × Promised (unpacked_writing r)
writing_packed Promised a r t e =
    let same : unpacked_writing r ≡ a = ap unpacked_writing e ∙ unpacked a in
    (e ∙ ap packed_writing (sym same), subst Promised (sym same) t)

pub formula_packed : (s x y : List ℕ) (a : Result ℕ Refusal) (r : ℕ) → Translated s x y a → r ≡ packed_writing a
    → (r ≡ packed_writing (unpacked_writing r)) × Translated s x y (unpacked_writing r)
formula_packed s x y a r = writing_packed (Translated s x y) a r

pub text_packed : (text x y : List ℕ) (a : Result ℕ Refusal) (r : ℕ) → ReadText text x y a → r ≡ packed_writing a
    → (r ≡ packed_writing (unpacked_writing r)) × ReadText text x y (unpacked_writing r)
text_packed text x y a r = writing_packed (ReadText text x y) a r
