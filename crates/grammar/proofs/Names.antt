-- Lists of names of which none stands twice, taken one name longer.
use Rattle.std.proofs.Common.{ℕ, true, false, not, ◌||◌, List, [], ◌∷◌, ◌++◌, ◌≡◌, refl, sym, ap, ◌∙◌, eqb, ne_eqb}
use mathlib.Core.Bool.{or_assoc}
use borrow.Author.Tests.{eqb-false, not-true}
use Rattle.semantics.proofs.Tests.{and_intro, and_left, and_right}
use Rattle.grammar.proofs.Tests.{or_false_left, or_false_right, or_both_false}
use Rattle.grammar.specs.Spelled.{is_among, none_twice}

among_append : (u : ℕ) (us vs : List ℕ) → is_among u (us ++ vs) ≡ is_among u us || is_among u vs
unfolding is_among
among_append u [] vs = refl
among_append u (v ∷ us) vs = ap (λ b. eqb u v || b) (among_append u us vs) ∙ sym (or_assoc (eqb u v) (is_among u us) (is_among u vs))

other_way : (u v : ℕ) → eqb u v ≡ false → eqb v u ≡ false
other_way u v e = ne_eqb v u (λ p. eqb-false u v e (sym p))

-- a name in a list without doubles is not among those before it
pub new_name : (us : List ℕ) (v : ℕ) (more : List ℕ) → none_twice (us ++ v ∷ more) ≡ true → is_among v us ≡ false
unfolding none_twice is_among
new_name [] v more single = refl
new_name (u ∷ us) v more single =
    let apart = not-true _ (and_left (not (is_among u (us ++ v ∷ more))) (none_twice (us ++ v ∷ more)) single) in
    let after = or_false_right (is_among u us) (eqb u v || is_among u more) (sym (among_append u us (v ∷ more)) ∙ apart) in
    or_both_false (eqb v u) (is_among v us) (other_way u v (or_false_left (eqb u v) (is_among u more) after))
    (new_name us v more (and_right (not (is_among u (us ++ v ∷ more))) (none_twice (us ++ v ∷ more)) single))

-- one more name that is not among them
pub single_more : (us : List ℕ) (v : ℕ) → none_twice us ≡ true → is_among v us ≡ false → none_twice (us ++ v ∷ []) ≡ true
unfolding none_twice is_among
single_more [] v single new = refl
single_more (u ∷ us) v single new =
    and_intro (not (is_among u (us ++ v ∷ []))) (none_twice (us ++ v ∷ []))
    (ap not
    (among_append u us (v ∷ [])
    ∙ or_both_false (is_among u us) (eqb u v || false) (not-true _ (and_left (not (is_among u us)) (none_twice us) single))
    (or_both_false (eqb u v) false (other_way v u (or_false_left (eqb v u) (is_among v us) new)) refl)))
    (single_more us v (and_right (not (is_among u us)) (none_twice us) single) (or_false_right (eqb v u) (is_among v us) new))
