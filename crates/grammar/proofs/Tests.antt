-- Laws of Bool: where neither of two tests passes.
use Rattle.std.proofs.Common.{Bool, true, false, ◌||◌, ◌≡◌, refl}
use Rattle.semantics.proofs.Tests.{or_right, is_false, false_not}

pub or_false_left : (a b : Bool) → a || b ≡ false → a ≡ false
or_false_left true b e = e
or_false_left false b e = refl

pub or_false_right : (a b : Bool) → a || b ≡ false → b ≡ false
or_false_right a b e = is_false b (λ p. false_not (a || b) e (or_right a b p))

pub or_both_false : (a b : Bool) → a ≡ false → b ≡ false → a || b ≡ false
or_both_false true b p q = p
or_both_false false b p q = q
