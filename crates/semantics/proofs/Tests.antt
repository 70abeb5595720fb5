-- Laws of Bool that turn a test into a fact and back.
use Rattle.std.proofs.Common.{Bool, true, false, not, ◌&&◌, ◌||◌, true≢false, ◌⊎◌, inl, inr, ◌≡◌, refl, sym}
use mathlib.Core.Bool.{false≢true}

-- two tests are equal if each passes where the other does
pub same : (a b : Bool) → (a ≡ true → b ≡ true) → (b ≡ true → a ≡ true) → a ≡ b
same true b f g = sym (f refl)
same false true f g = g refl
same false false f g = refl

pub test : (a : Bool) → (a ≡ true) ⊎ (a ≡ false)
test true = inl refl
test false = inr refl

pub and_intro : (a b : Bool) → a ≡ true → b ≡ true → a && b ≡ true
and_intro true b p q = q
and_intro false b p q = p

pub and_left : (a b : Bool) → a && b ≡ true → a ≡ true
and_left true b p = refl
and_left false b p = p

pub and_right : (a b : Bool) → a && b ≡ true → b ≡ true
and_right true b p = p
and_right false b p = absurd (false≢true p)

pub and_assoc : (a b c : Bool) → a && (b && c) ≡ (a && b && c)
and_assoc true b c = refl
and_assoc false b c = refl

pub or_left : (a b : Bool) → a ≡ true → a || b ≡ true
or_left true b p = refl
or_left false b p = absurd (false≢true p)

pub or_right : (a b : Bool) → b ≡ true → a || b ≡ true
or_right true b p = refl
or_right false b p = p

pub or_elim : (a b : Bool) → a || b ≡ true → (a ≡ true) ⊎ (b ≡ true)
or_elim true b p = inl refl
or_elim false b p = inr p

pub not_intro : (a : Bool) → (a ≡ true → ⊥) → not a ≡ true
not_intro true f = absurd (f refl)
not_intro false f = refl

pub not_elim : (a : Bool) → not a ≡ true → a ≡ true → ⊥
not_elim true p q = false≢true p
not_elim false p q = false≢true q

pub is_false : (a : Bool) → (a ≡ true → ⊥) → a ≡ false
is_false true f = absurd (f refl)
is_false false f = refl

pub false_not : (a : Bool) → a ≡ false → a ≡ true → ⊥
false_not true p q = true≢false p
false_not false p q = false≢true q

pub and_false_left : (a b : Bool) → a ≡ false → a && b ≡ false
and_false_left true b h = absurd (true≢false h)
and_false_left false b h = refl

pub and_false_right : (a b : Bool) → b ≡ false → a && b ≡ false
and_false_right true b h = h
and_false_right false b h = refl

pub or_false : (a : Bool) → a || false ≡ a
or_false true = refl
or_false false = refl

pub and_true_right : (a : Bool) → a && true ≡ a
and_true_right true = refl
and_true_right false = refl

pub not_is_false : (a : Bool) → a ≡ true → not a ≡ false
not_is_false true h = refl
not_is_false false h = sym h

pub both : {a b : Bool} → a ≡ true → b ≡ true → a && b ≡ true
both {a} {b} p q = and_intro a b p q

pub and_false : (a : Bool) → a && false ≡ false
and_false a = and_false_right a false refl

pub and_self : (a : Bool) → a && a ≡ a
and_self true = refl
and_self false = refl

pub and_comm : (a b : Bool) → a && b ≡ (b && a)
and_comm true true = refl
and_comm true false = refl
and_comm false true = refl
and_comm false false = refl

pub not_not : (a : Bool) → not (not a) ≡ a
not_not true = refl
not_not false = refl
