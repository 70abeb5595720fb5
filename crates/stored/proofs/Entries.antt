-- Tables of numbers that are filled entry by entry; an entry that is not filled yet is 0.
use Rattle.std.proofs.Common.{ℕ, zero, suc, ◌+◌, ◌<◌, List, inl, inr, ◌≡◌, refl, sym, ◌∙◌, subst, arith, eqb-true, eqb, length, get_or, set, replicate, get_or-set_same, get_or-set_other, ext_get_or}
use borrow.Author.Tests.{eqb-false}
use denote.Param.Members.{Mut}
use Rattle.std.specs.Array.{IsFromFnResultFrom, IsFromFnResult}
use Rattle.std.specs.Fn.{Called}
use Rattle.semantics.proofs.Tests.{test}
use Rattle.stored.specs.Bytes.{in_order}
use Rattle.stored.specs.Tree.{earlier}
use Rattle.stored.proofs.Made.{earlier_at, earlier_not, earlier_wider}
use Rattle.stored.proofs.Rules.{length_in_order, get_or_in_order}

get_or_zeros : (w k : ℕ) → ◌≡◌ {A = ℕ} (get_or (replicate w 0) k 0) 0
get_or_zeros zero k = refl
get_or_zeros (suc w) zero = refl
get_or_zeros (suc w) (suc k) = get_or_zeros w k

module _ (t : ℕ → ℕ) where
  pub entries_none : (w k : ℕ) → get_or (replicate w 0) k 0 ≡ earlier 0 0 t k
  entries_none w k = get_or_zeros w k ∙ sym (earlier_not 0 0 t k (omega arith))

  pub entries_next : (table : List ℕ) (i v : ℕ) → i < length table → ((k : ℕ) → get_or table k 0 ≡ earlier i 0 t k) → v ≡ t i
      → (k : ℕ) → get_or (set table i v) k 0 ≡ earlier (i + 1) 0 t k
  entries_next table i v h before e k = elim (test (eqb k i)) [ inl same ↦ new (eqb-true k i same) | inr other ↦ old (eqb-false k i other) ]
    where
      new : k ≡ i → get_or (set table i v) k 0 ≡ earlier (i + 1) 0 t k
      new same = rw same (get_or-set_same table i v 0 h ∙ e ∙ sym (earlier_at (i + 1) 0 t i (omega arith)))

      old : (k ≡ i → ⊥) → get_or (set table i v) k 0 ≡ earlier (i + 1) 0 t k
      old other = get_or-set_other table i k v 0 other ∙ before k ∙ earlier_wider i 0 t k other

  pub entries_all : (w n : ℕ) (table : List ℕ) → length table ≡ w → ((k : ℕ) → get_or table k 0 ≡ earlier n 0 t k) → table ≡ in_order w (earlier n 0 t)
  entries_all w n table long all =
      ext_get_or 0 table (in_order w (earlier n 0 t)) (long ∙ sym (length_in_order w (earlier n 0 t)))
      (λ k h. let less : k < w = omega arith in all k ∙ sym (get_or_in_order w (earlier n 0 t) k 0 less))

-- a table that a closure makes, which gives t of each index
module _ {F : Type 0} {g : Mut F (ℕ × Unit {0}) ℕ} (f : F) (t : ℕ → ℕ) (gives : (i y : ℕ) (q : F) → Called g f (i, tt) y q → (q ≡ f) × (y ≡ t i)) where
  made_from : (table : List ℕ) (i n : ℕ) (p : F) → p ≡ f → IsFromFnResultFrom g p table i n → (j : ℕ) → j < n → get_or table (i + j) 0 ≡ t (i + j)
  made_from table i zero p same each j h = absurd (omega arith)
  made_from table i (suc n) p same each zero h =
      let e = subst (λ (x : F). IsFromFnResultFrom g x table i (suc n)) same each in
      let here : i + 0 ≡ i = omega arith in
      rw here (e.2.1 0 ∙ (gives i e.1 e.0 e.3).1)
  made_from table i (suc n) p same each (suc j) h =
      let e = subst (λ (x : F). IsFromFnResultFrom g x table i (suc n)) same each in
      let next : i + suc j ≡ i + 1 + j = omega arith in
      rw next (made_from table (i + 1) n e.0 (gives i e.1 e.0 e.3).0 e.4 j (omega arith))

pub entries_made : {F : Type 0} {g : Mut F (ℕ × Unit {0}) ℕ} {f : F} (t : ℕ → ℕ) (table : List ℕ) (n : ℕ) → IsFromFnResult g f table n
    → ((i y : ℕ) (q : F) → Called g f (i, tt) y q → (q ≡ f) × (y ≡ t i)) → table ≡ in_order n t
entries_made {f} t table n made gives =
    ext_get_or 0 table (in_order n t) (made.long ∙ sym (length_in_order n t))
    (λ k h. let less : k < n = omega (arith, made.long) in
    let at : 0 + k ≡ k = omega arith in
    rw at at (made_from f t gives table 0 n f refl made.each k less) ∙ sym (get_or_in_order n t k 0 less))
