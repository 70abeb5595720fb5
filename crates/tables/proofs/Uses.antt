-- What an op uses its fields for, over the ops of one family.
use Rattle.stored.proofs.Sorts.{sort_same}
use Rattle.stored.specs.declared.nodes.Sort.TheVariants.{Proposition, Formula}
use Rattle.stored.specs.declared.nodes.Sort.{Sort}
use Rattle.std.proofs.Common.{Option, Some, None, ℕ, ◌≤◌, ◌<◌, Bool, true, false, not, ◌&&◌, ◌||◌, List, inl, inr, ◌≡◌, refl, sym, ap, subst, ◌∙◌, arith, ltb-true, ltb-false, leb-true, eqb-true, le-leb, lt-ltb, leb, ltb, eqb}
use borrow.Author.Tests.{eqb-false}
use lib.ListN.{get_or-eq_default}
use Rattle.stored.specs.declared.Node.{Node}
use Rattle.stored.specs.declared.nodes.Use.TheVariants.{FormulaNode}
use Rattle.stored.specs.Bytes.{every_below}
use Rattle.stored.specs.Node.{proposition, formula, no_op, same_sort, requirement_sorts, sort_of, a_use, b_use, q_use}
use Rattle.semantics.proofs.Tests.{test, both, and_left, and_right, is_false}
use Rattle.tables.specs.Step.{first_column, second_column, of_first, of_two, is_pair}
use Rattle.stored.proofs.Rules.{asked, every_number, each_between}

-- chop, and, or, star
pub joins_formula : (k : ℕ) → 20 ≤ k → k < 24 → a_use k ≡ FormulaNode
unfolding a_use
joins_formula k l h = each_between (λ k. a_use k ≡ FormulaNode) 20 4 (refl, (refl, (refl, (refl, tt)))) k l h

-- the ops of a sort
pub record Ops (low high k : ℕ) : Type 0 where
  pub least : low ≤ k
  pub most : k < high

ops : (sort : Option Sort) (low high : ℕ) → (k : ℕ) → (not (same_sort (sort_of requirement_sorts k) sort) || (leb low k && ltb k high)) ≡ true → sort_of requirement_sorts k ≡ sort → Ops low high k
ops sort low high k t e =
    let r = asked (same_sort (sort_of requirement_sorts k) sort) (leb low k && ltb k high) t (sort_same (sort_of requirement_sorts k) sort e) in
    record { least = leb-true low k (and_left (leb low k) (ltb k high) r); most = ltb-true k high (and_right (leb low k) (ltb k high) r) }

pub proposition_ops : (k : ℕ) → sort_of requirement_sorts k ≡ proposition → Ops 1 8 k
unfolding sort_of same_sort every_below
proposition_ops k =
    ops proposition 1 8 k
    (every_number 32 (λ k. not (same_sort (sort_of requirement_sorts k) proposition) || (leb 1 k && ltb k 8)) refl
    (λ k h. ap (λ (z : Option Sort). not (same_sort z proposition) || (leb 1 k && ltb k 8)) (get_or-eq_default requirement_sorts no_op h)) k)

pub formula_ops_lem : (k : ℕ) → sort_of requirement_sorts k ≡ formula → Ops 16 30 k
unfolding sort_of same_sort every_below
formula_ops_lem k =
    ops formula 16 30 k
    (every_number 32 (λ k. not (same_sort (sort_of requirement_sorts k) formula) || (leb 16 k && ltb k 30)) refl
    (λ k h. ap (λ (z : Option Sort). not (same_sort z formula) || (leb 16 k && ltb k 30)) (get_or-eq_default requirement_sorts no_op h)) k)

-- a sort that is neither no sort nor a proposition
pub formula_left : (k : ℕ) → (sort_of requirement_sorts k ≡ no_op → ⊥) → (sort_of requirement_sorts k ≡ proposition → ⊥) → sort_of requirement_sorts k ≡ formula
formula_left k = left (sort_of requirement_sorts k)
  where
    left : (sort : Option Sort) → (sort ≡ no_op → ⊥) → (sort ≡ proposition → ⊥) → sort ≡ formula
    left None a b = absurd (a refl)
    left (Some Proposition) a b = absurd (b refl)
    left (Some Formula) a b = refl

-- chop, and, or: formulas over the rows of two formulas, and over no columns
pub pair_ops : (k : ℕ) → is_pair k ≡ true → Ops 20 23 k
unfolding is_pair
pair_ops k e = record { least = leb-true 20 k (and_left (leb 20 k) (ltb k 23) e); most = ltb-true k 23 (and_right (leb 20 k) (ltb k 23) e) }

pub pair_of : (k : ℕ) → 20 ≤ k → k < 23 → is_pair k ≡ true
unfolding is_pair
pair_of k l h = both (le-leb 20 k l) (lt-ltb k 23 h)

pub no_pair : (k : ℕ) → is_pair k ≡ false → 20 ≤ k → 23 ≤ k
unfolding is_pair
no_pair k e l = ltb-false k 23 (ap (λ (t : Bool). t && ltb k 23) (sym (le-leb 20 k l)) ∙ e)

pub pair_not : (k : ℕ) → (k ≡ 20 → ⊥) → (k ≡ 21 → ⊥) → (k ≡ 22 → ⊥) → is_pair k ≡ false
pair_not k a b c =
    is_false (is_pair k) (λ e.
    let o = pair_ops k e in
    let least = o.least in
    let most = o.most in
    absurd (omega arith))

pair_told : (P : ℕ → Type 0) → P 20 → P 21 → P 22 → (k : ℕ) → is_pair k ≡ true → P k
pair_told P p q r k e =
    let o = pair_ops k e in
    let least = o.least in
    let most = o.most in
    elim (test (eqb k 20)) [
      | inl s ↦ subst P (sym (eqb-true k 20 s)) p
      | inr s ↦ elim (test (eqb k 21)) [
        | inl t ↦ subst P (sym (eqb-true k 21 t)) q
        | inr t ↦
            let a = eqb-false k 20 s in
            let c = eqb-false k 21 t in
            let last : k ≡ 22 = omega arith in
            subst P (sym last) r
      ]
    ]

pub pair_right : (k : ℕ) → is_pair k ≡ true → b_use k ≡ FormulaNode
unfolding b_use
pair_right = pair_told (λ k. b_use k ≡ FormulaNode) refl refl refl

pub pair_first : (k : ℕ) (x : Node) (columns words : List ℕ) → is_pair k ≡ true → 0 ≡ first_column k x columns words
unfolding first_column of_first of_two a_use q_use
pair_first k x columns words = pair_told (λ k. 0 ≡ first_column k x columns words) refl refl refl k

pub pair_second : (k : ℕ) (x : Node) (columns : List ℕ) → is_pair k ≡ true → 0 ≡ second_column k x columns
unfolding second_column of_two q_use
pair_second k x columns = pair_told (λ k. 0 ≡ second_column k x columns) refl refl refl k

-- star: over the rows of one formula and its own
pub star_formula : (k : ℕ) → k ≡ 23 → sort_of requirement_sorts k ≡ formula
unfolding sort_of
star_formula k e = rw e
