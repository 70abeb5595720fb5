-- The task of a clause and the clause.
use Rattle.std.proofs.Common.{ℕ, suc, ◌-◌, ◌^◌, ◌/◌, ◌%◌, ◌≤◌, ◌<◌, arith, Bool, true, ◌&&◌, [], ◌∷◌, ◌≡◌, refl, sym, ap, ap₂, ◌∙◌, bit_and, bit_or, ltb, length}
use mathlib.Core.Path.{fun_ext}
use lib.Bits.{or_lt}
use Rattle.semantics.specs.Proposition.{Trace, bit}
use Rattle.semantics.specs.Placement.{Names, union, Placement, unplaced, some_placement}
use Rattle.semantics.specs.Clause as clause
use Rattle.semantics.specs.Clause.{Part, breaks}
use Rattle.semantics.specs.Reach.{clause_fits}
use Rattle.stored.specs.declared.Node.{Node}
use Rattle.stored.specs.declared.StoredClause.{StoredClause}
use Rattle.stored.specs.Clause as stored
use Rattle.stored.specs.Clause.{clause_of}
use Rattle.stored.specs.Clause.{part_of}
use Rattle.stored.specs.Tree.{formula_at}
use Rattle.stored.proofs.Accepted.{type_cases}
use Rattle.stored.proofs.NameSets.{no_mask, both_masks, less_mask}
use Rattle.tables.specs.Table.{standing}
use Rattle.intervals.specs.Search.{fresh, quantified, premise, reply, on_inside, short_inside, answered, missed, missed_by}
use Rattle.intervals.specs.Places.{numbered, IsLeast}
use Rattle.places.specs.Task.{type_numbered, task_of, missed_task}
use Rattle.intervals.proofs.Outside.{breaks_out, and_placement}
use Rattle.intervals.proofs.Places.{least_ext, numbered_same}
use Rattle.places.proofs.Loops.{unplaced_stands}

-- the three masks fit a word
pub record Masks (d : StoredClause) : Type 0 where
  pub first : d.mask1 < 2 ^ 64
  pub second : d.mask2 < 2 ^ 64
  pub third : d.mask3 < 2 ^ 64

-- the clause with another number for its type
abbrev pub fields : ℕ → StoredClause → StoredClause
fields k d =
    record { clause_type = k; role = d.role; root1 = d.root1; root2 = d.root2; root3 = d.root3; mask1 = d.mask1; mask2 = d.mask2; mask3 = d.mask3 }

-- the number of a type
abbrev number_of : clause.ClauseType → ℕ
number_of clause.pref = 1
number_of clause.init = 2
number_of clause.anti = 3
number_of clause.implies = 4
number_of clause.follows = 5
number_of clause.triggers = 6

number_back : (k : ℕ) → 1 ≤ k → k ≤ 6 → number_of (stored.type_of k) ≡ k
unfolding stored.type_of
number_back = type_cases (λ k. number_of (stored.type_of k) ≡ k) refl refl refl refl refl refl

pub task_typed : (d : StoredClause) (κ : clause.ClauseType) → κ ≡ stored.type_of d.clause_type → 1 ≤ d.clause_type → d.clause_type ≤ 6
    → task_of (fields (number_of κ) d) ≡ task_of d
task_typed d κ e l h = ap (λ k. task_of (fields k d)) (ap number_of e ∙ number_back d.clause_type l h)

task_quantified : (d : StoredClause) → 1 ≤ d.clause_type → d.clause_type ≤ 6
    → bit (task_of d).quantified ≡ quantified (stored.type_of d.clause_type) (bit d.mask1) (bit d.mask2) (bit d.mask3)
unfolding task_of stored.type_of quantified
task_quantified d l h =
    type_cases (λ k. bit (task_of (fields k d)).quantified ≡ quantified (stored.type_of k) (bit d.mask1) (bit d.mask2) (bit d.mask3))
    no_mask refl refl refl (both_masks d.mask1 d.mask3) (both_masks d.mask1 d.mask3) d.clause_type l h

-- a part with the names of one mask that another lacks
part_less : (x : ℕ → Node) (root a b : ℕ) → a < 2 ^ 64 → b < 2 ^ 64 → part_of x root (bit_and a (2 ^ 64 - 1 - b)) ≡ fresh (bit b) (part_of x root a)
unfolding part_of fresh
part_less x root a b ha hb = ap (λ (names : Names). record { formula = formula_at x root; names = names }) (less_mask a b ha hb)

task_missed : (x : ℕ → Node) (d : StoredClause) → Masks d → 1 ≤ d.clause_type → d.clause_type ≤ 6 → (σ : Trace) (last : ℕ) (ν : Placement) (i j k : ℕ)
    → missed_task x (task_of d) σ last ν i j k
    ≡ missed_by (stored.type_of d.clause_type) (part_of x d.root1 d.mask1) (part_of x d.root2 d.mask2) (part_of x d.root3 d.mask3) σ last ν i j k
unfolding task_of type_numbered stored.type_of missed_task missed_by missed premise reply quantified part_of
task_missed x d m l h σ last ν i j k =
    type_cases (λ n. missed_task x (task_of (fields n d)) σ last ν i j k ≡ missed_by (stored.type_of n) d₁ d₂ d₃ σ last ν i j k)
    (ap (missed_with 1 d₃) (part_less x d.root1 d.mask1 0 m.first (omega arith) ∙ ap (λ (names : Names). fresh names d₁) no_mask))
    (ap (missed_with 2 d₃) (part_less x d.root1 d.mask1 d.mask2 m.first m.second))
    refl
    (ap (missed_with 4 d₃) (part_less x d.root2 d.mask2 d.mask1 m.second m.first))
    (ap₂ (missed_with 5) third late)
    (ap₂ (missed_with 6) third late)
    d.clause_type l h
  where
    d₁ : Part
    d₁ = part_of x d.root1 d.mask1

    d₂ : Part
    d₂ = part_of x d.root2 d.mask2

    d₃ : Part
    d₃ = part_of x d.root3 d.mask3

    missed_with : ℕ → Part → Part → Bool
    missed_with n ended answering =
        missed (stored.type_of n) (on_inside (premise (stored.type_of n) d₁ d₂) σ ν) (short_inside ended σ ν) (answered answering σ last ν) i j k

    third : part_of x d.root3 (bit_and d.mask3 (2 ^ 64 - 1 - d.mask1)) ≡ fresh (bit d.mask1) d₃
    third = part_less x d.root3 d.mask3 d.mask1 m.third m.first

    late : part_of x d.root2 (bit_and d.mask2 (2 ^ 64 - 1 - bit_or d.mask1 d.mask3)) ≡ fresh (union (bit d.mask1) (bit d.mask3)) d₂
    late =
        part_less x d.root2 d.mask2 (bit_or d.mask1 d.mask3) m.second (or_lt 64 d.mask1 d.mask3 m.first m.third)
        ∙ ap (λ (names : Names). fresh names d₂) (both_masks d.mask1 d.mask3)

numbered_placement : (n last : ℕ) (names : Names) (ν : Placement) (p : Placement → ℕ → ℕ → ℕ → Bool) (y : ℕ)
    → some_placement names 0 last ν (λ ν'. numbered n (p ν') y) ≡ numbered n (λ i j k. some_placement names 0 last ν (λ ν'. p ν' i j k)) y
unfolding numbered
numbered_placement n last names ν p y =
    sym (and_placement (ltb (y / 4096) n && (ltb (y / 64 % 64) n && ltb (y % 64) n)) names 0 last ν
    (λ ν'. p ν' (y / 4096) (y / 64 % 64) (y % 64)))

task_breaks : (x : ℕ → Node) (d : StoredClause) (σ : Trace) (last : ℕ) → Masks d → 1 ≤ d.clause_type → d.clause_type ≤ 6 → clause_fits (clause_of x d) ≡ true
    → last < length σ → (i j k : ℕ) → j ≤ last → k ≤ last
    → some_placement (bit (task_of d).quantified) 0 last (standing (0 ∷ 0 ∷ 0 ∷ [])) (λ ν. missed_task x (task_of d) σ last ν i j k) ≡ breaks (clause_of x d) σ i j k
unfolding breaks clause_of clause_fits part_of
task_breaks x d σ last m l h fit inσ i j k hj hk =
    ap (λ (names : Names). some_placement names 0 last (standing (0 ∷ 0 ∷ 0 ∷ [])) (λ ν. missed_task x (task_of d) σ last ν i j k)) (task_quantified d l h)
    ∙ ap₂ (λ (ν : Placement) (p : Placement → Bool). some_placement (quantified (stored.type_of d.clause_type) (bit d.mask1) (bit d.mask2) (bit d.mask3)) 0 last ν p)
    (sym unplaced_stands) (fun_ext (λ ν. task_missed x d m l h σ last ν i j k))
    ∙ sym (out i j k hj hk)
  where
    out : (i j k : ℕ) → j ≤ last → k ≤ last → breaks (clause_of x d) σ i j k
        ≡ some_placement (quantified (stored.type_of d.clause_type) (bit d.mask1) (bit d.mask2) (bit d.mask3)) 0 last unplaced
        (λ ν. missed_by (stored.type_of d.clause_type) (part_of x d.root1 d.mask1) (part_of x d.root2 d.mask2) (part_of x d.root3 d.mask3) σ last ν i j k)
    out =
        breaks_out (stored.type_of d.clause_type) (part_of x d.root1 d.mask1) (part_of x d.root2 d.mask2) (part_of x d.root3 d.mask3) σ last inσ fit

-- the least place over all placements of the quantified names is the clause's
pub task_least : (x : ℕ → Node) (d : StoredClause) (σ : Trace) (last best r : ℕ) → Masks d → 1 ≤ d.clause_type → d.clause_type ≤ 6 → clause_fits (clause_of x d) ≡ true
    → length σ ≡ suc last
    → IsLeast best (λ y. some_placement (bit (task_of d).quantified) 0 last (standing (0 ∷ 0 ∷ 0 ∷ [])) (λ ν. numbered (length σ) (missed_task x (task_of d) σ last ν) y)) r
    → IsLeast best (numbered (length σ) (breaks (clause_of x d) σ)) r
task_least x d σ last best r m l h fit long least =
    least_ext
    (λ y b. numbered_placement (length σ) last (bit (task_of d).quantified) (standing (0 ∷ 0 ∷ 0 ∷ [])) (λ ν. missed_task x (task_of d) σ last ν) y
    ∙ numbered_same (length σ) (λ i j k. some_placement (bit (task_of d).quantified) 0 last (standing (0 ∷ 0 ∷ 0 ∷ [])) (λ ν. missed_task x (task_of d) σ last ν i j k))
    (breaks (clause_of x d) σ) y
    (λ hi hj hk. task_breaks x d σ last m l h fit (omega arith) (y / 4096) (y / 64 % 64) (y % 64) (omega arith) (omega arith)))
    least
