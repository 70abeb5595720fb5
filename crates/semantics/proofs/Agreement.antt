-- Agreement: the formula of a requirement is true of a trace exactly when the requirement is, for every list of clauses whose parts reach only
-- names of their sets, and every trace of at least one cycle.
use Rattle.std.proofs.Common.{ℕ, suc, ◌-◌, ◌≤◌, ◌<◌, arith, Bool, true, false, not, cond, ◌&&◌, ◌||◌, List, [], ◌∷◌, ◌≡◌, refl, sym, ap, ◌∙◌, length}
use Rattle.semantics.specs.Cycles.{some_in}
use Rattle.semantics.specs.Proposition.{Trace, Marks}
use Rattle.semantics.specs.Formula.{Formula, disjunction, unmarked, true_of}
use Rattle.semantics.specs.Placement.{Names, no_names, union, without, listed, Placement, unplaced, some_placement}
use Rattle.semantics.specs.Inside.{inside}
use Rattle.semantics.specs.Clause.{Part, ClauseType, pref, init, anti, implies, follows, triggers, Role, assumption_role, commitment, Clause, on, given, shortest, unanswered, breaks_at, breaks, fails}
use Rattle.semantics.specs.Verdict.{has_role, fails_as, some_fails, requirement}
use Rattle.semantics.specs.Reach.{fits, parts_fit, clause_fits, all_fit}
use Rattle.semantics.specs.Translation.{undrawn, placed, once, unanswered_of, broken_of, broken_clause, join_broken, translation}
use Rattle.semantics.proofs.Tests.{and_left, and_right, and_assoc, or_false}
use Rattle.semantics.proofs.Names.{not_none, union_left, listed_left, listed_right, listed_less, besides}
use Rattle.semantics.proofs.Cycles.{some_cong}
use Rattle.semantics.proofs.Placed.{Stands, stands_narrower, placed_holds, once_holds}
use Rattle.semantics.proofs.Formulas.{Says, says_as, and_is, or_is, not_is, chop_is, nothing_is, prefix_is, suffix_is, shortest_is, part_is, given_is}
use Rattle.semantics.proofs.Ranges.{some_three, from_start, on_intervals, on_answers, and_some, some_and, swap}
use Rattle.semantics.proofs.Joined.{together, join}

none_stand : (x y : ℕ) (μ : Marks) (ν : Placement) → Stands no_names x y μ ν
none_stand x y μ ν = record { alike = λ u h. not_none u h }

-- D3 is Ξ on [s,k] and no l from s to k gives D2 on [s,l], the names of D1 and D3 standing where ν puts them
abbrev unmet : Part → Part → Part → Trace → ℕ → ℕ → Placement → Bool
unmet d₁ d₂ d₃ σ s k ν =
    shortest d₃ σ ν s k && not (some_in s k (λ l. given (without d₂.names (union d₁.names d₃.names)) ν d₂ σ s l))

module _ (σ : Trace) (positive : 0 < length σ) where
  abbrev last : ℕ
  last = length σ - 1

  placed_is : {x y : ℕ} (names K : Names) {f : Formula} (q : Placement → Bool) {μ : Marks} {ν : Placement} → y ≤ last → Stands K x y μ ν
      → ((μ' : Marks) (ν' : Placement) → Stands (union (listed names) K) x y μ' ν' → Says f σ μ' x y (q ν'))
      → Says (placed names f) σ μ x y (some_placement names x y ν q)
  placed_is {x} {y} names K {f} q {μ} {ν} h s next =
      record { same = placed_holds σ x y (omega arith) names K f q μ ν s (λ μ' ν' s'. (next μ' ν' s').same) }

  once_is : {x y : ℕ} (names : Names) {K : Names} {f : Formula} {p : Bool} {μ : Marks} {ν : Placement} → ((u : ℕ) → listed names u ≡ true → K u ≡ true)
      → Stands K x y μ ν → Says f σ μ x y p → Says (once names f) σ μ x y (inside names x y ν && p)
  once_is {x} {y} names {f = f} {ν = ν} k s h =
      record { same = once_holds σ s names f k ∙ ap (λ (p : Bool). inside names x y ν && p) h.same }

  -- the names of the first part of a clause are placed with none standing before
  first_given_is : {x y : ℕ} (d : Part) → fits d ≡ true → x ≤ y → y ≤ last
      → Says (placed d.names (undrawn d.formula)) σ unmarked x y (given d.names unplaced d σ x y)
  first_given_is {x} {y} d w l h =
      given_is σ l (omega arith) d.names d w (union_left (listed d.names) no_names) (none_stand x y unmarked unplaced)

  pref_is : (d₁ d₂ d₃ : Part) → fits d₁ ≡ true
      → Says (broken_of pref (undrawn d₁.formula) d₁.names (undrawn d₂.formula) d₂.names (undrawn d₃.formula) d₃.names) σ unmarked 0 last
      (some_in 0 last (λ j. not (given d₁.names unplaced d₁ σ 0 j)))
  unfolding broken_of
  pref_is d₁ d₂ d₃ w = prefix_is (λ j. not (given d₁.names unplaced d₁ σ 0 j)) (λ j l h. not_is (first_given_is d₁ w l h))

  anti_is : (d₁ d₂ d₃ : Part) → fits d₁ ≡ true
      → Says (broken_of anti (undrawn d₁.formula) d₁.names (undrawn d₂.formula) d₂.names (undrawn d₃.formula) d₃.names) σ unmarked 0 last
      (some_in 0 last (λ i. some_in i last (λ j. given d₁.names unplaced d₁ σ i j)))
  unfolding broken_of
  anti_is d₁ d₂ d₃ w =
      suffix_is (λ i. some_in i last (λ j. given d₁.names unplaced d₁ σ i j))
      (λ i a b. prefix_is (λ j. given d₁.names unplaced d₁ σ i j) (λ j l h. first_given_is d₁ w l h))

  implies_is : (d₁ d₂ d₃ : Part) → fits d₁ ≡ true → fits d₂ ≡ true
      → Says (broken_of implies (undrawn d₁.formula) d₁.names (undrawn d₂.formula) d₂.names (undrawn d₃.formula) d₃.names) σ unmarked 0 last
      (some_in 0 last (λ i. some_in i last (λ j. some_placement d₁.names i j unplaced (λ ν. on d₁ σ ν i j && not (given (without d₂.names d₁.names) ν d₂ σ i j)))))
  unfolding broken_of
  implies_is d₁ d₂ d₃ w₁ w₂ =
      suffix_is (λ i. some_in i last (λ j. some_placement Θ₁ i j unplaced (λ ν. on d₁ σ ν i j && not (given rest ν d₂ σ i j))))
      (λ i a b. prefix_is (λ j. some_placement Θ₁ i j unplaced (λ ν. on d₁ σ ν i j && not (given rest ν d₂ σ i j)))
      (λ j l h. placed_is Θ₁ no_names (λ ν. on d₁ σ ν i j && not (given rest ν d₂ σ i j)) h (none_stand i j unmarked unplaced)
      (λ μ ν s. and_is (part_is σ l (omega arith) d₁ w₁ own s)
      (not_is (given_is σ l (omega arith) rest d₂ w₂ (besides d₂.names Θ₁ (union (listed Θ₁) no_names) own) s)))))
    where
      Θ₁ : Names
      Θ₁ = d₁.names

      rest : Names
      rest = without d₂.names Θ₁

      own : (u : ℕ) → listed Θ₁ u ≡ true → union (listed Θ₁) no_names u ≡ true
      own = union_left (listed Θ₁) no_names

  init_is : (d₁ d₂ d₃ : Part) → fits d₁ ≡ true → fits d₂ ≡ true
      → Says (broken_of init (undrawn d₁.formula) d₁.names (undrawn d₂.formula) d₂.names (undrawn d₃.formula) d₃.names) σ unmarked 0 last
      (some_in 0 last (λ j. some_placement d₂.names 0 j unplaced (λ ν. on d₂ σ ν 0 j && not (some_in 0 j (λ l. given (without d₁.names d₂.names) ν d₁ σ 0 l)))))
  unfolding broken_of
  init_is d₁ d₂ d₃ w₁ w₂ =
      prefix_is (λ j. some_placement Θ₂ 0 j unplaced (λ ν. on d₂ σ ν 0 j && not (some_in 0 j (λ l. given rest ν d₁ σ 0 l))))
      (λ j l h. placed_is Θ₂ no_names (λ ν. on d₂ σ ν 0 j && not (some_in 0 j (λ l. given rest ν d₁ σ 0 l))) h (none_stand 0 j unmarked unplaced)
      (λ μ ν s. and_is (part_is σ l (omega arith) d₂ w₂ own s)
      (not_is (prefix_is (λ l. given rest ν d₁ σ 0 l)
      (λ t a b. given_is σ a (omega arith) rest d₁ w₁ (besides d₁.names Θ₂ (union (listed Θ₂) no_names) own) (stands_narrower 0 t (omega arith) b s))))))
    where
      Θ₂ : Names
      Θ₂ = d₂.names

      rest : Names
      rest = without d₁.names Θ₂

      own : (u : ℕ) → listed Θ₂ u ≡ true → union (listed Θ₂) no_names u ≡ true
      own = union_left (listed Θ₂) no_names

  module _ (d₁ d₂ d₃ : Part) (w₁ : fits d₁ ≡ true) (w₂ : fits d₂ ≡ true) (w₃ : fits d₃ ≡ true) where
    abbrev Θ₁₃ : Names
    Θ₁₃ = union d₁.names d₃.names

    -- the names of D1 and D3 stand
    abbrev K₁₃ : Names
    K₁₃ = union (listed Θ₁₃) no_names

    -- D1 with its names inside
    abbrev first_on : Placement → ℕ → ℕ → Bool
    first_on ν i j = inside d₁.names i j ν && on d₁ σ ν i j

    -- the names of D3 inside that D1 lacks, and unmet
    abbrev unmet_on : Placement → ℕ → ℕ → Bool
    unmet_on ν s k = inside (without d₃.names d₁.names) s k ν && unmet d₁ d₂ d₃ σ s k ν

    first_stand : (u : ℕ) → listed d₁.names u ≡ true → K₁₃ u ≡ true
    first_stand u h = union_left (listed Θ₁₃) no_names u (listed_left d₁.names d₃.names u h)

    third_stand : (u : ℕ) → listed d₃.names u ≡ true → K₁₃ u ≡ true
    third_stand u h = union_left (listed Θ₁₃) no_names u (listed_right d₁.names d₃.names u h)

    first_is_lem : {μ : Marks} {ν : Placement} (i j : ℕ) → i ≤ j → j ≤ last → Stands K₁₃ i j μ ν
        → Says (once d₁.names (undrawn d₁.formula)) σ μ i j (first_on ν i j)
    first_is_lem i j l h s = once_is d₁.names first_stand s (part_is σ l (omega arith) d₁ w₁ first_stand s)

    unmet_is : {μ : Marks} {ν : Placement} (s k : ℕ) → s ≤ k → k ≤ last → Stands K₁₃ s k μ ν
        → Says (unanswered_of d₁.names (undrawn d₂.formula) d₂.names (undrawn d₃.formula) d₃.names) σ μ s k (unmet_on ν s k)
    unfolding unanswered_of shortest
    unmet_is {ν = ν} s k l h st =
        let rest = without d₃.names d₁.names in
        let last₂ = without d₂.names Θ₁₃ in
        says_as (sym (and_assoc (inside rest s k ν) (shortest d₃ σ ν s k) (not (some_in s k (λ l. given last₂ ν d₂ σ s l)))))
        (and_is
        (once_is rest (λ u e. third_stand u (listed_less d₃.names d₁.names u e).0) st
        (shortest_is (λ z. on d₃ σ ν s z) l (λ z a b. part_is σ a (omega arith) d₃ w₃ third_stand (stands_narrower s z (omega arith) b st))))
        (not_is (prefix_is (λ l. given last₂ ν d₂ σ s l)
        (λ z a b. given_is σ a (omega arith) last₂ d₂ w₂ (besides d₂.names Θ₁₃ K₁₃ (union_left (listed Θ₁₃) no_names))
        (stands_narrower s z (omega arith) b st)))))

    -- one placement of the names of D1 and D3 from i to the end, for every j and k: an answer starts at i or at j
    answers : (i : ℕ) (start : ℕ → ℕ) → ((j : ℕ) → i ≤ j → i ≤ start j)
        → some_placement Θ₁₃ i last unplaced
        (λ ν. some_in i last (λ j. some_in (start j) last (λ k. together d₁ d₃.names σ i j (start j) k (unmet d₁ d₂ d₃ σ (start j) k) ν)))
        ≡ some_in i last (λ j. some_in (start j) last (λ k. unanswered d₁ d₂ d₃ σ i j (start j) k))
    unfolding unanswered
    answers i start later =
        swap Θ₁₃ i last unplaced i (suc last)
        (λ ν j. some_in (start j) last (λ k. together d₁ d₃.names σ i j (start j) k (unmet d₁ d₂ d₃ σ (start j) k) ν))
        ∙ some_cong i (suc last)
        (λ j. some_placement Θ₁₃ i last unplaced
        (λ ν. some_in (start j) last (λ k. together d₁ d₃.names σ i j (start j) k (unmet d₁ d₂ d₃ σ (start j) k) ν)))
        (λ j. some_in (start j) last (λ k. unanswered d₁ d₂ d₃ σ i j (start j) k))
        (λ j l h. swap Θ₁₃ i last unplaced (start j) (suc last)
        (λ ν k. together d₁ d₃.names σ i j (start j) k (unmet d₁ d₂ d₃ σ (start j) k) ν)
        ∙ some_cong (start j) (suc last)
        (λ k. some_placement Θ₁₃ i last unplaced (together d₁ d₃.names σ i j (start j) k (unmet d₁ d₂ d₃ σ (start j) k)))
        (λ k. unanswered d₁ d₂ d₃ σ i j (start j) k)
        (λ k a b. sym (join d₁ d₃.names σ w₁ i i j (start j) k last (omega arith) l (omega arith) (later j l) (omega arith) (omega arith)
        (unmet d₁ d₂ d₃ σ (start j) k))))

    follows_is : Says (broken_of follows (undrawn d₁.formula) d₁.names (undrawn d₂.formula) d₂.names (undrawn d₃.formula) d₃.names) σ unmarked 0 last
        (some_in 0 last (λ i. some_in i last (λ j. some_in j last (λ k. unanswered d₁ d₂ d₃ σ i j j k))))
    unfolding broken_of
    follows_is =
        suffix_is (λ i. some_in i last (λ j. some_in j last (λ k. unanswered d₁ d₂ d₃ σ i j j k)))
        (λ i a b. says_as (answers i (λ j. j) (λ j l. l))
        (placed_is Θ₁₃ no_names
        (λ ν. some_in i last (λ j. some_in j last (λ k. together d₁ d₃.names σ i j j k (unmet d₁ d₂ d₃ σ j k) ν)))
        (omega arith) (none_stand i last unmarked unplaced)
        (λ μ ν s. says_as
        (some_cong i (suc last)
        (λ j. first_on ν i j
        && some_in j last (λ k. unmet_on ν j k))
        (λ j. some_in j last (λ k. together d₁ d₃.names σ i j j k (unmet d₁ d₂ d₃ σ j k) ν))
        (λ j l h. and_some (first_on ν i j) j (suc last)
        (λ k. unmet_on ν j k)))
        (chop_is (λ j. first_on ν i j)
        (λ j. some_in j last (λ k. unmet_on ν j k))
        (λ j l h. first_is_lem i j l h (stands_narrower i j (omega arith) h s))
        (λ j l h. prefix_is (λ k. unmet_on ν j k)
        (λ k p q. unmet_is j k p q (stands_narrower j k l q s)))))))

    triggers_is : Says (broken_of triggers (undrawn d₁.formula) d₁.names (undrawn d₂.formula) d₂.names (undrawn d₃.formula) d₃.names) σ unmarked 0 last
        (some_in 0 last (λ i. some_in i last (λ j. some_in i last (λ k. unanswered d₁ d₂ d₃ σ i j i k))))
    unfolding broken_of
    triggers_is =
        suffix_is (λ i. some_in i last (λ j. some_in i last (λ k. unanswered d₁ d₂ d₃ σ i j i k)))
        (λ i a b. says_as (answers i (λ j. i) (λ j l. omega arith))
        (placed_is Θ₁₃ no_names
        (λ ν. some_in i last (λ j. some_in i last (λ k. together d₁ d₃.names σ i j i k (unmet d₁ d₂ d₃ σ i k) ν)))
        (omega arith) (none_stand i last unmarked unplaced)
        (λ μ ν s. says_as
        (some_and (some_in i last (λ k. unmet_on ν i k)) i (suc last)
        (λ j. first_on ν i j)
        ∙ some_cong i (suc last)
        (λ j. first_on ν i j
        && some_in i last (λ k. unmet_on ν i k))
        (λ j. some_in i last (λ k. together d₁ d₃.names σ i j i k (unmet d₁ d₂ d₃ σ i k) ν))
        (λ j l h. and_some (first_on ν i j) i (suc last)
        (λ k. unmet_on ν i k)))
        (and_is
        (prefix_is (λ j. first_on ν i j)
        (λ j l h. first_is_lem i j l h (stands_narrower i j (omega arith) h s)))
        (prefix_is (λ k. unmet_on ν i k)
        (λ k p q. unmet_is i k p q (stands_narrower i k (omega arith) q s)))))))

  type_is : (κ : ClauseType) (d₁ d₂ d₃ : Part) → parts_fit κ d₁ d₂ d₃ ≡ true
      → Says (broken_of κ (undrawn d₁.formula) d₁.names (undrawn d₂.formula) d₂.names (undrawn d₃.formula) d₃.names) σ unmarked 0 last
      (some_three (length σ) (breaks_at κ d₁ d₂ d₃ σ))
  unfolding parts_fit breaks_at
  type_is pref d₁ d₂ d₃ w =
      says_as (sym (from_start (length σ) positive (λ j. not (given d₁.names unplaced d₁ σ 0 j)))) (pref_is d₁ d₂ d₃ w)
  type_is init d₁ d₂ d₃ w =
      says_as (sym (from_start (length σ) positive
      (λ j. some_placement d₂.names 0 j unplaced (λ ν. on d₂ σ ν 0 j && not (some_in 0 j (λ l. given (without d₁.names d₂.names) ν d₁ σ 0 l))))))
      (init_is d₁ d₂ d₃ (and_left (fits d₁) (fits d₂) w) (and_right (fits d₁) (fits d₂) w))
  type_is anti d₁ d₂ d₃ w =
      says_as (sym (on_intervals (length σ) positive (λ i j. given d₁.names unplaced d₁ σ i j))) (anti_is d₁ d₂ d₃ w)
  type_is implies d₁ d₂ d₃ w =
      says_as (sym (on_intervals (length σ) positive
      (λ i j. some_placement d₁.names i j unplaced (λ ν. on d₁ σ ν i j && not (given (without d₂.names d₁.names) ν d₂ σ i j)))))
      (implies_is d₁ d₂ d₃ (and_left (fits d₁) (fits d₂) w) (and_right (fits d₁) (fits d₂) w))
  type_is follows d₁ d₂ d₃ w =
      let r = and_right (fits d₁) (fits d₂ && fits d₃) w in
      says_as (sym (on_answers (length σ) positive (λ i j. j) (λ i j k. unanswered d₁ d₂ d₃ σ i j j k)))
      (follows_is d₁ d₂ d₃ (and_left (fits d₁) (fits d₂ && fits d₃) w) (and_left (fits d₂) (fits d₃) r) (and_right (fits d₂) (fits d₃) r))
  type_is triggers d₁ d₂ d₃ w =
      let r = and_right (fits d₁) (fits d₂ && fits d₃) w in
      says_as (sym (on_answers (length σ) positive (λ i j. i) (λ i j k. unanswered d₁ d₂ d₃ σ i j i k)))
      (triggers_is d₁ d₂ d₃ (and_left (fits d₁) (fits d₂ && fits d₃) w) (and_left (fits d₂) (fits d₃) r) (and_right (fits d₂) (fits d₃) r))

  clause_is : (c : Clause) → clause_fits c ≡ true → Says (broken_clause c) σ unmarked 0 last (fails c σ)
  unfolding clause_fits broken_clause fails breaks some_three
  clause_is c w = type_is c.type c.first c.second c.third w

  joined_is : (r : Role) (cs : List Clause) (f : Formula) (p : Bool) → all_fit cs ≡ true → Says f σ unmarked 0 last p
      → Says (join_broken r f cs) σ unmarked 0 last (p || some_fails r cs σ)
  unfolding all_fit join_broken some_fails fails_as
  joined_is r [] f p w s = says_as (sym (or_false p)) s
  joined_is r (c ∷ cs) f p w s =
      go (has_role r c) (λ g q. joined_is r cs g q (and_right (clause_fits c) (all_fit cs) w))
    where
      regroup : (a b d : Bool) → a || b || d ≡ (a || (b || d))
      regroup true b d = refl
      regroup false b d = refl

      go : (a : Bool)
          → ((g : Formula) (q : Bool) → Says g σ unmarked 0 last q → Says (join_broken r g cs) σ unmarked 0 last (q || some_fails r cs σ))
          → Says (join_broken r (cond a (disjunction f (broken_clause c)) f) cs) σ unmarked 0 last (p || (a && fails c σ || some_fails r cs σ))
      go true rest =
          says_as (regroup p (fails c σ) (some_fails r cs σ))
          (rest (disjunction f (broken_clause c)) (p || fails c σ) (or_is s (clause_is c (and_left (clause_fits c) (all_fit cs) w))))
      go false rest = rest f p s

  pub agreement : (cs : List Clause) → all_fit cs ≡ true → true_of (translation cs) σ ≡ requirement cs σ
  unfolding true_of translation requirement
  agreement cs w =
      (or_is (joined_is assumption_role cs _ false w nothing_is) (not_is (joined_is commitment cs _ false w nothing_is))).same
