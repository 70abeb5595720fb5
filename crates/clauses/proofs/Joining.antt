-- The clauses joined by role, and the root over them.
use Rattle.std.proofs.Common.{ℕ, zero, suc, ◌+◌, ◌*◌, ◌≤◌, ◌<◌, Bool, true, false, cond, List, [], ◌∷◌, ◌++◌, inl, inr, ◌≡◌, refl, sym, ◌∙◌, ap, ap₂, subst, add-one, arith, eqb-true, eq-eqb, ne_eqb, eqb, length, get_or, set, take, get_or-set_same, get_or-set_other, take-suc, take_all, add-mul, one-mul, length-set}
use Rattle.std.proofs.lemmas.Bool.{eqb-false}
use Rattle.semantics.specs.Proposition.{bit}
use Rattle.semantics.specs.Formula.{Formula, disjunction, at}
use Rattle.semantics.specs.Clause.{Role, Clause}
use Rattle.semantics.specs.Verdict.{same_role, has_role}
use Rattle.semantics.specs.Translation.{nothing, undrawn, broken_clause, join_broken, translation}
use Rattle.semantics.proofs.Tests.{test}
use Rattle.stored.specs.declared.Node.{Node}
use Rattle.stored.specs.declared.StoredClause.{StoredClause}
use Rattle.stored.specs.Node.{node_at}
use Rattle.stored.specs.Tree.{formula_at}
use Rattle.stored.specs.Reach.{entry_of}
use Rattle.stored.specs.Clause.{stored_at, last_role, role_of, part_of, clause_of}
use Rattle.stored.specs.Sheet.{header_of}
use Rattle.stored.proofs.Rules.{length_in_order, get_or_in_order}
use Rattle.stored.proofs.Roles.{same_role_lem}
use Rattle.stored.proofs.Accepted.{PartKept, ClauseKept, clause_kept}
use Rattle.plans.specs.Emission.{count, Step, Has, Emits, Ready}
use Rattle.plans.specs.Plan.{node, op_or, op_not, Put}
use Rattle.emission.specs.Copying.{Mapped, copy_costs}
use Rattle.plans.proofs.Steps.{stay, steps, wider, has_kept, put_place}
use Rattle.plans.proofs.Nodes.{or_new, not_new}
use Rattle.plans.proofs.Plans.{Tells, told}
use Rattle.clauses.specs.Clauses.{ClausesIn, side_count, broken_in, JoinedBy, passed, joined, clause_at, clauses_at, clause_cost, requirement_cost}
use Rattle.clauses.proofs.Names.{mask_inside}
use Rattle.clauses.proofs.Broken.{broken_told}

-- ---- a clause over the copies
pub clauses_kept : {x y nodes clauses : List ℕ} {n c j : ℕ} → Step x y j → ClausesIn x nodes n clauses c → ClausesIn y nodes n clauses c
clauses_kept s h = record { few = h.few; inside = h.inside; right = h.right; named = λ k l. rw s.names (h.named k l) }

-- what is known of a clause that was read
pub clause_known : {x nodes clauses : List ℕ} {n c : ℕ} {d : StoredClause} → ClausesIn x nodes n clauses c → (k : ℕ) → k < c → d ≡ stored_at clauses k
    → ClauseKept (node_at nodes) n (header_of x).names d
clause_known {x} {nodes} {clauses} {n} h k l e =
    rw e (clause_kept (node_at nodes) n (header_of x).names (stored_at clauses k) (h.right k l) (h.named k l))

module _ {y : List ℕ} (map : List ℕ) (x : ℕ → Node) (n : ℕ) (d : StoredClause) (mapped : Mapped x n y map) (kept : ClauseKept x n (header_of y).names d) where
  part_told : (used : Bool) (root mask : ℕ) → PartKept x n (header_of y).names used root mask → used ≡ true
      → Tells y (at (entry_of map root)) (undrawn (formula_at x root)) 0
  part_told used root mask p u = told ((mapped root (p.root_found u).less).formula (p.root_found u).sorted)

  clause_told : Ready y → Tells y (broken_in map d) (broken_clause (clause_of x d)) (10 + 3 * (header_of y).names)
  unfolding broken_in broken_clause clause_of part_of
  clause_told ready =
      let m = (header_of y).names in
      broken_told ready
      (at (entry_of map d.root1)) (at (entry_of map d.root2)) (at (entry_of map d.root3))
      (undrawn (formula_at x d.root1)) (undrawn (formula_at x d.root2)) (undrawn (formula_at x d.root3))
      (bit d.mask1) (bit d.mask2) (bit d.mask3)
      (mask_inside m d.mask1 kept.part1.small) (mask_inside m d.mask2 kept.part2.small) (mask_inside m d.mask3 kept.part3.small)
      d.clause_type kept.type_least kept.type_most
      (part_told _ d.root1 d.mask1 kept.part1)
      (part_told _ d.root2 d.mask2 kept.part2)
      (part_told _ d.root3 d.mask3 kept.part3)

clause_role : (nodes clauses : List ℕ) (k : ℕ) (d : StoredClause) → d ≡ stored_at clauses k → (clause_at nodes clauses k).role ≡ role_of d.role
unfolding clause_at clause_of
clause_role nodes clauses k d e = ap (λ (o : StoredClause). role_of o.role) (sym e)

-- clause k of the list
clauses_length : (nodes clauses : List ℕ) (c : ℕ) → length (clauses_at nodes clauses c) ≡ c
unfolding clauses_at
clauses_length nodes clauses c = length_in_order c (clause_at nodes clauses)

clauses_at_lem : (nodes clauses : List ℕ) (c k : ℕ) → k < c → get_or (clauses_at nodes clauses c) k (clause_at nodes clauses k) ≡ clause_at nodes clauses k
unfolding clauses_at
clauses_at_lem nodes clauses c k h = get_or_in_order c (clause_at nodes clauses) k (clause_at nodes clauses k) h

-- ---- costs
joined_cost : (k m : ℕ) → k * (11 + 3 * m) + (11 + 3 * m) ≡ (k + 1) * (11 + 3 * m)
joined_cost k m = sym (add-mul k 1 (11 + 3 * m) ∙ ap (λ (z : ℕ). k * (11 + 3 * m) + z) (one-mul (11 + 3 * m)))

joined_most : (k m : ℕ) → k ≤ 8 → m ≤ 3 → k * (11 + 3 * m) ≤ 160
joined_most k zero h l = omega arith
joined_most k (suc zero) h l = omega arith
joined_most k (suc (suc zero)) h l = omega arith
joined_most k (suc (suc (suc zero))) h l = omega arith
joined_most k (suc (suc (suc (suc m)))) h l = absurd (omega arith)

pub joined_bound : (c m : ℕ) → 1 ≤ c → m ≤ 3 → c * (11 + 3 * m) + 2 ≤ c * (16 + 5 * m)
joined_bound c zero h l = omega arith
joined_bound c (suc zero) h l = omega arith
joined_bound c (suc (suc zero)) h l = omega arith
joined_bound c (suc (suc (suc zero))) h l = omega arith
joined_bound c (suc (suc (suc (suc m)))) h l = absurd (omega arith)

-- ---- the first k clauses joined: node j of the sides is the formula of role j's
pub record Joined (cs : List Clause) (x : List ℕ) (k : ℕ) (y sides : List ℕ) : Type 0 where
  pub step : Step x y (k * clause_cost (header_of x).names)
  pub two : length sides ≡ side_count
  pub has : (j : ℕ) → j < side_count → Has y (get_or sides j 0) (join_broken (role_of j) nothing (take k cs))

pub joined_start : {x : List ℕ} (cs : List Clause) → Ready x → Joined cs x 0 x (2 ∷ 2 ∷ [])
unfolding join_broken
joined_start {x} cs ready = record { step = wider _ (omega arith) (stay ready.good); two = refl; has = is }
  where
    is : (j : ℕ) → j < side_count → Has x (get_or (2 ∷ 2 ∷ []) j 0) nothing
    is zero l = ready.never
    is (suc zero) l = ready.never
    is (suc (suc j)) l = absurd (omega arith)

-- the stored clause's formula beside those before it is the clause's
is_clause : (nodes clauses : List ℕ) (c k : ℕ) (d : StoredClause) → d ≡ stored_at clauses k
    → disjunction (join_broken (role_of d.role) nothing (take k (clauses_at nodes clauses c))) (broken_clause (clause_of (node_at nodes) d))
    ≡ disjunction (join_broken (role_of d.role) nothing (take k (clauses_at nodes clauses c))) (broken_clause (clause_at nodes clauses k))
unfolding clause_at
is_clause nodes clauses c k d read =
    let earlier = join_broken (role_of d.role) nothing (take k (clauses_at nodes clauses c)) in
    ap (λ (o : StoredClause). disjunction earlier (broken_clause (clause_of (node_at nodes) o))) read

-- formula f of the earlier clauses, with clause c joined where it is of the role
with_last : Bool → Formula → Clause → Formula
with_last of f c = cond of (disjunction f (broken_clause c)) f

join_snoc : (r : Role) (f : Formula) (cs : List Clause) (c : Clause) → join_broken r f (cs ++ (c ∷ [])) ≡ with_last (has_role r c) (join_broken r f cs) c
unfolding join_broken with_last
join_snoc r f [] c = refl
join_snoc r f (d ∷ cs) c = join_snoc r (cond (has_role r d) (disjunction f (broken_clause d)) f) cs c

has_as : {y : List ℕ} {a : ℕ} {f g : Formula} (b : ℕ) → a ≡ b → f ≡ g → Has y a f → Has y b g
has_as b e q h = rw (sym e, sym q) h

module _ (cs : List Clause) (k : ℕ) (c : Clause) (inside : k < length cs) (is : get_or cs k c ≡ c) where
  join_one : (r : Role) (b : Bool) → has_role r c ≡ b → with_last b (join_broken r nothing (take k cs)) c ≡ join_broken r nothing (take (k + 1) cs)
  join_one r b e =
      sym (ap (λ (n : ℕ). join_broken r nothing (take n cs)) (add-one k)
      ∙ ap (join_broken r nothing) (take-suc cs k c inside ∙ ap (λ (o : Clause). take k cs ++ (o ∷ [])) is)
      ∙ join_snoc r nothing (take k cs) c
      ∙ ap (λ (z : Bool). with_last z (join_broken r nothing (take k cs)) c) e)

  module _ {x y sides : List ℕ} (role : ℕ) (small : role ≤ last_role) (roled : c.role ≡ role_of role) (h : Joined cs x k y sides) where
    of : (j : ℕ) → j < side_count → has_role (role_of j) c ≡ eqb j role
    unfolding has_role
    of j l = ap (same_role (role_of j)) roled ∙ same_role_lem j role (omega arith) small

    -- the clause is joined to its side
    joined_one : {w : List ℕ} {r j : ℕ} → role < side_count → Step x w ((k + 1) * clause_cost (header_of x).names) → Step y w j
        → Has w r (disjunction (join_broken (role_of role) nothing (take k cs)) (broken_clause c)) → Joined cs x (k + 1) w (set sides role r)
    unfolding with_last
    joined_one {w} {r} side all s new =
        record {
          step = all;
          two = length-set sides role r ∙ h.two;
          has =
              λ j l. elim (test (eqb j role)) [
                | inl q ↦ let e = eqb-true j role q in
                    subst (λ (i : ℕ). Has w (get_or (set sides role r) i 0) (join_broken (role_of i) nothing (take (k + 1) cs))) (sym e)
                    (has_as _ (sym (get_or-set_same sides role r 0 (omega (arith, h.two))))
                    (join_one (role_of role) true (of role side ∙ eq-eqb role role refl)) new)
                | inr q ↦ has_as _ (sym (get_or-set_other sides role j r 0 (eqb-false j role q))) (join_one (role_of j) false (of j l ∙ q)) (has_kept s (h.has j l))
              ];
        }

    -- advice has none
    joined_over : side_count ≤ role → Joined cs x (k + 1) y sides
    unfolding with_last
    joined_over large =
        record {
          step = wider _ (omega (arith, joined_cost k (header_of x).names)) h.step;
          two = h.two;
          has = λ j l. has_as _ refl (join_one (role_of j) false (of j l ∙ ne_eqb j role (λ e. omega arith))) (h.has j l);
        }

-- one clause more
pub joined_next : {x y w sides sides' : List ℕ} {n c : ℕ} (map nodes clauses : List ℕ) (k : ℕ) (d : StoredClause) → Ready x → count x ≤ 777
    → ClausesIn x nodes n clauses c → Mapped (node_at nodes) n x map → k < c → d ≡ stored_at clauses k → Joined (clauses_at nodes clauses c) x k y sides
    → JoinedBy map d y w sides sides' → Joined (clauses_at nodes clauses c) x (k + 1) w sides'
joined_next {n = n} {c} map nodes clauses k d ready low sheet mapped less read h (passed large) =
    let kept = clause_known sheet k less read in
    joined_over (clauses_at nodes clauses c) k (clause_at nodes clauses k) (omega (arith, clauses_length nodes clauses c)) (clauses_at_lem nodes clauses c k less)
    d.role kept.role_most (clause_role nodes clauses k d read) h large
joined_next {x} {y} {w} {n = n} {c} map nodes clauses k d ready low sheet mapped less read h (joined {y = z} {b = b} side wrote put) =
    let m = (header_of x).names in
    let kept = clause_known sheet k less read in
    let cost = joined_cost k m in
    let most = joined_most (k + 1) m (omega (arith, sheet.few)) ready.good.few_names in
    let e = clause_told map (node_at nodes) n d mapped kept ready y z b _ h.step (omega (arith, h.step.few)) wrote in
    let o = or_new e.step.good (omega (arith, h.step.few, e.step.few)) (has_kept e.step (h.has d.role side)) e.has put in
    let s = steps e.step o.step in
    joined_one (clauses_at nodes clauses c) k (clause_at nodes clauses k) (omega (arith, clauses_length nodes clauses c)) (clauses_at_lem nodes clauses c k less)
    d.role kept.role_most (clause_role nodes clauses k d read) h side (wider _ (omega arith) (steps h.step s)) s (has_as _ refl (is_clause nodes clauses c k d read) o.has)

-- all joined, and the root, after the nodes of the sheet
pub joined_done : {x₀ x y z w sides : List ℕ} {t r : ℕ} (nodes clauses : List ℕ) (n k c : ℕ) → k ≡ c → c ≤ 8
    → Step x₀ x (copy_costs (node_at nodes) n) → count x ≤ 777
    → Joined (clauses_at nodes clauses c) x k y sides → Put (node op_not 0 (get_or sides 1 0) 0) y z t → Put (node op_or 0 (get_or sides 0 0) t) z w r
    → (Emits x₀ w r (requirement_cost nodes n c (header_of x₀).names) (translation (clauses_at nodes clauses c))) × (count w ≡ r + 1)
unfolding translation role_of requirement_cost
joined_done {x₀} {x} {y} {sides = sides} nodes clauses n k c full few copy low h put put' =
    let step = h.step in
    let cost = ap₂ (λ (j m : ℕ). j * clause_cost m) full copy.names in
    let most = joined_most k (header_of x).names (omega arith) (omega (arith, step.good.few_names)) in
    let e = not_new step.good (omega arith) (whole 1 (omega arith)) put in
    let first = has_kept e.step (whole 0 (omega arith)) in
    let o = or_new e.step.good (omega arith) first e.has put' in
    let place = put_place e.step.good (omega arith) (omega arith) (omega arith) (omega arith) (omega arith) put' in
    (record { step = wider _ (omega arith) (steps copy (steps (steps step e.step) o.step)); has = o.has }, omega arith)
  where
    all : length (clauses_at nodes clauses c) ≤ k
    all = omega (arith, clauses_length nodes clauses c)

    whole : (j : ℕ) → j < side_count → Has y (get_or sides j 0) (join_broken (role_of j) nothing (clauses_at nodes clauses c))
    whole j l = has_as _ refl (ap (join_broken (role_of j) nothing) (take_all k (clauses_at nodes clauses c) all)) (h.has j l)
