-- Loops over the cycles of one name, and what a walk over placements finds.
use Rattle.std.proofs.Common.{ℕ, zero, suc, ◌+◌, ◌-◌, ◌/◌, ◌%◌, ◌≤◌, ◌<◌, arith, add-one, Bool, true, false, not, cond, ◌&&◌, ◌||◌, List, [], ◌∷◌, inl, inr, ◌≡◌, refl, sym, ap, ap₂, ◌∙◌, leb, eqb, length, get_or, set, get_or-set_same, get_or-set_other, leb-true, eqb-true}
use mathlib.Core.Path.{fun_ext}
use borrow.Author.Tests.{eqb-false}
use Rattle.semantics.specs.Cycles.{some_from, some_in}
use Rattle.semantics.specs.Proposition.{Trace, bit}
use Rattle.semantics.specs.Placement.{Names, Placement, unplaced, moved, place_name}
use Rattle.semantics.specs.Clause.{ClauseType, pref, init, anti, implies, follows, triggers}
use Rattle.semantics.proofs.Tests.{same, test, or_false}
use Rattle.semantics.proofs.Cycles.{some_intro, some_elim, some_none, some_cong}
use Rattle.semantics.proofs.Placement.{moved_same}
use Rattle.tables.specs.Table.{standing}
use Rattle.places.specs.declared.walk.Job.{Job}
use Rattle.intervals.specs.Search.{missed}
use Rattle.intervals.specs.Places.{numbered, IsLeast}
use Rattle.intervals.specs.Rows.{test_of}
use Rattle.intervals.specs.Gather.{Adds}
use Rattle.places.specs.Laid.{Walked, over_last, missed_on, reply_on, low_of, last_of}
use Rattle.intervals.proofs.Places.{least_ext, least_stay, least_then, some_step, numbered_same}

-- one name put on a cycle
pub moved_standing : (cycles : List ℕ) (u t : ℕ) → u < length cycles → moved u t (standing cycles) ≡ standing (set cycles u t)
unfolding moved standing
moved_standing cycles u t h = fun_ext (λ v. elim (test (eqb v u)) [
  | inl e ↦ rw (e, eqb-true v u e) (sym (get_or-set_same cycles u t 0 h))
  | inr e ↦ rw e (sym (get_or-set_other cycles u v t 0 (eqb-false v u e)))
])

pub unplaced_stands : unplaced ≡ standing (0 ∷ 0 ∷ 0 ∷ [])
unfolding unplaced standing
unplaced_stands = fun_ext all
  where
    all : (u : ℕ) → unplaced u ≡ standing (0 ∷ 0 ∷ 0 ∷ []) u
    all zero = refl
    all (suc zero) = refl
    all (suc (suc zero)) = refl
    all (suc (suc (suc u))) = refl

-- a loop over the cycles of name u is its placement
pub place_loop : (u : ℕ) (names : Names) (n : ℕ) (ν : Placement) (q : Placement → Bool) → 0 < n
    → some_in (low_of (names u) (ν u)) (last_of (names u) n (ν u)) (λ t. q (moved u t ν)) ≡ place_name u names 0 (n - 1) ν q
unfolding place_name
place_loop u names n ν q h = go (names u)
  where
    go : (a : Bool) → some_in (cond a 0 (ν u)) (cond a (n - 1) (ν u)) (λ t. q (moved u t ν)) ≡ cond a (some_in 0 (n - 1) (λ t. q (moved u t ν))) (q ν)
    go true = refl
    go false =
        same (some_in (ν u) (ν u) (λ t. q (moved u t ν))) (q ν)
        (λ s. let w = some_elim (ν u) (suc (ν u)) (λ t. q (moved u t ν)) s in
        let e : w.at ≡ ν u = omega (arith, w.low, w.high) in
        rw (moved_same u w.at ν e) at w.ok)
        (λ s. some_intro (ν u) (suc (ν u)) (λ t. q (moved u t ν)) (ν u) (omega arith) (omega arith) (rw (moved_same u (ν u) ν refl) s))

pub low_last : (moves : Bool) (n p : ℕ) → p < n → (low_of moves p ≤ last_of moves n p) × (last_of moves n p < n)
low_last true n p h = (omega arith, omega arith)
low_last false n p h = (omega arith, omega arith)

-- one level of a walk: the loop over the next name
pub level : (cycles : List ℕ) (left : ℕ) (names : ℕ) (n low last : ℕ) (q : Placement → Bool) → length cycles ≡ 3 → 0 < left → left ≤ 3 → 0 < n
    → low ≡ low_of (bit names (3 - left)) (get_or cycles (3 - left) 0) → last ≡ last_of (bit names (3 - left)) n (get_or cycles (3 - left) 0)
    → some_in low last (λ t. over_last (left - 1) (bit names) n (standing (set cycles (3 - left) t)) q) ≡ over_last left (bit names) n (standing cycles) q
unfolding over_last standing
level cycles zero names n low last q long some three h l k = absurd (omega arith)
level cycles (suc left) names n low last q long some three h l k =
    let this : 3 - suc left ≡ 2 - left = omega arith in
    let less : suc left - 1 ≡ left = omega arith in
    ap₂ (λ (a b : ℕ). some_in a b (λ t. over_last (suc left - 1) (bit names) n (standing (set cycles (3 - suc left) t)) q)) l k
    ∙ ap₂ (λ (u v : ℕ). some_in (low_of (bit names u) (get_or cycles u 0)) (last_of (bit names u) n (get_or cycles u 0)) (λ t. over_last v (bit names) n (standing (set cycles u t)) q)) this less
    ∙ ap (some_in (low_of (bit names (2 - left)) (get_or cycles (2 - left) 0)) (last_of (bit names (2 - left)) n (get_or cycles (2 - left) 0)))
    (fun_ext (λ t. ap (λ (ν : Placement). over_last left (bit names) n ν q) (sym (moved_standing cycles (2 - left) t (omega arith)))))
    ∙ place_loop (2 - left) (bit names) n (standing cycles) (λ ν. over_last left (bit names) n ν q) h

pub adds_ext : (n : ℕ) (before after : List ℕ) (p q : ℕ → ℕ → Bool) → ((b e : ℕ) → b ≤ e → e < n → p b e ≡ q b e) → Adds n before after p → Adds n before after q
adds_ext n before after p q f a = record { adds = λ b e l h. a.adds b e l h ∙ ap (λ (r : Bool). test_of before b e || r) (f b e l h) }

-- ---- what a walk has found
module _ (job : Job) (σ : Trace) where
  abbrev nodes : List ℕ
  nodes = job.nodes.now

  pub walked_ext : {best r : ℕ} {rows rows' : List ℕ} {over over' : (Placement → Bool) → Bool} → ((q : Placement → Bool) → over q ≡ over' q)
      → Walked job σ best r rows rows' over → Walked job σ best r rows rows' over'
  walked_ext {rows = rows} {rows'} {over} {over'} f w =
      record {
        places = λ e. least_ext (λ y h. f (missed_on nodes σ job.n job.task y)) (w.places e);
        answers = λ e. adds_ext job.n rows rows' _ _ (λ b c l h. f (reply_on nodes σ job.task b c)) (w.answers e);
        most = w.most;
      }

  -- nothing yet
  pub walked_none : (best low : ℕ) (rows : List ℕ) (over : ℕ → (Placement → Bool) → Bool) → Walked job σ best best rows rows (λ q. some_from low low (λ t. over t q))
  walked_none best low rows over =
      record {
        places = λ e. least_stay (λ y h. none (missed_on nodes σ job.n job.task y));
        answers = λ e. record {
          adds = λ b c l h.
              sym (or_false (test_of rows b c)) ∙ ap (λ (r : Bool). test_of rows b c || r) (sym (none (reply_on nodes σ job.task b c)));
        };
        most = omega arith;
      }
    where
      none : (q : Placement → Bool) → some_from low low (λ t. over t q) ≡ false
      none q = some_none low low (λ t. over t q) (λ t x y z. absurd (omega arith))

  -- one cycle more
  pub walked_turn : (low t : ℕ) {best r s : ℕ} {rows rows' rows'' : List ℕ} (over : ℕ → (Placement → Bool) → Bool) → low ≤ t
      → Walked job σ best r rows rows' (λ q. some_from low t (λ t. over t q)) → Walked job σ r s rows' rows'' (over t)
      → Walked job σ best s rows rows'' (λ q. some_from low (t + 1) (λ t. over t q))
  walked_turn low t {best} {r} {s} {rows} {rows'} {rows''} over h w v =
      record {
        places = λ e. least_ext (λ y l. turn (missed_on nodes σ job.n job.task y)) (least_then (w.places e) (v.places e));
        answers = λ e. record {
          adds = λ b c l m.
              (v.answers e).adds b c l m
              ∙ ap (λ (x : Bool). x || over t (reply_on nodes σ job.task b c)) ((w.answers e).adds b c l m)
              ∙ regroup (test_of rows b c) (some_from low t (λ t. over t (reply_on nodes σ job.task b c))) (over t (reply_on nodes σ job.task b c))
              ∙ ap (λ (x : Bool). test_of rows b c || x) (turn (reply_on nodes σ job.task b c));
        };
        most = let l = w.most in let m = v.most in omega arith;
      }
    where
      turn : (q : Placement → Bool) → some_from low t (λ t. over t q) || over t q ≡ some_from low (t + 1) (λ t. over t q)
      turn q = sym (some_step low t (λ t. over t q) h) ∙ ap (λ (e : ℕ). some_from low e (λ t. over t q)) (sym (add-one t))

      regroup : (a b c : Bool) → a || b || c ≡ (a || (b || c))
      regroup true b c = refl
      regroup false b c = refl

-- ---- tests that agree on the intervals of the trace miss alike
module _ (n : ℕ) (f f' t t' a a' : ℕ → ℕ → Bool) (ef : (b e : ℕ) → b ≤ e → e < n → f b e ≡ f' b e) (et : (b e : ℕ) → b ≤ e → e < n → t b e ≡ t' b e)
    (ea : (b e : ℕ) → b ≤ e → e < n → a b e ≡ a' b e) where
  none_upto : (s k : ℕ) → k < n → some_in s k (a s) ≡ some_in s k (a' s)
  none_upto s k h = some_cong s (suc k) (a s) (a' s) (λ l x y. ea s l x (omega arith))

  under : (x y p q : Bool) → (x ≡ true → y ≡ true → p ≡ q) → x && y && p ≡ (x && y && q)
  under true true p q g = g refl refl
  under true false p q g = refl
  under false y p q g = refl

  missed_ext : (κ : ClauseType) (i j k : ℕ) → j < n → k < n → missed κ f t a i j k ≡ missed κ f' t' a' i j k
  unfolding missed
  missed_ext pref i j k hj hk = ap (λ (r : Bool). eqb i 0 && eqb k j && not r) (ea 0 j (omega arith) hj)
  missed_ext init i j k hj hk =
      ap₂ (λ (r s : Bool). eqb i 0 && eqb k j && (r && not s)) (ef 0 j (omega arith) hj) (none_upto 0 j hj)
  missed_ext anti i j k hj hk = under (leb i j) (eqb k j) (f i j) (f' i j) (λ p q. ef i j (leb-true i j p) hj)
  missed_ext implies i j k hj hk =
      under (leb i j) (eqb k j) (f i j && not (a i j)) (f' i j && not (a' i j))
      (λ p q. ap₂ (λ (r s : Bool). r && not s) (ef i j (leb-true i j p) hj) (ea i j (leb-true i j p) hj))
  missed_ext follows i j k hj hk =
      under (leb i j) (leb j k) (f i j && (t j k && not (some_in j k (a j)))) (f' i j && (t' j k && not (some_in j k (a' j))))
      (λ p q. ap₂ (λ (r s : Bool). r && s) (ef i j (leb-true i j p) hj)
      (ap₂ (λ (r s : Bool). r && not s) (et j k (leb-true j k q) hk) (none_upto j k hk)))
  missed_ext triggers i j k hj hk =
      under (leb i j) (leb i k) (f i j && (t i k && not (some_in i k (a i)))) (f' i j && (t' i k && not (some_in i k (a' i))))
      (λ p q. ap₂ (λ (r s : Bool). r && s) (ef i j (leb-true i j p) hj)
      (ap₂ (λ (r s : Bool). r && not s) (et i k (leb-true i k q) hk) (none_upto i k hk)))

  pub missed_least : (κ : ClauseType) (best r : ℕ) → IsLeast best (numbered n (missed κ f t a)) r → IsLeast best (numbered n (missed κ f' t' a')) r
  missed_least κ best r l =
      least_ext (λ x m. numbered_same n (missed κ f t a) (missed κ f' t' a') x
      (λ hi hj hk. missed_ext κ (x / 4096) (x / 64 % 64) (x % 64) hj hk)) l
