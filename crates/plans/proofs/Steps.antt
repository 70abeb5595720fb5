-- New nodes leave the earlier ones: steps compose, what a node is stays, and one node more is a step.
use Rattle.std.proofs.Common.{ℕ, ◌+◌, ◌≤◌, ◌<◌, Bool, true, false, cond, ◌&&◌, List, inl, inr, ◌≡◌, refl, sym, ◌∙◌, ap, ap₂, subst, arith, ltb-true, eqb-true, ltb, eqb, length, get_or, drop, Option}
use Rattle.std.proofs.lemmas.Bool.{eqb-false}
use Rattle.semantics.specs.Proposition.{Proposition}
use Rattle.semantics.specs.Formula.{Formula}
use Rattle.semantics.proofs.Tests.{test, and_intro}
use Rattle.stored.specs.declared.Node.{Node}
use Rattle.stored.specs.declared.nodes.Sort.{Sort}
use Rattle.stored.specs.declared.nodes.Use.{Use}
use Rattle.stored.specs.declared.nodes.Use.TheVariants.{Nothing, Signal, Name, Comparison, Symbol, TwoNames, Number, PropositionNode, FormulaNode}
use Rattle.stored.specs.declared.Header.{Header}
use Rattle.stored.specs.Bytes.{word}
use Rattle.stored.specs.Layout.{emitted_kind, nodes_start, nodes_end, following, least_output}
use Rattle.stored.specs.Node.{proposition, formula, no_op, same_sort, emitted_sorts, sort_of, sort_below, a_use, b_use, fields_right, operand_right, operands_right}
use Rattle.stored.specs.Sheet.{header_of}
use Rattle.stored.specs.Written.{node_in, NodeFits, put_node, put_header, header_bytes}
use Rattle.stored.proofs.Written.{put_length, put_back, put_read, put_other, header_length, header_back, header_nodes, header_byte, header_read, header_rest}
use Rattle.stored.proofs.Tree.{proposition_agree, formula_agree}
use Rattle.plans.specs.Bound.{most_emitted}
use Rattle.plans.specs.Emission.{count, proposition_in, formula_in, Good, Step, HasProposition, Has, Emits, Shared, Ready}
use Rattle.plans.specs.Plan.{node, fits, appended, Put}

-- ---- steps
pub stay : {x : List ℕ} → Good x → Step x x 0
stay g =
    record {
      more = omega arith;
      few = omega arith;
      size = refl;
      signals = refl;
      names = refl;
      same = λ i h. refl;
      back = λ t h. refl;
      good = g;
    }

pub steps : {x y z : List ℕ} {j k : ℕ} → Step x y j → Step y z k → Step x z (j + k)
steps s t =
    let least = s.more in
    let most = t.more in
    record {
      more = omega arith;
      few = omega arith;
      size = t.size ∙ s.size;
      signals = t.signals ∙ s.signals;
      names = t.names ∙ s.names;
      same = λ i h. t.same i (omega arith) ∙ s.same i h;
      back = λ i h. t.back i h ∙ s.back i (omega arith);
      good = t.good;
    }

pub wider : {x y : List ℕ} {j : ℕ} (k : ℕ) → j ≤ k → Step x y j → Step x y k
wider k h s =
    record {
      more = s.more;
      few = omega arith;
      size = s.size;
      signals = s.signals;
      names = s.names;
      same = s.same;
      back = s.back;
      good = s.good;
    }

-- ---- what nodes are
pub proposition_kept : {x y : List ℕ} {k a : ℕ} {p : Proposition} → Step x y k → HasProposition x a p → HasProposition y a p
unfolding proposition_in
proposition_kept {x} {y} {a = a} s h =
    let less = h.below in
    record {
      below = omega (arith, s.more);
      sorted = ap (λ (n : Node). sort_of emitted_sorts n.op) (s.same a less) ∙ h.sorted;
      tree = proposition_agree (node_in y) (node_in x) a (λ i l. s.same i (omega arith)) ∙ h.tree;
    }

pub has_kept : {x y : List ℕ} {k a : ℕ} {f : Formula} → Step x y k → Has x a f → Has y a f
unfolding formula_in
has_kept {x} {y} {a = a} s h =
    let less = h.below in
    record {
      below = omega (arith, s.more);
      sorted = ap (λ (n : Node). sort_of emitted_sorts n.op) (s.same a less) ∙ h.sorted;
      tree = formula_agree (node_in y) (node_in x) a (λ i l. s.same i (omega arith)) ∙ h.tree;
    }

pub shared_kept : {x y : List ℕ} {k : ℕ} (j : ℕ) → Step x y k → Shared x j → Shared y j
shared_kept j s h =
    record {
      good = s.good;
      everywhere = has_kept s h.everywhere;
      longer = has_kept s h.longer;
      never = has_kept s h.never;
      named = λ u l. proposition_kept s (h.named u l);
      once = λ u l. has_kept s (h.once u l);
    }

pub ready_kept : {x y : List ℕ} {k : ℕ} → Step x y k → Ready x → Ready y
ready_kept {x} {y} s h = subst (Shared y) (sym s.names) (shared_kept (header_of x).names s h)

-- ---- chains
pub after : {x y z : List ℕ} {r j k : ℕ} {f : Formula} → Step x y j → Emits y z r k f → Emits x z r (j + k) f
after s e = record { step = steps s e.step; has = e.has }

pub within_cost : {x y : List ℕ} {r j : ℕ} {f : Formula} (k : ℕ) → j ≤ k → Emits x y r j f → Emits x y r k f
within_cost k h e = record { step = wider k h e.step; has = e.has }

-- ---- one node more
sort_same : (x y : ℕ → Node) (i v : ℕ) → ((k : ℕ) → k < i → y k ≡ x k) → sort_below emitted_sorts y i v ≡ sort_below emitted_sorts x i v
unfolding sort_below
sort_same x y i v h = go (ltb v i) (λ e. h v (ltb-true v i e))
  where
    go : (b : Bool) → (b ≡ true → y v ≡ x v) → cond b (sort_of emitted_sorts (y v).op) no_op ≡ cond b (sort_of emitted_sorts (x v).op) no_op
    go true e = ap (λ (n : Node). sort_of emitted_sorts n.op) (e refl)
    go false e = refl

operand_same : (x y : ℕ → Node) (i : ℕ) (what : Use) (v : ℕ) → ((k : ℕ) → k < i → y k ≡ x k) → operand_right emitted_sorts y i what v ≡ operand_right emitted_sorts x i what v
unfolding operand_right
operand_same x y i PropositionNode v h = ap (λ (sort : Option Sort). same_sort sort proposition) (sort_same x y i v h)
operand_same x y i FormulaNode v h = ap (λ (sort : Option Sort). same_sort sort formula) (sort_same x y i v h)
operand_same x y i Nothing v h = refl
operand_same x y i Signal v h = refl
operand_same x y i Name v h = refl
operand_same x y i Comparison v h = refl
operand_same x y i Symbol v h = refl
operand_same x y i TwoNames v h = refl
operand_same x y i Number v h = refl

pub operands_same : (x y : ℕ → Node) (i : ℕ) → ((k : ℕ) → k ≤ i → y k ≡ x k) → operands_right emitted_sorts y i ≡ operands_right emitted_sorts x i
unfolding operands_right
operands_same x y i h =
    let less : (k : ℕ) → k < i → y k ≡ x k = λ k l. h k (omega arith) in
    ap (λ (n : Node). operand_right emitted_sorts y i (a_use n.op) n.a && operand_right emitted_sorts y i (b_use n.op) n.b) (h i (omega arith))
    ∙ ap₂ ◌&&◌ (operand_same x y i (a_use (x i).op) (x i).a less) (operand_same x y i (b_use (x i).op) (x i).b less)

-- node n may come next
pub record Addable (y : List ℕ) (n : Node) : Type 0 where
  pub good : Good y
  pub room : count y < most_emitted
  pub fields : NodeFits n
  pub right : fields_right emitted_sorts (header_of y).signals (header_of y).names n ≡ true
  pub a_right : operand_right emitted_sorts (node_in y) (count y) (a_use n.op) n.a ≡ true
  pub b_right : operand_right emitted_sorts (node_in y) (count y) (b_use n.op) n.b ≡ true

-- it came, as node r
pub record Added (x y : List ℕ) (r : ℕ) (n : Node) : Type 0 where
  pub step : Step x y 1
  pub exact : count y ≡ count x + 1
  pub place : r ≡ count x
  pub node : node_in y r ≡ n

module _ (x : List ℕ) (n : Node) (may : Addable x n) where
  c : ℕ
  c = count x

  s : ℕ
  s = (header_of x).signals

  m : ℕ
  m = (header_of x).names

  inside : nodes_end (c + 1) ≤ length x
  unfolding c
  inside = omega (arith, may.room, may.good.long)

  held : nodes_start ≤ length (put_node x c n)
  unfolding c
  held = rw put_length (omega (arith, may.good.long))

  head : header_of (appended x n) ≡ record { signals = s; names = m; nodes = c + 1; clauses = 0 }
  unfolding appended c s m
  head = header_read (put_node x c n) emitted_kind s m (c + 1) 0 held

  size_same : length (appended x n) ≡ length x
  unfolding appended c s m
  size_same = header_length (put_node x c n) emitted_kind s m (c + 1) 0 ∙ put_length x c n

  is_new : node_in (appended x n) c ≡ n
  unfolding appended c s m
  is_new = header_nodes (put_node x c n) emitted_kind s m (c + 1) 0 c ∙ put_read x c n (omega (arith, inside))

  is_old : (i : ℕ) → (i ≡ c → ⊥) → node_in (appended x n) i ≡ node_in x i
  unfolding appended c s m
  is_old i h = header_nodes (put_node x c n) emitted_kind s m (c + 1) 0 i ∙ put_other x c n i h

  back_same : (t : ℕ) → nodes_end (c + 1) ≤ t → drop t (appended x n) ≡ drop t x
  unfolding appended c s m
  back_same t h = header_back (put_node x c n) emitted_kind s m (c + 1) 0 t (omega arith) ∙ put_back x c n t (omega arith)

  version_is : get_or (appended x n) 2 0 ≡ 1
  unfolding appended c s m header_bytes
  version_is = header_byte (put_node x c n) emitted_kind s m (c + 1) 0 held 2 (omega arith)

  kind_is : get_or (appended x n) 3 0 ≡ 2
  unfolding appended c s m header_bytes
  kind_is = header_byte (put_node x c n) emitted_kind s m (c + 1) 0 held 3 (omega arith)

  rest_is : word (appended x n) 0 ≡ following (nodes_end (c + 1))
  unfolding appended c s m
  rest_is = let rest = header_rest (put_node x c n) emitted_kind s m (c + 1) 0 held in omega arith

  node_right_lem : (i : ℕ) → i < c + 1 → fields_right emitted_sorts s m (node_in (appended x n) i) ≡ true
  unfolding c s m
  node_right_lem i h =
      elim (test (eqb i c)) [
        | inl e ↦ let is = eqb-true i c e in
            ap (λ (j : ℕ). fields_right emitted_sorts s m (node_in (appended x n) j)) is ∙ ap (fields_right emitted_sorts s m) is_new ∙ may.right
        | inr e ↦ let other = eqb-false i c e in ap (fields_right emitted_sorts s m) (is_old i other) ∙ may.good.nodes_right_holds i (omega arith)
      ]

  operand_right_lem : (i : ℕ) → i < c + 1 → operands_right emitted_sorts (node_in (appended x n)) i ≡ true
  unfolding c operands_right
  operand_right_lem i h =
      elim (test (eqb i c)) [
        | inl e ↦ let is = eqb-true i c e in
            let less : (k : ℕ) → k < c → node_in (appended x n) k ≡ node_in x k = λ k l. is_old k (λ q. omega arith) in
            let z = node_in (appended x n) in
            ap (λ (j : ℕ). operand_right emitted_sorts z j (a_use (z j).op) (z j).a && operand_right emitted_sorts z j (b_use (z j).op) (z j).b) is
            ∙ ap (λ (o : Node). operand_right emitted_sorts z c (a_use o.op) o.a && operand_right emitted_sorts z c (b_use o.op) o.b) is_new
            ∙ and_intro _ _
            (operand_same (node_in x) z c (a_use n.op) n.a less ∙ may.a_right)
            (operand_same (node_in x) z c (b_use n.op) n.b less ∙ may.b_right)
        | inr e ↦ let other = eqb-false i c e in
            operands_same (node_in x) (node_in (appended x n)) i (λ k l. is_old k (λ q. omega arith)) ∙ may.good.operands_right_holds i (omega arith)
      ]

  added : Added x (appended x n) (count x) n
  unfolding c s m
  added =
      let h = head in
      let signals : (header_of (appended x n)).signals ≡ (header_of x).signals = ap (λ (g : Header). g.signals) h in
      let names : (header_of (appended x n)).names ≡ (header_of x).names = ap (λ (g : Header). g.names) h in
      let nodes : (header_of (appended x n)).nodes ≡ count x + 1 = ap (λ (g : Header). g.nodes) h in
      let size = size_same in
      let g = may.good in
      let room = may.room in
      record {
        step =
            record {
              more = omega arith;
              few = omega arith;
              size = size;
              signals = signals;
              names = names;
              same = λ i l. is_old i (λ q. omega arith);
              back = λ t l. back_same t (omega arith);
              good =
                  record {
                    long = omega arith;
                    rest = rest_is ∙ rw nodes;
                    version = version_is;
                    kind = kind_is;
                    some_signals = omega (arith, g.some_signals);
                    few_signals = omega (arith, g.few_signals);
                    few_names = omega (arith, g.few_names);
                    no_clauses = ap (λ (g : Header). g.clauses) h;
                    few_nodes = omega arith;
                    nodes_right_holds = λ i l. rw (signals, names) (node_right_lem i (omega arith));
                    operands_right_holds = λ i l. operand_right_lem i (omega arith);
                  };
            };
        exact = nodes;
        place = refl;
        node = is_new;
      }

-- a node that fits, in numbers
pub record Fits (x : List ℕ) (n : Node) : Type 0 where
  pub long : least_output ≤ length x
  pub fields : NodeFits n
  pub room : count x < most_emitted

pub fits_open : (x : List ℕ) (n : Node) → fits x n ≡ true → Fits x n
unfolding fits
fits_open x n e =
    record {
      long = grind arith;
      fields = record { op_fits = grind arith; q_fits = grind arith; a_fits = grind arith; b_fits = grind arith };
      room = grind arith;
    }

fits_made : (x : List ℕ) (n : Node) → Fits x n → fits x n ≡ true
unfolding fits
fits_made x n h = let f = h.fields in grind (arith, h.long, h.room, f.op_fits, f.q_fits, f.a_fits, f.b_fits)

-- it is written where it fits, and nothing where it does not
pub put_none : {x : List ℕ} {n : Node} → fits x n ≡ false → Put n x x 0
put_none e = record { bytes = rw e; root = rw e }

pub put_made : {x y z : List ℕ} {n : Node} {s m k : ℕ} → fits x n ≡ true → s ≡ get_or x 4 0 → m ≡ get_or x 5 0 → k ≡ count x
    → y ≡ put_node x k n → z ≡ put_header y emitted_kind s m (k + 1) 0 → Put n x z k
unfolding appended header_of
put_made e es em ek ey ez = record { bytes = rw e (rw (ez, ey, es, em, ek)); root = rw e ek }

written : {x : List ℕ} {n : Node} → Good x → count x < most_emitted → NodeFits n → fits x n ≡ true
written {x} {n} good room fields = fits_made x n (record { long = good.long; fields = fields; room = room })

root_is : {x y : List ℕ} {r : ℕ} {n : Node} → fits x n ≡ true → Put n x y r → r ≡ count x
root_is {x} e put = put.root ∙ ap (λ (b : Bool). cond b (count x) 0) e

pub put_place : {x y : List ℕ} {r op q a b : ℕ} → Good x → count x < most_emitted → op < 256 → q < 256 → a < 65536 → b < 65536
    → Put (node op q a b) x y r → r ≡ count x
put_place good room o q a b put = root_is (written good room (record { op_fits = o; q_fits = q; a_fits = a; b_fits = b })) put

pub put_added : {x y : List ℕ} {r : ℕ} {n : Node} → Addable x n → Put n x y r → Added x y r n
put_added {x} {y} {r} {n} may put =
    let e = written may.good may.room may.fields in
    let bytes : y ≡ appended x n = put.bytes ∙ ap (λ (b : Bool). cond b (appended x n) x) e in
    rw (bytes, root_is e put) (added x n may)
