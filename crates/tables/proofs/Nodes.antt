-- What rules 6 and 7 say of one node.
use Rattle.std.proofs.Common.{Option, ℕ, ◌/◌, ◌%◌, ◌<◌, ◌+◌, ◌*◌, true≢false, true, List, ◌≡◌, sym, ap, subst, ◌∙◌, arith, ltb-true, ltb, length, take, length-take-le}
use Rattle.stored.specs.declared.nodes.Sort.{Sort}
use Rattle.std.specs.Option.{is_some}
use Rattle.stored.specs.declared.Node.{Node}
use Rattle.stored.specs.declared.nodes.Use.{Use}
use Rattle.stored.specs.declared.nodes.Use.TheVariants.{Signal, Name, Comparison, Symbol, TwoNames}
use Rattle.stored.specs.Node.{proposition, formula, no_op, requirement_sorts, sort_of, node_at, q_use, a_use, field_right, fields_right, node_right, operands_right}
use Rattle.semantics.proofs.Tests.{and_left, and_right}
use Rattle.stored.proofs.Rules.{every_at}
use Rattle.stored.proofs.Tree.{operands}
use Rattle.stored.proofs.Reach.{NodesKept}
use Rattle.tables.specs.Ready.{Given}
use Rattle.tables.specs.Step.{Usable}
use Rattle.tables.proofs.Uses.{Ops, proposition_ops, formula_ops_lem, formula_left, joins_formula, star_formula}

-- what a field's use says of its value
record FieldKept (s m : ℕ) (what : Use) (v : ℕ) : Type 0 where
  pub signal : what ≡ Signal → v < s
  pub name : what ≡ Name → v < m
  pub comparison : what ≡ Comparison → v < 5
  pub symbol : what ≡ Symbol → v < 8
  pub first : what ≡ TwoNames → v / 16 < m
  pub second : what ≡ TwoNames → v % 16 < m

field_kept : (s m : ℕ) (what : Use) (v : ℕ) → field_right s m what v ≡ true → FieldKept s m what v
unfolding field_right
field_kept s m what v h =
    record {
      signal = λ e. ltb-true v s (told e);
      name = λ e. ltb-true v m (told e);
      comparison = λ e. ltb-true v 5 (told e);
      symbol = λ e. ltb-true v 8 (told e);
      first = λ e. ltb-true (v / 16) m (and_left (ltb (v / 16) m) (ltb (v % 16) m) (told e));
      second = λ e. ltb-true (v % 16) m (and_right (ltb (v / 16) m) (ltb (v % 16) m) (told e));
    }
  where
    told : {w : Use} → what ≡ w → field_right s m w v ≡ true
    told e = subst (λ (w : Use). field_right s m w v ≡ true) e h

record NodeKept (s m : ℕ) (x : Node) : Type 0 where
  pub sorted : sort_of requirement_sorts x.op ≡ no_op → ⊥
  pub q_field : FieldKept s m (q_use x.op) x.q
  pub a_field : FieldKept s m (a_use x.op) x.a

node_kept : (s m : ℕ) (x : Node) → fields_right requirement_sorts s m x ≡ true → NodeKept s m x
unfolding fields_right
node_kept s m x h =
    let r₁ = and_right (is_some (sort_of requirement_sorts x.op)) _ h in
    let r₂ = and_right (field_right s m (q_use x.op) x.q) _ r₁ in
    record {
      sorted = λ e. true≢false (sym (and_left (is_some (sort_of requirement_sorts x.op)) _ h) ∙ ap is_some e);
      q_field = field_kept s m (q_use x.op) x.q (and_left (field_right s m (q_use x.op) x.q) _ r₁);
      a_field = field_kept s m (a_use x.op) x.a (and_left (field_right s m (a_use x.op) x.a) _ r₂);
    }

-- a star after i nodes: its operand is among them
pub record Star (x : ℕ → Node) (i : ℕ) (r : Node) : Type 0 where
  pub op : r.op ≡ 23
  pub formula : sort_of requirement_sorts (x i).op ≡ formula
  pub first : r.a < i

module _ {nodes : List ℕ} {count n : ℕ} {columns words : List ℕ} (g : Given nodes count n columns words) where
  pub nodes_kept : NodesKept g.signals g.names count (node_at nodes)
  unfolding node_right
  nodes_kept =
      record {
        three = g.few_names;
        fields = every_at count (node_right requirement_sorts g.signals g.names (node_at nodes)) g.fields;
        operands_kept = every_at count (operands_right requirement_sorts (node_at nodes)) g.operands;
      }

  pub operands_at : (i : ℕ) → i < count → operands_right requirement_sorts (node_at nodes) i ≡ true
  operands_at i h = nodes_kept.operands_kept i h

  -- a node that is no proposition is a formula
  pub node_sorted : (i : ℕ) → i < count → sort_of requirement_sorts (node_at nodes i).op ≡ no_op → ⊥
  node_sorted i h = (node_kept g.signals g.names (node_at nodes i) (nodes_kept.fields i h)).sorted

  pub usable : (i : ℕ) → i < count → Usable (node_at nodes i) i
  usable i h =
      let k = node_kept g.signals g.names (node_at nodes i) (nodes_kept.fields i h) in
      let o = operands requirement_sorts (node_at nodes) i (operands_at i h) in
      record {
        a_signal_holds = λ e. let l = k.a_field.signal e in omega (arith, g.few_signals);
        a_name_holds = λ e. let l = k.a_field.name e in omega (arith, g.few_names);
        a_proposition = λ e. (o.a_proposition e).less;
        a_formula = λ e. (o.a_formula e).less;
        b_proposition = λ e. (o.b_proposition e).less;
        b_formula = λ e. (o.b_formula e).less;
        comparison = λ e. k.q_field.comparison e;
        symbol = λ e. k.q_field.symbol e;
        first_name_holds = λ e. let l = k.q_field.first e in omega (arith, g.few_names);
        second_name = λ e. let l = k.q_field.second e in omega (arith, g.few_names);
      }

  -- the sort of a node that was read
  pub proposition_sort : (i : ℕ) (s : Option Sort) (r : Node) → r ≡ node_at nodes i → s ≡ sort_of requirement_sorts r.op → s ≡ proposition
      → sort_of requirement_sorts (node_at nodes i).op ≡ proposition
  proposition_sort i s r e t one = ap (λ (y : Node). sort_of requirement_sorts y.op) (sym e) ∙ sym t ∙ one

  pub formula_sort : (i : ℕ) (s : Option Sort) (r : Node) → i < count → r ≡ node_at nodes i → s ≡ sort_of requirement_sorts r.op
      → (s ≡ proposition → ⊥)
      → sort_of requirement_sorts (node_at nodes i).op ≡ formula
  formula_sort i s r h e t other =
      formula_left _ (node_sorted i h) (λ one. other (t ∙ ap (λ (y : Node). sort_of requirement_sorts y.op) e ∙ one))

  -- the part of the words that is node i's own, at the head of those from its first on
  pub own_long : (i : ℕ) (rest : List ℕ) → i < count → length rest + 64 * i ≡ length words → length (take 64 rest) ≡ 64
  own_long i rest h e = length-take-le 64 rest (omega (arith, g.words_long))

  -- a node that was read, with the ops of its sort
  pub proposition_read : (i : ℕ) (r : Node) → i < count → r ≡ node_at nodes i → sort_of requirement_sorts (node_at nodes i).op ≡ proposition → Usable r i × Ops 1 8 r.op
  proposition_read i r h e s =
      subst (λ (y : Node). Usable y i × Ops 1 8 y.op) (sym e) (usable i h, proposition_ops (node_at nodes i).op s)

  pub formula_read : (i : ℕ) (r : Node) → i < count → r ≡ node_at nodes i → sort_of requirement_sorts (node_at nodes i).op ≡ formula → Usable r i × Ops 16 30 r.op
  formula_read i r h e s =
      subst (λ (y : Node). Usable y i × Ops 16 30 y.op) (sym e) (usable i h, formula_ops_lem (node_at nodes i).op s)

  -- a star that was read
  pub star_read : (i : ℕ) (r : Node) → i < count → r ≡ node_at nodes i → (node_at nodes i).op ≡ 23 → Star (node_at nodes) i r
  star_read i r h e o =
      let at : r.op ≡ 23 = ap (λ (y : Node). y.op) e ∙ o in
      let u = subst (λ (y : Node). Usable y i) (sym e) (usable i h) in
      record { op = at; formula = star_formula _ o; first = u.a_formula (joins_formula r.op (omega arith) (omega arith)) }
