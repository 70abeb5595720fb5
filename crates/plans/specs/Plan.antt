-- A formula is the plan of its nodes. They are written operands first; the shared nodes are there already, and so is node a where the
-- plan has `at a`, which no emitted formula has.
use Rattle.std.specs.Prelude.{ℕ, suc, ◌+◌, ◌*◌, Bool, cond, ◌&&◌, List, ◌≡◌, leb, ltb, length}
use Rattle.semantics.specs.Proposition.{Proposition, signal, name, negated}
use Rattle.semantics.specs.Formula.{Formula, point, stretch, unit, chop, conjunction, disjunction, slen, scount, at, negation, for_some, at_most, equal, at_least, above}
use Rattle.rows.specs.Symbols.{comparison_number}
use Rattle.stored.specs.declared.Node.{Node}
use Rattle.plans.specs.declared.node.Op.{Op}
use Rattle.plans.specs.declared.node.Op.TheVariants as op
use Rattle.stored.specs.Layout.{emitted_kind, least_output}
use Rattle.stored.specs.Sheet.{header_of}
use Rattle.stored.specs.Written.{put_node, put_header}
use Rattle.plans.specs.Bound.{most_emitted}
use Rattle.plans.specs.Emission.{count}

-- The ops that a plan needs, by document 01's numbers.
abbrev pub op_signal : ℕ
op_signal = 3

abbrev pub op_name : ℕ
op_name = 4

abbrev pub op_negated : ℕ
op_negated = 5

abbrev pub op_point : ℕ
op_point = 16

abbrev pub op_stretch : ℕ
op_stretch = 17

abbrev pub op_unit : ℕ
op_unit = 19

abbrev pub op_chop : ℕ
op_chop = 20

abbrev pub op_and : ℕ
op_and = 21

abbrev pub op_or : ℕ
op_or = 22

abbrev pub op_length : ℕ
op_length = 24

abbrev pub op_count : ℕ
op_count = 25

abbrev pub op_not : ℕ
op_not = 30

abbrev pub op_some : ℕ
op_some = 31

-- The comparisons, as q has them.
abbrev pub q_below : ℕ
q_below = 0

abbrev pub q_at_most : ℕ
q_at_most = 1

abbrev pub q_equal : ℕ
q_equal = 2

abbrev pub q_at_least : ℕ
q_at_least = 3

abbrev pub q_above : ℕ
q_above = 4

abbrev pub node : ℕ → ℕ → ℕ → ℕ → Node
node op q a b = record { op = op; q = q; a = a; b = b }

-- the node of an op with what it takes
abbrev pub node_of : Op → Node
node_of (op.Signal k) = node op_signal 0 k 0
node_of (op.Name u) = node op_name 0 u 0
node_of (op.Negated a) = node op_negated 0 a 0
node_of (op.Point a) = node op_point 0 a 0
node_of (op.Stretch a) = node op_stretch 0 a 0
node_of (op.Unit a) = node op_unit 0 a 0
node_of (op.Chop a b) = node op_chop 0 a b
node_of (op.And a b) = node op_and 0 a b
node_of (op.Or a b) = node op_or 0 a b
node_of (op.Length c n) = node op_length (comparison_number c) 0 n
node_of (op.Count c a n) = node op_count (comparison_number c) a n
node_of (op.Not a) = node op_not 0 a 0
node_of (op.Column u a) = node op_some 0 a u

-- the fields of node n fit their bytes, and there is room for one node more
unfoldable pub fits : List ℕ → Node → Bool
fits x n =
    leb least_output (length x)
    && ((ltb n.op 256 && (ltb n.q 256 && (ltb n.a 65536 && ltb n.b 65536))) && ltb (count x) most_emitted)

-- the bytes with node n after the last
unfoldable pub appended : List ℕ → Node → List ℕ
appended x n = put_header (put_node x (count x) n) emitted_kind (header_of x).signals (header_of x).names (count x + 1) 0

-- x became y by node n, which is node r; where it does not fit nothing is written
pub record Put (n : Node) (x y : List ℕ) (r : ℕ) : Type 0 where
  pub bytes : y ≡ cond (fits x n) (appended x n) x
  pub root : r ≡ cond (fits x n) (count x) 0

-- x became y by the nodes of a proposition, or of a formula, whose own node is r
pub data WroteProposition : List ℕ → List ℕ → ℕ → Proposition → Type 0 where
  named : {x : List ℕ} {u : ℕ} → WroteProposition x x (3 + 2 * u) (name u)
  signalled : {x y : List ℕ} {r k : ℕ} → Put (node op_signal 0 k 0) x y r → WroteProposition x y r (signal k)
  negated_of : {x y z : List ℕ} {a r : ℕ} {p : Proposition} → WroteProposition x y a p → Put (node op_negated 0 a 0) y z r → WroteProposition x z r (negated p)

pub data Wrote : List ℕ → List ℕ → ℕ → Formula → Type 0 where
  -- there already
  there : {x : List ℕ} {a : ℕ} → Wrote x x a (at a)
  everywhere : {x : List ℕ} → Wrote x x 0 (slen at_least 0)
  longer : {x : List ℕ} → Wrote x x 1 (slen above 0)
  marked : {x : List ℕ} {u : ℕ} → Wrote x x (4 + 2 * u) (scount equal (name u) 1)
  -- one node, or one node more
  no_more : {x y : List ℕ} {r n : ℕ} → Put (node op_length q_at_most 0 n) x y r → Wrote x y r (slen at_most n)
  exactly : {x y : List ℕ} {r n : ℕ} → Put (node op_length q_equal 0 n) x y r → Wrote x y r (slen equal n)
  no_less : {x y : List ℕ} {r n : ℕ} → Put (node op_length q_at_least 0 (suc n)) x y r → Wrote x y r (slen at_least (suc n))
  pointed : {x y z : List ℕ} {a r : ℕ} {p : Proposition} → WroteProposition x y a p → Put (node op_point 0 a 0) y z r → Wrote x z r (point p)
  stretched : {x y z : List ℕ} {a r : ℕ} {p : Proposition} → WroteProposition x y a p → Put (node op_stretch 0 a 0) y z r → Wrote x z r (stretch p)
  united : {x y z : List ℕ} {a r : ℕ} {p : Proposition} → WroteProposition x y a p → Put (node op_unit 0 a 0) y z r → Wrote x z r (unit p)
  chopped : {x y z w : List ℕ} {a b r : ℕ} {f g : Formula} → Wrote x y a f → Wrote y z b g → Put (node op_chop 0 a b) z w r → Wrote x w r (chop f g)
  conjoined : {x y z w : List ℕ} {a b r : ℕ} {f g : Formula} → Wrote x y a f → Wrote y z b g → Put (node op_and 0 a b) z w r → Wrote x w r (conjunction f g)
  disjoined : {x y z w : List ℕ} {a b r : ℕ} {f g : Formula} → Wrote x y a f → Wrote y z b g → Put (node op_or 0 a b) z w r → Wrote x w r (disjunction f g)
  denied : {x y z : List ℕ} {a r : ℕ} {f : Formula} → Wrote x y a f → Put (node op_not 0 a 0) y z r → Wrote x z r (negation f)
  columned : {x y z : List ℕ} {a r u : ℕ} {f : Formula} → Wrote x y a f → Put (node op_some 0 a u) y z r → Wrote x z r (for_some u f)
