-- What the emitting functions promise one another. The writer's whole state is in the lent bytes: bytes 6–7 count the nodes so far.
use Rattle.std.specs.Prelude.{ℕ, ◌+◌, ◌*◌, ◌≤◌, ◌<◌, true, List, ◌≡◌, length, get_or, drop}
use Rattle.semantics.specs.Proposition.{Proposition, name}
use Rattle.semantics.specs.Formula.{Formula, equal, scount}
use Rattle.semantics.specs.Translation.{anywhere, extended, nothing}
use Rattle.stored.specs.Bytes.{word}
use Rattle.stored.specs.Node.{proposition, formula, emitted_sorts, sort_of, fields_right, operands_right}
use Rattle.stored.specs.Tree.{proposition_at, formula_at}
use Rattle.stored.specs.Sheet.{header_of}
use Rattle.stored.specs.Layout.{emitted_kind, nodes_end, following, most_signals, most_names, least_output}
use Rattle.stored.specs.Written.{node_in}
use Rattle.plans.specs.Bound.{most_emitted}

abbrev pub count : List ℕ → ℕ
count y = (header_of y).nodes

-- the proposition and the formula at node i
unfoldable pub proposition_in : List ℕ → ℕ → Proposition
proposition_in y i = proposition_at (node_in y) i

unfoldable pub formula_in : List ℕ → ℕ → Formula
formula_in y i = formula_at (node_in y) i

-- a kind 2 sheet that is being written: its header and its nodes so far are right
pub record Good (y : List ℕ) : Type 0 where
  pub long : least_output ≤ length y
  pub rest : word y 0 ≡ following (nodes_end (count y))
  pub version : get_or y 2 0 ≡ 1
  pub kind : get_or y 3 0 ≡ emitted_kind
  pub some_signals : 1 ≤ (header_of y).signals
  pub few_signals : (header_of y).signals ≤ most_signals
  pub few_names : (header_of y).names ≤ most_names
  pub no_clauses : (header_of y).clauses ≡ 0
  pub few_nodes : count y ≤ most_emitted
  pub nodes_right_holds : (i : ℕ) → i < count y → fields_right emitted_sorts (header_of y).signals (header_of y).names (node_in y i) ≡ true
  pub operands_right_holds : (i : ℕ) → i < count y → operands_right emitted_sorts (node_in y) i ≡ true

-- bytes x became y by at most k new nodes; earlier nodes and the bytes after the last stay
pub record Step (x y : List ℕ) (k : ℕ) : Type 0 where
  pub more : count x ≤ count y
  pub few : count y ≤ count x + k
  pub size : length y ≡ length x
  pub signals : (header_of y).signals ≡ (header_of x).signals
  pub names : (header_of y).names ≡ (header_of x).names
  pub same : (i : ℕ) → i < count x → node_in y i ≡ node_in x i
  pub back : (t : ℕ) → nodes_end (count y) ≤ t → drop t y ≡ drop t x
  pub good : Good y

-- node a is proposition p, or formula f
pub record HasProposition (y : List ℕ) (a : ℕ) (p : Proposition) : Type 0 where
  pub below : a < count y
  pub sorted : sort_of emitted_sorts (node_in y a).op ≡ proposition
  pub tree : proposition_in y a ≡ p

pub record Has (y : List ℕ) (a : ℕ) (f : Formula) : Type 0 where
  pub below : a < count y
  pub sorted : sort_of emitted_sorts (node_in y a).op ≡ formula
  pub tree : formula_in y a ≡ f

-- x became y by at most k new nodes, and node r is formula f
pub record Emits (x y : List ℕ) (r k : ℕ) (f : Formula) : Type 0 where
  pub step : Step x y k
  pub has : Has y r f

-- The nodes that are written once, at fixed numbers: anywhere, extended and nothing, and of each name below j the name and its one mark.
pub record Shared (y : List ℕ) (j : ℕ) : Type 0 where
  pub good : Good y
  pub everywhere : Has y 0 anywhere
  pub longer : Has y 1 extended
  pub never : Has y 2 nothing
  pub named : (u : ℕ) → u < j → HasProposition y (3 + 2 * u) (name u)
  pub once : (u : ℕ) → u < j → Has y (4 + 2 * u) (scount equal (name u) 1)

abbrev pub Ready : List ℕ → Type 0
Ready y = Shared y (header_of y).names
