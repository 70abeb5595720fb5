-- The bytes of one node and of a header, put into lent bytes. Bytes before and after stay.
use Rattle.std.specs.Prelude.{ℕ, ◌/◌, ◌%◌, ◌<◌, List, [], ◌∷◌, drop}
use Rattle.std.proofs.lemmas.List.Edits.{sets}
use Rattle.stored.specs.declared.Node.{Node}
use Rattle.stored.specs.Node.{node_at}
use Rattle.stored.specs.Layout.{nodes_start, nodes_end, clauses_end, following}

unfoldable pub node_bytes : Node → List ℕ
node_bytes x = x.op ∷ x.q ∷ x.a / 256 ∷ x.a % 256 ∷ x.b / 256 ∷ x.b % 256 ∷ []

unfoldable pub put_node : List ℕ → ℕ → Node → List ℕ
put_node s i x = sets s (nodes_end i) (node_bytes x)

-- the header of a sheet of a kind with s signals, m names, n nodes and c clauses
unfoldable pub header_bytes : ℕ → ℕ → ℕ → ℕ → ℕ → List ℕ
header_bytes kind s m n c =
    following (clauses_end n c) / 256 ∷ following (clauses_end n c) % 256 ∷ 1 ∷ kind ∷ s ∷ m ∷ n / 256 ∷ n % 256 ∷ c ∷ []

unfoldable pub put_header : List ℕ → ℕ → ℕ → ℕ → ℕ → ℕ → List ℕ
put_header out kind s m n c = sets out 0 (header_bytes kind s m n c)

-- node i of the bytes, whatever their header counts
unfoldable pub node_in : List ℕ → ℕ → Node
node_in s i = node_at (drop nodes_start s) i

-- fields that fit their bytes
pub record NodeFits (x : Node) : Type 0 where
  pub op_fits : x.op < 256
  pub q_fits : x.q < 256
  pub a_fits : x.a < 65536
  pub b_fits : x.b < 65536
