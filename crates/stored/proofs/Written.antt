-- What a written node or header leaves behind: it is read back, and everything else stays.
use Rattle.std.proofs.Common.{ℕ, zero, suc, ◌+◌, ◌-◌, ◌*◌, ◌/◌, ◌%◌, ◌≤◌, ◌<◌, List, [], ◌∷◌, ◌++◌, inl, inr, ◌≡◌, refl, sym, ◌∙◌, ap, div-add-mod', arith, ltb-true, ltb-false, ltb, length, get_or, set, take, drop, length-set, take_at, get_or-set_same, get_or-set_other, get_or-drop, get_or-take, drop-set-lt}
use lib.Seq.{sets, sets-eq, length-sets}
use Rattle.stored.specs.declared.Node.{Node}
use Rattle.stored.specs.Bytes.{word}
use Rattle.stored.specs.Node.{node_at}
use Rattle.stored.specs.Sheet.{header_of, node_part, nodes_of}
use Rattle.stored.specs.Layout.{nodes_start, nodes_end, clauses_end, following}
use Rattle.stored.specs.Written.{node_bytes, put_node, header_bytes, put_header, node_in}
use Rattle.semantics.proofs.Tests.{test}

-- bytes put at p: the others stay
pub get_or_before : (l : List ℕ) (p : ℕ) (vs : List ℕ) (k : ℕ) → k < p → get_or (sets l p vs) k 0 ≡ get_or l k 0
get_or_before l p [] k h = refl
get_or_before l p (v ∷ vs) k h =
    get_or_before (set l p v) (suc p) vs k (omega arith) ∙ get_or-set_other l p k v 0 (λ e. omega arith)

pub get_d_after : (l : List ℕ) (p : ℕ) (vs : List ℕ) (k : ℕ) → p + length vs ≤ k → get_or (sets l p vs) k 0 ≡ get_or l k 0
get_d_after l p [] k h = refl
get_d_after l p (v ∷ vs) k h =
    get_d_after (set l p v) (suc p) vs k (omega arith) ∙ get_or-set_other l p k v 0 (λ e. omega arith)

pub drop_after : (l : List ℕ) (p : ℕ) (vs : List ℕ) (n : ℕ) → p + length vs ≤ n → drop n (sets l p vs) ≡ drop n l
drop_after l p [] n h = refl
drop_after l p (v ∷ vs) n h = drop_after (set l p v) (suc p) vs n (omega arith) ∙ drop-set-lt n l p v (omega arith)

-- bytes put after bytes
pub sets_then : (x : List ℕ) (at : ℕ) (a b : List ℕ) → sets (sets x at a) (at + length a) b ≡ sets x at (a ++ b)
sets_then x at [] b = let e : at + 0 ≡ at = omega arith in ap (λ (k : ℕ). sets x k b) e
sets_then x at (v ∷ a) b =
    let e : at + suc (length a) ≡ suc at + length a = omega arith in
    ap (λ (k : ℕ). sets (sets (set x at v) (suc at) a) k b) e ∙ sets_then (set x at v) (suc at) a b

-- bytes put at the front are the front
pub sets_front : (l vs : List ℕ) → length vs ≤ length l → take (length vs) (sets l 0 vs) ≡ vs
sets_front l vs h = ap (take (length vs)) (sets-eq vs l 0 (omega arith)) ∙ take_at vs _ (length vs) refl

-- and they are read back
pub get_or_put : (l : List ℕ) (p : ℕ) (vs : List ℕ) (k : ℕ) → p + length vs ≤ length l → k < length vs → get_or (sets l p vs) (p + k) 0 ≡ get_or vs k 0
get_or_put l p [] k fits h = absurd (omega arith)
get_or_put l p (v ∷ vs) zero fits h =
    let here : p + 0 ≡ p = omega arith in
    rw here (get_or_before (set l p v) (suc p) vs p (omega arith) ∙ get_or-set_same l p v 0 (omega arith))
get_or_put l p (v ∷ vs) (suc k) fits h =
    let next : p + suc k ≡ suc p + k = omega arith in
    rw next (get_or_put (set l p v) (suc p) vs k (rw length-set (omega arith)) (omega arith))

-- a field of two bytes is its high byte times 256 and its low byte
pub halves : (v : ℕ) → v / 256 * 256 + v % 256 ≡ v
halves v = div-add-mod' v 256

pub word_of : (l : List ℕ) (k v : ℕ) → get_or l k 0 ≡ v / 256 → get_or l (k + 1) 0 ≡ v % 256 → word l k ≡ v
unfolding word
word_of l k v e f = rw (e, f) (halves v)

pub node_is : (l : List ℕ) (i : ℕ) (x : Node) → get_or l (6 * i) 0 ≡ x.op → get_or l (6 * i + 1) 0 ≡ x.q → word l (6 * i + 2) ≡ x.a → word l (6 * i + 4) ≡ x.b → node_at l i ≡ x
unfolding node_at
node_is l i x e f g h = rw (e, f, g, h)

pub node_same : (l l' : List ℕ) (j : ℕ) → ((r : ℕ) → r < 6 → get_or l (6 * j + r) 0 ≡ get_or l' (6 * j + r) 0) → node_at l j ≡ node_at l' j
unfolding node_at word
node_same l l' j h =
    let first : 6 * j ≡ 6 * j + 0 = omega arith in
    let third : 6 * j + 2 + 1 ≡ 6 * j + 3 = omega arith in
    let fifth : 6 * j + 4 + 1 ≡ 6 * j + 5 = omega arith in
    let op : get_or l (6 * j) 0 ≡ get_or l' (6 * j) 0 =
    ap (λ (k : ℕ). get_or l k 0) first ∙ h 0 (omega arith) ∙ sym (ap (λ (k : ℕ). get_or l' k 0) first)
    in
    rw (third, fifth, op, h 1 (omega arith), h 2 (omega arith), h 3 (omega arith), h 4 (omega arith), h 5 (omega arith))

header_same : (l l' : List ℕ) → ((k : ℕ) → k < 9 → get_or l k 0 ≡ get_or l' k 0) → header_of l ≡ header_of l'
unfolding header_of word
header_same l l' h =
    rw
    (h 4 (omega arith), h 5 (omega arith), h 6 (omega arith), h 7 (omega arith), h 8 (omega arith))

-- one node
module _ (s : List ℕ) (i : ℕ) (x : Node) where
  pub put_length : length (put_node s i x) ≡ length s
  unfolding put_node
  put_length = length-sets s (nodes_end i) (node_bytes x)

  pub put_back : (n : ℕ) → nodes_end (i + 1) ≤ n → drop n (put_node s i x) ≡ drop n s
  unfolding put_node node_bytes
  put_back n h = drop_after s (nodes_end i) (node_bytes x) n (omega arith)

  byte_put : nodes_end (i + 1) ≤ length s → (k : ℕ) → k < 6 → get_or (drop nodes_start (put_node s i x)) (6 * i + k) 0 ≡ get_or (node_bytes x) k 0
  unfolding put_node node_bytes
  byte_put fits k h =
      let place : 9 + (6 * i + k) ≡ nodes_end i + k = omega arith in
      get_or-drop nodes_start (put_node s i x) (6 * i + k) 0
      ∙ rw place (get_or_put s (nodes_end i) (node_bytes x) k (omega arith) h)

  -- the node is read back
  pub put_read : nodes_end (i + 1) ≤ length s → node_in (put_node s i x) i ≡ x
  unfolding node_in node_bytes
  put_read fits =
      let l = drop nodes_start (put_node s i x) in
      let first : 6 * i ≡ 6 * i + 0 = omega arith in
      let third : 6 * i + 2 + 1 ≡ 6 * i + 3 = omega arith in
      let fifth : 6 * i + 4 + 1 ≡ 6 * i + 5 = omega arith in
      node_is l i x
      (ap (λ (k : ℕ). get_or l k 0) first ∙ byte_put fits 0 (omega arith))
      (byte_put fits 1 (omega arith))
      (word_of l (6 * i + 2) x.a (byte_put fits 2 (omega arith)) (ap (λ (k : ℕ). get_or l k 0) third ∙ byte_put fits 3 (omega arith)))
      (word_of l (6 * i + 4) x.b (byte_put fits 4 (omega arith)) (ap (λ (k : ℕ). get_or l k 0) fifth ∙ byte_put fits 5 (omega arith)))

  byte_other : (j : ℕ) → (j ≡ i → ⊥) → (r : ℕ) → r < 6 → get_or (drop nodes_start (put_node s i x)) (6 * j + r) 0 ≡ get_or (drop nodes_start s) (6 * j + r) 0
  unfolding put_node node_bytes
  byte_other j other r h =
      get_or-drop nodes_start (put_node s i x) (6 * j + r) 0
      ∙ elim (test (ltb j i)) [
        | inl e ↦ get_or_before s (nodes_end i) (node_bytes x) (9 + (6 * j + r)) (omega (arith, ltb-true j i e))
        | inr e ↦ let more = ltb-false j i e in get_d_after s (nodes_end i) (node_bytes x) (9 + (6 * j + r)) (omega arith)
      ]
      ∙ sym (get_or-drop nodes_start s (6 * j + r) 0)

  -- the other nodes and the header stay
  pub put_other : (j : ℕ) → (j ≡ i → ⊥) → node_in (put_node s i x) j ≡ node_in s j
  unfolding node_in
  put_other j other = node_same (drop nodes_start (put_node s i x)) (drop nodes_start s) j (byte_other j other)

-- a header
module _ (out : List ℕ) (kind s m n c : ℕ) where
  pub header_length : length (put_header out kind s m n c) ≡ length out
  unfolding put_header
  header_length = length-sets out 0 (header_bytes kind s m n c)

  pub header_back : (k : ℕ) → nodes_start ≤ k → drop k (put_header out kind s m n c) ≡ drop k out
  unfolding put_header header_bytes
  header_back k h = drop_after out 0 (header_bytes kind s m n c) k (omega arith)

  pub header_nodes : (j : ℕ) → node_in (put_header out kind s m n c) j ≡ node_in out j
  unfolding node_in
  header_nodes j = ap (λ (l : List ℕ). node_at l j) (header_back nodes_start (omega arith))

  pub header_byte : nodes_start ≤ length out → (k : ℕ) → k < nodes_start → get_or (put_header out kind s m n c) k 0 ≡ get_or (header_bytes kind s m n c) k 0
  unfolding put_header header_bytes
  header_byte fits k h =
      let place : k ≡ 0 + k = omega arith in
      ap (λ (j : ℕ). get_or (put_header out kind s m n c) j 0) place ∙ get_or_put out 0 (header_bytes kind s m n c) k (omega arith) h

  -- it is read back
  pub header_read : nodes_start ≤ length out → header_of (put_header out kind s m n c) ≡ record { signals = s; names = m; nodes = n; clauses = c }
  unfolding header_of header_bytes
  header_read fits =
      rw (
        header_byte fits 4 (omega arith),
        header_byte fits 5 (omega arith),
        word_of (put_header out kind s m n c) 6 n (header_byte fits 6 (omega arith)) (header_byte fits 7 (omega arith)),
        header_byte fits 8 (omega arith),
      )

  pub header_rest : nodes_start ≤ length out → word (put_header out kind s m n c) 0 ≡ following (clauses_end n c)
  unfolding header_bytes
  header_rest fits =
      word_of (put_header out kind s m n c) 0 (following (clauses_end n c)) (header_byte fits 0 (omega arith)) (header_byte fits 1 (omega arith))

-- the nodes that the header counts
pub nodes_in : (s : List ℕ) (i : ℕ) → i < (header_of s).nodes → nodes_of s i ≡ node_in s i
unfolding nodes_of node_part node_in
nodes_in s i h =
    node_same (take (nodes_end (header_of s).nodes - nodes_start) (drop nodes_start s)) (drop nodes_start s) i
    (λ r l. get_or-take (nodes_end (header_of s).nodes - nodes_start) (drop nodes_start s) (6 * i + r) 0 (omega arith))

-- a front of the bytes has the same header and nodes
pub taken_byte : (n : ℕ) (s : List ℕ) (k : ℕ) → k < n → get_or (take n s) k 0 ≡ get_or s k 0
taken_byte n s k h = get_or-take n s k 0 h

pub taken_header : (n : ℕ) (s : List ℕ) → 9 ≤ n → header_of (take n s) ≡ header_of s
taken_header n s h = header_same (take n s) s (λ k l. get_or-take n s k 0 (omega arith))

pub taken_node : (n : ℕ) (s : List ℕ) (i : ℕ) → nodes_end (i + 1) ≤ n → node_in (take n s) i ≡ node_in s i
unfolding node_in
taken_node n s i h =
    node_same (drop nodes_start (take n s)) (drop nodes_start s) i
    (λ r l. get_or-drop nodes_start (take n s) (6 * i + r) 0 ∙ get_or-take n s (9 + (6 * i + r)) 0 (omega arith) ∙ sym (get_or-drop nodes_start s (6 * i + r) 0))
