-- Laws of an area that is filled entry by entry: what was written stays, and is read back.
use Rattle.std.proofs.Common.{ℕ, ◌+◌, ◌*◌, ◌≤◌, ◌<◌, Bool, true, false, cond, List, ◌≡◌, refl, sym, ◌∙◌, ap, mul-le-mul_left, arith, lt-ltb, ltb, length, get_or}
use lib.Seq.{sets, length-sets}
use Rattle.stored.specs.declared.Node.{Node}
use Rattle.stored.specs.declared.StoredClause.{StoredClause}
use Rattle.stored.specs.Bytes.{word}
use Rattle.stored.specs.Node.{node_at}
use Rattle.stored.specs.Clause.{stored_at}
use Rattle.stored.specs.Written.{node_bytes}
use Rattle.stored.proofs.Written.{get_or_before, get_or_put, word_of, node_is, node_same}
use Rattle.stored.specs.Layout.{node_size, clause_size, most_nodes, most_clauses}
use Rattle.typed.specs.Draft.{Draft, added, put, clause_bytes, put_clause}

-- d became e: its entries stand as they stood
pub record Kept (size : ℕ) (d e : Draft) : Type 0 where
  pub more : d.count ≤ e.count
  pub long : length e.bytes ≡ length d.bytes
  pub same : (k : ℕ) → k < size * d.count → get_or e.bytes k 0 ≡ get_or d.bytes k 0

pub kept_self : (size : ℕ) (d : Draft) → Kept size d d
kept_self size d = record { more = omega arith; long = refl; same = λ k h. refl }

pub kept_then : {size : ℕ} {d e f : Draft} → Kept size d e → Kept size e f → Kept size d f
kept_then {size} {d} {e} {f} x y =
    record {
      more = omega arith;
      long = y.long ∙ x.long;
      same = λ k h. let wider = mul-le-mul_left size x.more in y.same k (omega arith) ∙ x.same k h;
    }

-- one entry more
module _ (size most : ℕ) (entry : List ℕ) (d : Draft) where
  pub added_kept : Kept size d (added size most entry d)
  unfolding added
  added_kept = record { more = omega arith; long = long (ltb d.count most); same = same (ltb d.count most) }
    where
      long : (b : Bool) → length (cond b (sets d.bytes (size * d.count) entry) d.bytes) ≡ length d.bytes
      long true = length-sets d.bytes (size * d.count) entry
      long false = refl

      same : (b : Bool) (k : ℕ) → k < size * d.count
          → get_or (cond b (sets d.bytes (size * d.count) entry) d.bytes) k 0 ≡ get_or d.bytes k 0
      same true k h = get_or_before d.bytes (size * d.count) entry k h
      same false k h = refl

  pub added_read : d.count < most → size * d.count + length entry ≤ length d.bytes
      → (r : ℕ) → r < length entry → get_or (added size most entry d).bytes (size * d.count + r) 0 ≡ get_or entry r 0
  unfolding added
  added_read room fits r h = rw (lt-ltb d.count most room) (get_or_put d.bytes (size * d.count) entry r fits h)

-- ---- nodes
pub node_kept : {d e : Draft} → Kept 6 d e → (i : ℕ) → i < d.count → node_at e.bytes i ≡ node_at d.bytes i
node_kept {d} {e} x i h = node_same e.bytes d.bytes i (λ r l. x.same (6 * i + r) (omega arith))

pub put_kept : (x : Node) (d : Draft) → Kept 6 d (put x d)
unfolding put
put_kept x d = added_kept node_size most_nodes (node_bytes x) d

pub put_read : (x : Node) (d : Draft) → length d.bytes ≡ 384 → d.count < 64 → node_at (put x d).bytes d.count ≡ x
unfolding put node_bytes
put_read x d long room =
    let l = (put x d).bytes in
    let i = d.count in
    let byte = added_read node_size most_nodes (node_bytes x) d room (omega arith) in
    let first : 6 * i ≡ 6 * i + 0 = omega arith in
    let third : 6 * i + 2 + 1 ≡ 6 * i + 3 = omega arith in
    let fifth : 6 * i + 4 + 1 ≡ 6 * i + 5 = omega arith in
    node_is l i x
    (ap (λ (k : ℕ). get_or l k 0) first ∙ byte 0 (omega arith))
    (byte 1 (omega arith))
    (word_of l (6 * i + 2) x.a (byte 2 (omega arith)) (ap (λ (k : ℕ). get_or l k 0) third ∙ byte 3 (omega arith)))
    (word_of l (6 * i + 4) x.b (byte 4 (omega arith)) (ap (λ (k : ℕ). get_or l k 0) fifth ∙ byte 5 (omega arith)))

-- ---- clauses
pub stored_same : (l l' : List ℕ) (j : ℕ) → ((r : ℕ) → r < 11 → get_or l (11 * j + r) 0 ≡ get_or l' (11 * j + r) 0) → stored_at l j ≡ stored_at l' j
unfolding stored_at word
stored_same l l' j h =
    let first : 11 * j ≡ 11 * j + 0 = omega arith in
    let low1 : 11 * j + 2 + 1 ≡ 11 * j + 3 = omega arith in
    let low2 : 11 * j + 4 + 1 ≡ 11 * j + 5 = omega arith in
    let low3 : 11 * j + 6 + 1 ≡ 11 * j + 7 = omega arith in
    let type : get_or l (11 * j) 0 ≡ get_or l' (11 * j) 0 =
    ap (λ (k : ℕ). get_or l k 0) first ∙ h 0 (omega arith) ∙ sym (ap (λ (k : ℕ). get_or l' k 0) first)
    in
    rw (
      low1,
      low2,
      low3,
      type,
      h 1 (omega arith),
      h 2 (omega arith),
      h 3 (omega arith),
      h 4 (omega arith),
      h 5 (omega arith),
      h 6 (omega arith),
      h 7 (omega arith),
      h 8 (omega arith),
      h 9 (omega arith),
      h 10 (omega arith),
    )

pub stored_kept : {d e : Draft} → Kept 11 d e → (k : ℕ) → k < d.count → stored_at e.bytes k ≡ stored_at d.bytes k
stored_kept {d} {e} x k h = stored_same e.bytes d.bytes k (λ r l. x.same (11 * k + r) (omega arith))

pub clause_kept : (x : StoredClause) (d : Draft) → Kept 11 d (put_clause x d)
unfolding put_clause
clause_kept x d = added_kept clause_size most_clauses (clause_bytes x) d

pub clause_read : (x : StoredClause) (d : Draft) → length d.bytes ≡ 88 → d.count < 8 → stored_at (put_clause x d).bytes d.count ≡ x
unfolding put_clause clause_bytes stored_at
clause_read x d long room =
    let l = (put_clause x d).bytes in
    let i = d.count in
    let byte = added_read clause_size most_clauses (clause_bytes x) d room (omega arith) in
    let first : 11 * i ≡ 11 * i + 0 = omega arith in
    let low1 : 11 * i + 2 + 1 ≡ 11 * i + 3 = omega arith in
    let low2 : 11 * i + 4 + 1 ≡ 11 * i + 5 = omega arith in
    let low3 : 11 * i + 6 + 1 ≡ 11 * i + 7 = omega arith in
    let type : get_or l (11 * i) 0 ≡ x.clause_type = ap (λ (k : ℕ). get_or l k 0) first ∙ byte 0 (omega arith) in
    rw (
      type,
      byte 1 (omega arith),
      word_of l (11 * i + 2) x.root1 (byte 2 (omega arith)) (ap (λ (k : ℕ). get_or l k 0) low1 ∙ byte 3 (omega arith)),
      word_of l (11 * i + 4) x.root2 (byte 4 (omega arith)) (ap (λ (k : ℕ). get_or l k 0) low2 ∙ byte 5 (omega arith)),
      word_of l (11 * i + 6) x.root3 (byte 6 (omega arith)) (ap (λ (k : ℕ). get_or l k 0) low3 ∙ byte 7 (omega arith)),
      byte 8 (omega arith),
      byte 9 (omega arith),
      byte 10 (omega arith),
    )
