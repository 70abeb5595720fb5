-- Laws for the code that writes drafts: an entry more, and the sheet put together from its three pieces.
use Rattle.std.proofs.Common.{ℕ, ◌+◌, ◌*◌, ◌≤◌, ◌<◌, List, ◌++◌, append_assoc, ◌≡◌, refl, sym, ◌∙◌, ap, ap₂, add-one, arith, lt-ltb, le-ltb, length, take, drop, drop-drop, take_at, take_all, length-take-le}
use borrow.Rule.Slice.PartMut.{put_mid}
use lib.Seq.{sets, length-sets, sets-eq, paste, take-paste, drop-paste}
use Rattle.std.proofs.lemmas.Slice.{put_mid-paste}
use Rattle.stored.proofs.Written.{drop_after}
use Rattle.stored.specs.Written.{header_bytes, put_header}
use Rattle.stored.specs.Layout.{requirement_kind, nodes_start, node_size, clause_size, nodes_end, clauses_end}
use Rattle.typed.specs.Draft.{draft, added, in_byte, sheet_bytes, front_of}
use Rattle.typed.proofs.Sheet.{sheet_length}

-- one entry more, where there is room for it and where there is none
module _ (size most : ℕ) (entry bytes : List ℕ) (count : ℕ) where
  pub added_there : count < most → draft (sets bytes (size * count) entry) (count + 1) ≡ added size most entry (draft bytes count)
  unfolding added
  added_there h = rw (add-one, lt-ltb count most h)

  pub added_none : most ≤ count → draft bytes (count + 1) ≡ added size most entry (draft bytes count)
  unfolding added
  added_none h = rw (add-one, le-ltb count most h)

-- bytes y copied over the part of x that has k bytes from `at` on
pub put_part : (x y w : List ℕ) (at k : ℕ) → y ≡ w → length w ≡ k → at + length w ≤ length x → put_mid at k x y ≡ sets x at w
put_part x y w at k same long fits =
    put_mid-paste at k x y w (length w) same long refl
    ∙ ap (λ (l : List ℕ). take at x ++ l ++ drop (at + length w) x) (take_all (length w) w (omega arith))
    ∙ sym (sets-eq w x at fits)

-- and the first n bytes of s
pub put_first : (x y s : List ℕ) (at k n : ℕ) → y ≡ take n s → n ≡ k → n ≤ length s → put_mid at k x y ≡ paste x at s n
put_first x y s at k n same long fits =
    let size : length (take n s) ≡ n = length-take-le n s fits in
    put_mid-paste at k x y (take n s) n same long (sym size)
    ∙ ap (λ (l : List ℕ). take at x ++ l ++ drop (at + n) x) (take_all n (take n s) (omega arith))

-- the header, the nodes and the clauses, one after another
module _ (out nodes clauses : List ℕ) (s m n c : ℕ) (room : clauses_end n c ≤ length out) (p : node_size * n ≤ length nodes)
    (q : clause_size * c ≤ length clauses) where
  headed : List ℕ
  headed = sets out 0 (header_bytes requirement_kind (in_byte s) (in_byte m) n c)

  headed_long : length headed ≡ length out
  unfolding headed
  headed_long = length-sets out 0 (header_bytes requirement_kind (in_byte s) (in_byte m) n c)

  headed_front : take nodes_start headed ≡ header_bytes requirement_kind (in_byte s) (in_byte m) n c
  unfolding headed header_bytes
  headed_front = ap (take nodes_start) (sets-eq (header_bytes requirement_kind (in_byte s) (in_byte m) n c) out 0 (omega arith))

  headed_back : (k : ℕ) → nodes_start ≤ k → drop k headed ≡ drop k out
  unfolding headed header_bytes
  headed_back k h = drop_after out 0 (header_bytes requirement_kind (in_byte s) (in_byte m) n c) k (omega arith)

  noded : List ℕ
  noded = paste headed nodes_start nodes (node_size * n)

  noded_front : take (nodes_end n) noded ≡ header_bytes requirement_kind (in_byte s) (in_byte m) n c ++ take (node_size * n) nodes
  unfolding noded
  noded_front =
      take-paste headed nodes_start nodes (node_size * n) (omega (arith, headed_long)) p
      ∙ ap (λ (l : List ℕ). l ++ take (node_size * n) nodes) headed_front

  noded_back : drop (clauses_end n c) noded ≡ drop (clauses_end n c) out
  unfolding noded
  noded_back =
      sym (drop-drop (clause_size * c) (nodes_end n) noded)
      ∙ ap (drop (clause_size * c)) (drop-paste headed nodes_start nodes (node_size * n) (omega (arith, headed_long)) p)
      ∙ drop-drop (clause_size * c) (nodes_end n) headed
      ∙ headed_back (clauses_end n c) (omega arith)

  pub assembled_length : length (sheet_bytes s m (draft nodes n) (draft clauses c)) ≡ clauses_end n c
  assembled_length = sheet_length s m (draft nodes n) (draft clauses c) (record { nodes_there = p; clauses_there = q })

  pub assembled : paste (paste (put_header out requirement_kind (in_byte s) (in_byte m) n c) nodes_start nodes (node_size * n)) (nodes_end n) clauses (clause_size * c)
      ≡ front_of (sheet_bytes s m (draft nodes n) (draft clauses c)) out
  unfolding headed noded front_of sheet_bytes put_header
  assembled =
      ap₂ (λ (l r : List ℕ). l ++ take (clause_size * c) clauses ++ r) noded_front noded_back
      ∙ ap (λ (l : List ℕ). l ++ drop (clauses_end n c) out) (append_assoc (header_bytes requirement_kind (in_byte s) (in_byte m) n c) (take (node_size * n) nodes) (take (clause_size * c) clauses))
      ∙ ap (λ (k : ℕ). sheet_bytes s m (draft nodes n) (draft clauses c) ++ drop k out) (sym assembled_length)

-- the bytes at the front, taken again
pub front_taken : (bytes out : List ℕ) (n : ℕ) → n ≡ length bytes → take n (front_of bytes out) ≡ bytes
unfolding front_of
front_taken bytes out n e = take_at bytes (drop (length bytes) out) n (sym e)
