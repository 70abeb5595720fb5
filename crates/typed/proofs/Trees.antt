-- The last node that a tree's nodes end in, read back, is what the tree says.
use Rattle.std.proofs.Common.{ℕ, suc, ◌+◌, ◌*◌, ◌/◌, ◌%◌, ◌≤◌, ◌<◌, Bool, true, false, cond, ◌&&◌, [], ◌∷◌, ◌≡◌, refl, sym, ◌∙◌, ap, ap₂, arith, ltb-true, leb-false, leb, ltb, length}
use lib.ListN.{get_or-eq_default}
use Rattle.semantics.specs.Proposition.{Proposition, never, negated, both_of, either_of}
use Rattle.semantics.specs.Formula.{Comparison, below, at_most, equal, at_least, above, Symbol, low, high, either, low_stretch, high_stretch, either_stretch, steady, Formula, point, stretch, whole, unit, chop, conjunction, disjunction, star, slen, scount, sdur, drawn, gap}
use Rattle.semantics.proofs.Tests.{and_left, and_right}
use Rattle.stored.specs.declared.Node.{Node}
use Rattle.stored.specs.Node.{node_at}
use Rattle.stored.specs.Tree.{earlier, proposition_op, proposition_of, proposition_step, proposition_at, formula_op, formula_of, formula_step, formula_at, comparison_of, symbol_of}
use Rattle.stored.proofs.Made.{earlier_at, made_step}
use Rattle.stored.proofs.Tree.{proposition_agree, formula_agree}
use Rattle.grammar.specs.Tree.{OrP, one_p, or_p, AndP, unit_p, and_p, UnitP, trueP, falseP, signalP, nameP, not_p, bracket_p, OrF, one_f, or_f, AndF, chain_f, and_f, ChopF, unit_f, chop_f, UnitF, pointF, stretchF, wholeF, braceF, slen_f, scountF, sdurF, draw_f, at_f, gap_f, bracketF, starF}
use Rattle.grammar.specs.Small.{small_or_f, small_and_f, small_chop_f, small_unit_f}
use Rattle.typed.specs.Meaning.{meant_or_p, meant_and_p, meant_unit_p, meant_or_f, meant_and_f, meant_chop_f, meant_unit_f}
use Rattle.typed.specs.Draft.{Draft, added, last, put, node, put_over, put_joined, put_or_p, put_and_p, put_unit_p, put_or_f, put_and_f, put_chop_f, put_unit_f, comparison_number, in_byte}
use Rattle.typed.proofs.Areas.{Kept, kept_self, kept_then, node_kept, put_kept, put_read}

-- ---- a tree leaves the earlier nodes and adds one or more
pub record Grew (d e : Draft) : Type 0 where
  pub kept : Kept 6 d e
  pub grown : d.count < e.count

pub put_count : (x : Node) (d : Draft) → (put x d).count ≡ suc d.count
unfolding put added
put_count x d = refl

pub put_grew : (x : Node) (d : Draft) → Grew d (put x d)
put_grew x d = let n = put_count x d in record { kept = put_kept x d; grown = omega arith }

pub grew_then : {d e f : Draft} → Grew d e → Grew e f → Grew d f
grew_then x y =
    let h = x.grown in
    let l = y.grown in
    record { kept = kept_then x.kept y.kept; grown = omega arith }

over_grew : {d e : Draft} (op q b : ℕ) → Grew d e → Grew d (put_over op q b e)
unfolding put_over
over_grew {d} {e} op q b x = grew_then x (put_grew _ e)

joined_grew : {d e f : Draft} (op : ℕ) → Grew d e → Grew e f → Grew d (put_joined op e f)
unfolding put_joined
joined_grew {d} {e} {f} op x y = grew_then (grew_then x y) (put_grew _ f)

mutual
  unfolding put_or_p put_and_p put_unit_p

  pub grew_or_p : (p : OrP) (d : Draft) → Grew d (put_or_p p d)
  grew_or_p (one_p p) d = grew_and_p p d
  grew_or_p (or_p p q) d = joined_grew 7 (grew_or_p p d) (grew_and_p q (put_or_p p d))

  pub grew_and_p : (p : AndP) (d : Draft) → Grew d (put_and_p p d)
  grew_and_p (unit_p p) d = grew_unit_p p d
  grew_and_p (and_p p q) d = joined_grew 6 (grew_and_p p d) (grew_unit_p q (put_and_p p d))

  pub grew_unit_p : (p : UnitP) (d : Draft) → Grew d (put_unit_p p d)
  grew_unit_p trueP d = put_grew _ d
  grew_unit_p falseP d = put_grew _ d
  grew_unit_p (signalP k) d = put_grew _ d
  grew_unit_p (nameP u) d = put_grew _ d
  grew_unit_p (not_p p) d = over_grew 5 0 0 (grew_unit_p p d)
  grew_unit_p (bracket_p p) d = grew_or_p p d

mutual
  unfolding put_or_f put_and_f put_chop_f put_unit_f

  pub grew_or_f : (f : OrF) (d : Draft) → Grew d (put_or_f f d)
  grew_or_f (one_f f) d = grew_and_f f d
  grew_or_f (or_f f g) d = joined_grew 22 (grew_or_f f d) (grew_and_f g (put_or_f f d))

  pub grew_and_f : (f : AndF) (d : Draft) → Grew d (put_and_f f d)
  grew_and_f (chain_f f) d = grew_chop_f f d
  grew_and_f (and_f f g) d = joined_grew 21 (grew_and_f f d) (grew_chop_f g (put_and_f f d))

  pub grew_chop_f : (f : ChopF) (d : Draft) → Grew d (put_chop_f f d)
  grew_chop_f (unit_f f) d = grew_unit_f f d
  grew_chop_f (chop_f f g) d = joined_grew 20 (grew_chop_f f d) (grew_unit_f g (put_chop_f f d))

  pub grew_unit_f : (f : UnitF) (d : Draft) → Grew d (put_unit_f f d)
  grew_unit_f (pointF p) d = over_grew 16 0 0 (grew_or_p p d)
  grew_unit_f (stretchF p) d = over_grew 17 0 0 (grew_or_p p d)
  grew_unit_f (wholeF p) d = over_grew 18 0 0 (grew_or_p p d)
  grew_unit_f (braceF p) d = over_grew 19 0 0 (grew_or_p p d)
  grew_unit_f (slen_f c n) d = put_grew _ d
  grew_unit_f (scountF p c n) d = over_grew 25 (comparison_number c) n (grew_or_p p d)
  grew_unit_f (sdurF p c n) d = over_grew 26 (comparison_number c) n (grew_or_p p d)
  grew_unit_f (draw_f q k) d = put_grew _ d
  grew_unit_f (at_f u) d = put_grew _ d
  grew_unit_f (gap_f u v a b) d = put_grew _ d
  grew_unit_f (bracketF f) d = grew_or_f f d
  grew_unit_f (starF f) d = over_grew 23 0 0 (grew_or_f f d)

-- ---- what the last node says
unfoldable pub proposition_last : Draft → Proposition
proposition_last d = proposition_at (node_at d.bytes) (last d)

unfoldable pub formula_last : Draft → Formula
formula_last d = formula_at (node_at d.bytes) (last d)

-- nodes that were written say what they said
pub formula_kept : {d e : Draft} → Kept 6 d e → (i : ℕ) → i < d.count → formula_at (node_at e.bytes) i ≡ formula_at (node_at d.bytes) i
formula_kept {d} {e} x i h = formula_agree (node_at e.bytes) (node_at d.bytes) i (λ k l. node_kept x k (omega arith))

proposition_kept : {d e : Draft} → Kept 6 d e → (i : ℕ) → i < d.count → proposition_at (node_at e.bytes) i ≡ proposition_at (node_at d.bytes) i
proposition_kept {d} {e} x i h = proposition_agree (node_at e.bytes) (node_at d.bytes) i (λ k l. node_kept x k (omega arith))

-- there is room for the node after d
pub record Room (d : Draft) : Type 0 where
  pub long : length d.bytes ≡ 384
  pub few : d.count < 64

-- a new node, by its operands
module _ (x : Node) (f : Draft) (room : Room f) where
  new_node : node_at (put x f).bytes f.count ≡ x
  new_node = put_read x f room.long room.few

  new_last : last (put x f) ≡ f.count
  unfolding last
  new_last = let n = put_count x f in omega arith

  -- the operands, as the new node reads them
  old_propositions : ℕ → Proposition
  old_propositions = earlier f.count never (proposition_at (node_at (put x f).bytes))

  old_formulas : ℕ → Formula
  old_formulas = earlier f.count (slen below 0) (formula_at (node_at (put x f).bytes))

  new_proposition : proposition_last (put x f) ≡ proposition_of (proposition_op x.op) x old_propositions
  unfolding proposition_last old_propositions proposition_at proposition_step
  new_proposition =
      rw new_last
      (made_step never (proposition_step (node_at (put x f).bytes)) f.count
      ∙ ap (λ (n : Node). proposition_of (proposition_op n.op) n old_propositions) new_node)

  new_formula : formula_last (put x f) ≡ formula_of (formula_op x.op) x old_propositions old_formulas
  unfolding formula_last old_propositions old_formulas formula_at formula_step
  new_formula =
      rw new_last
      (made_step (slen below 0) (formula_step (node_at (put x f).bytes)) f.count
      ∙ ap (λ (n : Node). formula_of (formula_op n.op) n old_propositions old_formulas) new_node)

  -- an operand is what the last node of an earlier draft says
  module _ (e : Draft) (kept : Kept 6 e f) (some : 0 < e.count) where
    old_proposition : old_propositions (last e) ≡ proposition_last e
    unfolding old_propositions proposition_last last
    old_proposition =
        let more = kept.more in
        earlier_at f.count never (proposition_at (node_at (put x f).bytes)) (last e) (omega arith)
        ∙ proposition_kept (kept_then kept (put_kept x f)) (last e) (omega arith)

    old_formula : old_formulas (last e) ≡ formula_last e
    unfolding old_formulas formula_last last
    old_formula =
        let more = kept.more in
        earlier_at f.count (slen below 0) (formula_at (node_at (put x f).bytes)) (last e) (omega arith)
        ∙ formula_kept (kept_then kept (put_kept x f)) (last e) (omega arith)

-- ---- what a tree says is read back where its nodes fit
abbrev SaysP : Draft → Draft → Proposition → Type 0
SaysP d e p = length d.bytes ≡ 384 → e.count ≤ 64 → proposition_last e ≡ p

abbrev SaysF : Draft → Draft → Formula → Type 0
SaysF d e f = length d.bytes ≡ 384 → e.count ≤ 64 → formula_last e ≡ f

-- one more node fits
room_for : (x : Node) (d : Draft) → length d.bytes ≡ 384 → (put x d).count ≤ 64 → Room d
room_for x d long few = let n = put_count x d in record { long = long; few = omega arith }

leaf_proposition : (x : Node) (d : Draft) {p : Proposition}
    → ((g : ℕ → Proposition) → proposition_of (proposition_op x.op) x g ≡ p) → SaysP d (put x d) p
leaf_proposition x d is long few = let room = room_for x d long few in new_proposition x d room ∙ is (old_propositions x d room)

leaf_formula : (x : Node) (d : Draft) {f : Formula}
    → ((g : ℕ → Proposition) (h : ℕ → Formula) → formula_of (formula_op x.op) x g h ≡ f) → SaysF d (put x d) f
leaf_formula x d is long few =
    let room = room_for x d long few in new_formula x d room ∙ is (old_propositions x d room) (old_formulas x d room)

-- over one operand
module _ {d e : Draft} (grew : Grew d e) (op q b : ℕ) where
  over_room : length d.bytes ≡ 384 → (put_over op q b e).count ≤ 64 → Room e
  unfolding put_over
  over_room long few = room_for _ e (grew.kept.long ∙ long) few

  over_negated : {p : Proposition} (t : Proposition → Proposition)
      → ((a : ℕ) (g : ℕ → Proposition) → proposition_of (proposition_op op) (node op q a b) g ≡ t (g a))
      → SaysP d e p → SaysP d (put_over op q b e) (t p)
  unfolding put_over
  over_negated t is says long few =
      let x = node op q (last e) b in
      let room = over_room long few in
      let more = grew.grown in
      let less = room.few in
      new_proposition x e room
      ∙ is (last e) (old_propositions x e room)
      ∙ ap t (old_proposition x e room e (kept_self 6 e) (omega arith) ∙ says long (omega arith))

  over_proposition : {p : Proposition} (t : Proposition → Formula)
      → ((a : ℕ) (g : ℕ → Proposition) (h : ℕ → Formula) → formula_of (formula_op op) (node op q a b) g h ≡ t (g a))
      → SaysP d e p → SaysF d (put_over op q b e) (t p)
  unfolding put_over
  over_proposition t is says long few =
      let x = node op q (last e) b in
      let room = over_room long few in
      let more = grew.grown in
      let less = room.few in
      new_formula x e room
      ∙ is (last e) (old_propositions x e room) (old_formulas x e room)
      ∙ ap t (old_proposition x e room e (kept_self 6 e) (omega arith) ∙ says long (omega arith))

  over_formula : {f : Formula} (t : Formula → Formula)
      → ((a : ℕ) (g : ℕ → Proposition) (h : ℕ → Formula) → formula_of (formula_op op) (node op q a b) g h ≡ t (h a))
      → SaysF d e f → SaysF d (put_over op q b e) (t f)
  unfolding put_over
  over_formula t is says long few =
      let x = node op q (last e) b in
      let room = over_room long few in
      let more = grew.grown in
      let less = room.few in
      new_formula x e room
      ∙ is (last e) (old_propositions x e room) (old_formulas x e room)
      ∙ ap t (old_formula x e room e (kept_self 6 e) (omega arith) ∙ says long (omega arith))

-- over two operands
module _ {d e f : Draft} (first : Grew d e) (second : Grew e f) (op : ℕ) where
  joined_room : length d.bytes ≡ 384 → (put_joined op e f).count ≤ 64 → Room f
  unfolding put_joined
  joined_room long few = room_for _ f (second.kept.long ∙ first.kept.long ∙ long) few

  joined_proposition : {p q : Proposition} (t : Proposition → Proposition → Proposition)
      → ((a b : ℕ) (g : ℕ → Proposition) → proposition_of (proposition_op op) (node op 0 a b) g ≡ t (g a) (g b))
      → SaysP d e p → SaysP e f q → SaysP d (put_joined op e f) (t p q)
  unfolding put_joined
  joined_proposition t is says says' long few =
      let x = node op 0 (last e) (last f) in
      let room = joined_room long few in
      let more = first.grown in
      let more' = second.grown in
      let less = room.few in
      new_proposition x f room
      ∙ is (last e) (last f) (old_propositions x f room)
      ∙ ap₂ t
      (old_proposition x f room e second.kept (omega arith) ∙ says long (omega arith))
      (old_proposition x f room f (kept_self 6 f) (omega arith) ∙ says' (first.kept.long ∙ long) (omega arith))

  joined_formula : {g h : Formula} (t : Formula → Formula → Formula)
      → ((a b : ℕ) (p : ℕ → Proposition) (o : ℕ → Formula) → formula_of (formula_op op) (node op 0 a b) p o ≡ t (o a) (o b))
      → SaysF d e g → SaysF e f h → SaysF d (put_joined op e f) (t g h)
  unfolding put_joined
  joined_formula t is says says' long few =
      let x = node op 0 (last e) (last f) in
      let room = joined_room long few in
      let more = first.grown in
      let more' = second.grown in
      let less = room.few in
      new_formula x f room
      ∙ is (last e) (last f) (old_propositions x f room) (old_formulas x f room)
      ∙ ap₂ t
      (old_formula x f room e second.kept (omega arith) ∙ says long (omega arith))
      (old_formula x f room f (kept_self 6 f) (omega arith) ∙ says' (first.kept.long ∙ long) (omega arith))

mutual
  unfolding put_or_p put_and_p put_unit_p meant_or_p meant_and_p meant_unit_p proposition_of proposition_op

  pub says_or_p : (p : OrP) (d : Draft) → length d.bytes ≡ 384 → (put_or_p p d).count ≤ 64 → proposition_last (put_or_p p d) ≡ meant_or_p p
  says_or_p (one_p p) d = says_and_p p d
  says_or_p (or_p p q) d =
      joined_proposition (grew_or_p p d) (grew_and_p q (put_or_p p d)) 7 either_of (λ a b g. refl) (says_or_p p d) (says_and_p q (put_or_p p d))

  pub says_and_p : (p : AndP) (d : Draft) → length d.bytes ≡ 384 → (put_and_p p d).count ≤ 64 → proposition_last (put_and_p p d) ≡ meant_and_p p
  says_and_p (unit_p p) d = says_unit_p p d
  says_and_p (and_p p q) d =
      joined_proposition (grew_and_p p d) (grew_unit_p q (put_and_p p d)) 6 both_of (λ a b g. refl) (says_and_p p d) (says_unit_p q (put_and_p p d))

  pub says_unit_p : (p : UnitP) (d : Draft) → length d.bytes ≡ 384 → (put_unit_p p d).count ≤ 64 → proposition_last (put_unit_p p d) ≡ meant_unit_p p
  says_unit_p trueP d = leaf_proposition _ d (λ g. refl)
  says_unit_p falseP d = leaf_proposition _ d (λ g. refl)
  says_unit_p (signalP k) d = leaf_proposition _ d (λ g. refl)
  says_unit_p (nameP u) d = leaf_proposition _ d (λ g. refl)
  says_unit_p (not_p p) d = over_negated (grew_unit_p p d) 5 0 0 negated (λ a g. refl) (says_unit_p p d)
  says_unit_p (bracket_p p) d = says_or_p p d

-- ---- fields
comparison_read : (c : Comparison) → comparison_of (comparison_number c) ≡ c
unfolding comparison_of comparison_number
comparison_read below = refl
comparison_read at_most = refl
comparison_read equal = refl
comparison_read at_least = refl
comparison_read above = refl

-- no symbol has a number from 8 up, so 255 does as well
symbol_read : (q : ℕ) → symbol_of (in_byte q) ≡ symbol_of q
unfolding symbol_of in_byte
symbol_read q = go (leb q 255) refl
  where
    go : (b : Bool) → leb q 255 ≡ b → symbol_of (cond b q 255) ≡ symbol_of q
    go true e = refl
    go false e =
        let large = leb-false q 255 e in
        let past : 8 ≤ q = omega arith in
        sym (get_or-eq_default (low ∷ high ∷ either ∷ either ∷ low_stretch ∷ high_stretch ∷ either_stretch ∷ steady ∷ []) low past)

names_apart : (u v : ℕ) → v < 16 → ((16 * u + v) / 16 ≡ u) × ((16 * u + v) % 16 ≡ v)
names_apart u v h = (omega arith, omega arith)

gap_small : (u v a b : ℕ) → small_unit_f (gap_f u v a b) ≡ true → v < 16
unfolding small_unit_f
gap_small u v a b h =
    let less = ltb-true v 3 (and_left (ltb v 3) (leb a 65535 && leb b 65535) (and_right (ltb u 3) (ltb v 3 && (leb a 65535 && leb b 65535)) h)) in
    omega arith

mutual
  unfolding put_or_f put_and_f put_chop_f put_unit_f meant_or_f meant_and_f meant_chop_f meant_unit_f small_or_f small_and_f small_chop_f small_unit_f formula_of formula_op

  pub says_or_f : (f : OrF) (d : Draft) → small_or_f f ≡ true
      → length d.bytes ≡ 384 → (put_or_f f d).count ≤ 64 → formula_last (put_or_f f d) ≡ meant_or_f f
  says_or_f (one_f f) d h = says_and_f f d h
  says_or_f (or_f f g) d h =
      joined_formula (grew_or_f f d) (grew_and_f g (put_or_f f d)) 22 disjunction (λ a b p o. refl)
      (says_or_f f d (and_left (small_or_f f) (small_and_f g) h))
      (says_and_f g (put_or_f f d) (and_right (small_or_f f) (small_and_f g) h))

  pub says_and_f : (f : AndF) (d : Draft) → small_and_f f ≡ true
      → length d.bytes ≡ 384 → (put_and_f f d).count ≤ 64 → formula_last (put_and_f f d) ≡ meant_and_f f
  says_and_f (chain_f f) d h = says_chop_f f d h
  says_and_f (and_f f g) d h =
      joined_formula (grew_and_f f d) (grew_chop_f g (put_and_f f d)) 21 conjunction (λ a b p o. refl)
      (says_and_f f d (and_left (small_and_f f) (small_chop_f g) h))
      (says_chop_f g (put_and_f f d) (and_right (small_and_f f) (small_chop_f g) h))

  pub says_chop_f : (f : ChopF) (d : Draft) → small_chop_f f ≡ true
      → length d.bytes ≡ 384 → (put_chop_f f d).count ≤ 64 → formula_last (put_chop_f f d) ≡ meant_chop_f f
  says_chop_f (unit_f f) d h = says_unit_f f d h
  says_chop_f (chop_f f g) d h =
      joined_formula (grew_chop_f f d) (grew_unit_f g (put_chop_f f d)) 20 chop (λ a b p o. refl)
      (says_chop_f f d (and_left (small_chop_f f) (small_unit_f g) h))
      (says_unit_f g (put_chop_f f d) (and_right (small_chop_f f) (small_unit_f g) h))

  pub says_unit_f : (f : UnitF) (d : Draft) → small_unit_f f ≡ true
      → length d.bytes ≡ 384 → (put_unit_f f d).count ≤ 64 → formula_last (put_unit_f f d) ≡ meant_unit_f f
  says_unit_f (pointF p) d h = over_proposition (grew_or_p p d) 16 0 0 point (λ a g o. refl) (says_or_p p d)
  says_unit_f (stretchF p) d h = over_proposition (grew_or_p p d) 17 0 0 stretch (λ a g o. refl) (says_or_p p d)
  says_unit_f (wholeF p) d h = over_proposition (grew_or_p p d) 18 0 0 whole (λ a g o. refl) (says_or_p p d)
  says_unit_f (braceF p) d h = over_proposition (grew_or_p p d) 19 0 0 unit (λ a g o. refl) (says_or_p p d)
  says_unit_f (slen_f c n) d h =
      leaf_formula _ d (λ g o. ap (λ (x : Comparison). slen x n) (comparison_read c))
  says_unit_f (scountF p c n) d h =
      over_proposition (grew_or_p p d) 25 (comparison_number c) n (λ x. scount c x n)
      (λ a g o. ap (λ (x : Comparison). scount x (g a) n) (comparison_read c)) (says_or_p p d)
  says_unit_f (sdurF p c n) d h =
      over_proposition (grew_or_p p d) 26 (comparison_number c) n (λ x. sdur c x n)
      (λ a g o. ap (λ (x : Comparison). sdur x (g a) n) (comparison_read c)) (says_or_p p d)
  says_unit_f (draw_f q k) d h = leaf_formula _ d (λ g o. ap (λ (x : Symbol). drawn x k) (symbol_read q))
  says_unit_f (at_f u) d h = leaf_formula _ d (λ g o. refl)
  says_unit_f (gap_f u v a b) d h =
      let two = names_apart u v (gap_small u v a b h) in
      leaf_formula _ d (λ g o. ap₂ (λ (x y : ℕ). gap x y a b) two.0 two.1)
  says_unit_f (bracketF f) d h = says_or_f f d h
  says_unit_f (starF f) d h = over_formula (grew_or_f f d) 23 0 0 star (λ a g o. refl) (says_or_f f d h)
