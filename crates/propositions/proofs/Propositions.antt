-- Laws of propositions: their two chains, pieces of one token, any number of !, brackets, and what comes after the whole.
use Rattle.std.proofs.Common.{ℕ, zero, suc, ◌+◌, ◌-◌, ◌≤◌, ◌<◌, add-one, arith, false, List, [], ◌∷◌, ◌⊎◌, inl, inr, ◌≡◌, refl, sym, ap, ◌∙◌, eqb-true, ne_eqb, eqb, length, Option, Some, None}
use mathlib.Core.Option.{none}
use Rattle.std.proofs.lemmas.Option.{same_Some, none-some}
use Rattle.semantics.proofs.Tests.{test}
use Rattle.stored.specs.declared.Node.{Node}
use Rattle.grammar.specs.Token.{Token, plain, signalled, named, number, outside, true_word, false_word, open_round, or_sign, and_sign, not_sign}
use Rattle.grammar.specs.Tree.{OrP, one_p, or_p, unit_p, and_p, UnitP, trueP, falseP, signalP, nameP, not_p, bracket_p}
use Rattle.grammar.specs.Reader.{no_or_p, after_or_p, no_and_p, after_and_p, HoleP, no_not_p, after_not_p, after_nots, nots}
use Rattle.grammar.specs.Reader.{State, failed, sign, about_or_p, has_or_p, about_unit_p, has_unit_p, step, run, answer}
use Rattle.grammar.proofs.Said.{computing, fill_nots}
use Rattle.grammar.proofs.Room.{stuck_none}
use Rattle.grammar.proofs.Next.{or_p_lem, and_p_lem, no_piece_p}
use Rattle.lexer.specs.declared.Lexed.{Lexed}
use Rattle.lexer.specs.declared.Token.{Token as Lexeme}
use Rattle.lexer.specs.declared.Token.TheVariants.{Plain, Signal, Name, Number, Outside as NoToken, End}
use Rattle.lexer.specs.Lexed.{meant, is_end, Next}
use Rattle.typed.specs.Draft.{Draft, added, last, node, put, put_over, put_or_p, put_and_p, put_unit_p}
use Rattle.propositions.specs.declared.leaf.Leaf.{Leaf}
use Rattle.propositions.specs.declared.nodes.Nodes.{Nodes}
use Rattle.propositions.specs.Nodes.{so_far, NodePut}
use Rattle.propositions.specs.Propositions.{about_both, has_both, ByAnd, ByOr, about_unit, has_unit, about_bracket_p, NoNot, Nots}
use Rattle.propositions.specs.Propositions.{put_nots, Negated, single}
use Rattle.propositions.specs.Reads.{ahead, Comes, Stuck, Took, Outside, Reads, Ended, before_p, after, next as next_piece}
use Rattle.propositions.proofs.Chains.{Chain}
use Rattle.propositions.proofs.Leaves.{comes, stuck_at, no_sign}
use Rattle.propositions.proofs.Went.{went_none, went_leaf, took_alone, put_counted, either}

-- ---- the chains
abbrev pub ByNone : ℕ → Type 0
ByNone n = ⊥

pub or_chain : Chain 7 or_sign about_or_p has_or_p put_or_p ByOr about_both has_both put_and_p ByAnd
unfolding computing put_or_p
or_chain =
    record {
      op_fits = omega arith;
      taken = λ n t. t;
      passes = λ room s ts. refl;
      first = λ k. (no_or_p, k);
      single = one_p;
      first_about = λ k. refl;
      first_has = λ k t. refl;
      first_puts = λ t d. refl;
      next = λ k p. (after_or_p p, k);
      joined = or_p;
      next_about = or_p_lem;
      next_has = λ k p q. refl;
      next_puts = λ p q d. refl;
    }

pub and_chain : Chain 6 and_sign about_both has_both put_and_p ByAnd about_unit has_unit put_unit_p ByNone
unfolding computing put_and_p
and_chain =
    record {
      op_fits = omega arith;
      taken = λ n t. inl t;
      passes = λ room s ts. refl;
      first = λ w. (no_not_p (no_and_p w.0), w.1);
      single = unit_p;
      first_about = λ w. refl;
      first_has = λ w t. refl;
      first_puts = λ t d. refl;
      next = λ w q. (no_not_p (after_and_p w.0 q), w.1);
      joined = and_p;
      next_about = λ room w q ts. and_p_lem room w.0 w.1 q ts;
      next_has = λ w q u. refl;
      next_puts = λ q u d. refl;
    }

-- a piece takes no joiner
pub unit_ended : {room : ℕ} {text : List ℕ} {at : ℕ} {x y : Nodes} {r : ℕ}
    → Took about_unit has_unit put_unit_p room text at x y r → Ended about_unit has_unit put_unit_p ByNone room text at x y r
unit_ended took = record { took = took; stops = λ k n ts never there. absurd never }

-- ---- what comes after a whole proposition
settled : (room n : ℕ) (s : OrP → State) (p : OrP) (ts : List Token) → (n < 30) ⊎ (34 < n)
    → ((m : ℕ) (rest : List Token) → ByOr m → ts ≡ plain m ∷ rest → answer (run room (has_or_p (λ p. sign n (s p)) p) (plain m ∷ rest)) ≡ none)
    → answer (run room (has_or_p (λ p. sign n (s p)) p) ts) ≡ answer (run room (sign n (s p)) ts)
unfolding computing
settled room n s p [] closing stops = refl
settled room n s p (signalled i ∷ ts) closing stops = refl
settled room n s p (named u ∷ ts) closing stops = refl
settled room n s p (number v ∷ ts) closing stops = refl
settled room n s p (outside ∷ ts) closing stops = refl
settled room n s p (plain m ∷ ts) closing stops =
    elim (test (eqb m or_sign)) [
      | inl e ↦ stopped (inl (eqb-true m or_sign e))
      | inr e ↦ elim (test (eqb m and_sign)) [ inl e' ↦ stopped (inr (eqb-true m and_sign e')) | inr e' ↦ rw (e, e') ]
    ]
  where
    apart : (m ≡ 30) ⊎ (m ≡ 31) → eqb m n ≡ false
    apart (inl e) = elim closing [ inl h ↦ ne_eqb m n (λ same. omega arith) | inr h ↦ ne_eqb m n (λ same. omega arith) ]
    apart (inr e) = elim closing [ inl h ↦ ne_eqb m n (λ same. omega arith) | inr h ↦ ne_eqb m n (λ same. omega arith) ]

    stopped : (m ≡ 30) ⊎ (m ≡ 31) → answer (run room (has_or_p (λ p. sign n (s p)) p) (plain m ∷ ts)) ≡ answer (run room (sign n (s p)) (plain m ∷ ts))
    stopped joiner = stops m ts joiner refl ∙ sym (stuck_none room (sign n (s p)) (plain m) ts (rw (apart joiner)))

module _ {room : ℕ} {text : List ℕ} {at : ℕ} where
  pub whole_none : Outside about_or_p room text at → Outside before_p room text at
  whole_none out = record { fails = λ k. out.fails (λ p. sign k.wanted (k.onto p)) }

  pub whole_took : {x y : Nodes} {r : ℕ} → Ended about_or_p has_or_p put_or_p ByOr room text at x y r
      → Took before_p after put_or_p room text at x y r
  whole_took {r = r} ended =
      let w = ended.took in
      record {
        tree = w.tree;
        goes = λ k.
            w.goes (λ p. sign k.wanted (k.onto p))
            ∙ settled room k.wanted k.onto w.tree (ahead text r) k.closing
            (λ m rest joiner there. ended.stops (λ p. sign k.wanted (k.onto p)) m rest joiner there);
        drafted = w.drafted;
        onward = w.onward;
        within = w.within;
        more = w.more;
        taken = w.taken;
      }

-- ---- any number of !
not_next : (room : ℕ) (h : HoleP) (k : OrP → State) (ts : List Token)
    → run room (about_unit_p h k) (plain not_sign ∷ ts) ≡ run room (about_unit_p (after_not_p h) k) ts
unfolding computing
not_next room h k ts = refl

-- so many ! passed
pub record Passed (text : List ℕ) (at count place : ℕ) : Type 0 where
  pub goes : (room : ℕ) (h : HoleP) (k : OrP → State)
      → run room (about_unit_p h k) (ahead text at) ≡ run room (about_unit_p (after_nots count h) k) (ahead text place)
  pub taken : at + count ≤ place
  pub inside : place ≤ length text

module _ {text : List ℕ} {at : ℕ} where
  pub passed_none : at ≤ length text → Passed text at 0 at
  unfolding after_nots
  passed_none inside = record { goes = λ room h k. refl; taken = omega arith; inside = inside }

  module _ {count place : ℕ} (passed : Passed text at count place) where
    pub passed_more : {after : ℕ} → Comes (plain not_sign) text place after → Passed text at (count + 1) after
    unfolding after_nots
    passed_more {after} there =
        record {
          goes = λ room h k.
              rw add-one
              (passed.goes room h k ∙ ap (run room (about_unit_p (after_nots count h) k)) there.next
              ∙ not_next room (after_nots count h) k (ahead text after));
          taken = omega (arith, passed.taken, there.onward);
          inside = there.within;
        }

    pub passed_all : Stuck (sign not_sign) text place → Nots text at (record { value = count; at = place })
    passed_all never =
        record { goes = passed.goes; taken = passed.taken; inside = λ _. passed.inside; bare = no_sign not_sign never }

-- ---- ! put over a piece
nots_put : (n : ℕ) (u : UnitP) (d : Draft) → put_unit_p (nots n u) d ≡ put_nots n (put_unit_p u d)
unfolding nots put_nots put_unit_p
nots_put zero u d = refl
nots_put (suc n) u d = nots_put n (not_p u) d

nots_count : (n : ℕ) (d : Draft) → (put_nots n d).count ≡ d.count + n
unfolding put_nots put_over put added
nots_count zero d = omega arith
nots_count (suc n) d = nots_count n (put_over 5 0 0 d) ∙ omega arith

-- so many ! put
pub nots_more : (n : ℕ) (d : Draft) → put_over 5 0 0 (put_nots n d) ≡ put_nots (suc n) d
unfolding put_nots
nots_more zero d = refl
nots_more (suc n) d = nots_more n (put_over 5 0 0 d)

pub record Putting (x y : Nodes) (done : ℕ) : Type 0 where
  pub drafted : so_far y ≡ put_nots done (so_far x)
  pub counted : y.count ≡ x.count + done

module _ {x : Nodes} where
  pub putting_none : Putting x x 0
  unfolding put_nots
  putting_none = record { drafted = refl; counted = omega arith }

  pub putting_more : {y : Nodes} {done : ℕ} → Putting x y done → {z : Nodes} → NodePut (node 5 0 (y.count - 1) 0) y z → Putting x z (done + 1)
  unfolding put_over last
  putting_more {done = done} putting p =
      record {
        drafted = rw add-one (p.drafted ∙ ap (put_over 5 0 0) putting.drafted ∙ nots_more done (so_far x));
        counted = omega (arith, putting.counted, put_counted p);
      }

-- a piece and the ! before it
module _ {text : List ℕ} {at : ℕ} {signs : Leaf} (passed : Nots text at signs) where
  module _ {room : ℕ} where
    pub negated_none : Outside about_unit room text signs.at → Outside about_unit room text at
    negated_none out = record { fails = λ k. ap answer (passed.goes room k.0 k.1) ∙ out.fails (after_nots signs.value k.0, k.1) }

    module _ {x y : Nodes} {to : ℕ} (took : Took about_unit has_unit put_unit_p room text signs.at x y to) where
      pub negated_took : {z : Nodes} → Negated signs.value y z → Took about_unit has_unit put_unit_p room text at x z to
      unfolding has_unit_p has_or_p answer
      negated_took {z} negated =
          let n = signs.value in
          let more : z.count ≡ y.count + n = ap (λ (d : Draft). d.count) negated.drafted ∙ nots_count n (so_far y) in
          record {
            tree = nots n took.tree;
            goes = λ k.
                ap answer (passed.goes room k.0 k.1) ∙ took.goes (after_nots n k.0, k.1)
                ∙ ap (λ p. answer (run room (has_or_p k.1 p) (ahead text to))) (fill_nots n k.0 took.tree);
            drafted = negated.drafted ∙ ap (put_nots n) took.drafted ∙ sym (nots_put n took.tree (so_far x));
            onward = omega (arith, passed.taken, took.onward);
            within = took.within;
            more = omega (arith, more, took.more);
            taken = omega (arith, more, took.taken, passed.taken);
          }

-- ---- a piece of one token
pub record IsPiece (t : Lexeme) (x : Node) : Type 0 where
  pub known : is_end t ≡ false
  pub tree : UnitP
  pub goes : (room : ℕ) (w : HoleP × (OrP → State)) (ts : List Token) → run room (about_unit w) (meant t ∷ ts) ≡ run room (has_unit w tree) ts
  pub puts : (d : Draft) → put x d ≡ put_unit_p tree d

pub is_piece : (t : Lexeme) (x : Node) → single t ≡ Some x → IsPiece t x
unfolding computing meant is_end put_unit_p
is_piece (Plain n) x e =
    elim (test (eqb n true_word)) [
      | inl t ↦
          let is : node 2 0 0 0 ≡ x = same_Some _ _ (rw t at e) in
          record {
            known = refl;
            tree = trueP;
            goes = λ room w ts. rw (eqb-true n true_word t);
            puts = λ d. rw (← is);
          }
      | inr t ↦ elim (test (eqb n false_word)) [
        | inl f ↦
            let is : node 1 0 0 0 ≡ x = same_Some _ _ (rw (t, f) at e) in
            record {
              known = refl;
              tree = falseP;
              goes = λ room w ts. rw (eqb-true n false_word f);
              puts = λ d. rw (← is);
            }
        | inr f ↦ absurd (none-some x (rw (t, f) at e))
      ]
    ]
is_piece (Signal k) x e =
    let is : node 3 0 k 0 ≡ x = same_Some _ _ e in
    record {
      known = refl;
      tree = signalP k;
      goes = λ room w ts. refl;
      puts = λ d. rw (← is);
    }
is_piece (Name u) x e =
    let is : node 4 0 u 0 ≡ x = same_Some _ _ e in
    record {
      known = refl;
      tree = nameP u;
      goes = λ room w ts. refl;
      puts = λ d. rw (← is);
    }
is_piece (Number n) x e = absurd (none-some x e)
is_piece NoToken x e = absurd (none-some x e)
is_piece End x e = absurd (none-some x e)

pub no_piece : (t : Lexeme) → single t ≡ None → (t ≡ Plain not_sign → ⊥) → (t ≡ Plain open_round → ⊥) → (w : HoleP × (OrP → State))
    → step (about_unit w) (meant t) ≡ failed
unfolding computing meant
no_piece (Plain n) e bare shut w =
    elim (test (eqb n true_word)) [
      | inl t ↦ absurd (none-some (node 2 0 0 0) (sym e ∙ rw t refl))
      | inr t ↦ elim (test (eqb n false_word)) [
        | inl f ↦ absurd (none-some (node 1 0 0 0) (sym e ∙ rw (t, f) refl))
        | inr f ↦
            no_piece_p w.0 w.1 n t f (ne_eqb n not_sign (λ is. bare (ap Plain is))) (ne_eqb n open_round (λ is. shut (ap Plain is)))
      ]
    ]
no_piece (Signal k) e bare shut w = absurd (none-some _ (sym e))
no_piece (Name u) e bare shut w = absurd (none-some _ (sym e))
no_piece (Number n) e bare shut w = refl
no_piece NoToken e bare shut w = refl
no_piece End e bare shut w = refl

unended : (w : HoleP × (OrP → State)) → answer (about_unit w) ≡ none
unfolding computing
unended w = refl

open_first : (w : HoleP × (OrP → State)) (room : ℕ) (ts : List Token)
    → run room (about_unit w) (plain open_round ∷ ts) ≡ run room (about_bracket_p (λ p. has_unit w (bracket_p p))) (plain open_round ∷ ts)
unfolding computing
open_first w room ts = refl

-- the first token of a piece before which there is no !
module _ {text : List ℕ} {at : ℕ} {first : Lexed} (next : Next text at first) where
  bare_token : NoNot text at → first.token ≡ Plain not_sign → ⊥
  unfolding meant is_end
  bare_token bare e = bare (ahead text first.at) (comes next (Plain not_sign) e refl).next

  -- it begins no piece
  pub single_none : {room : ℕ} → NoNot text at → (first.token ≡ Plain open_round → ⊥) → None ≡ single first.token
      → Outside about_unit room text at
  single_none {room} bare shut none-there =
      let never = stuck_at next about_unit (λ _ w. unended w) (no_piece first.token (sym none-there) (bare_token bare) shut) in
      record { fails = λ w. never.fails room w }

  module _ {x : Node} (is : Some x ≡ single first.token) where
    piece : IsPiece first.token x
    piece = is_piece first.token x (sym is)

    there : Comes (meant first.token) text at first.at
    there = comes next first.token refl piece.known

    -- it is the whole piece
    pub single_took : {room : ℕ} {y z : Nodes} → at ≤ length text → NodePut x y z
        → Took about_unit has_unit put_unit_p room text at y z first.at
    single_took {room} {y} inside p =
        let w = went_leaf room (λ w. has_unit w piece.tree) (went_none about_unit room text at inside) there
        (λ w ts. piece.goes room w ts) in
        took_alone piece.tree w p (piece.puts (so_far y)) there.onward

  -- it is an opening bracket
  module _ (opens : first.token ≡ Plain open_round) where
    begins : (room : ℕ) (w : HoleP × (OrP → State))
        → answer (run room (about_unit w) (ahead text at)) ≡ answer (run room (about_bracket_p (λ p. has_unit w (bracket_p p))) (ahead text at))
    unfolding meant is_end
    begins room w =
        let e = (comes next (Plain open_round) opens refl).next in
        ap (λ ts. answer (run room (about_unit w) ts)) e ∙ ap answer (open_first w room (ahead text first.at))
        ∙ ap (λ ts. answer (run room (about_bracket_p (λ p. has_unit w (bracket_p p))) ts)) (sym e)

    pub bracket_piece : (room : ℕ) (x y : Nodes) (r : Option ℕ)
        → Reads about_bracket_p next_piece put_or_p room text at x y r → Reads about_unit has_unit put_unit_p room text at x y r
    unfolding put_unit_p
    bracket_piece room x y r =
        either r (λ out. record { fails = λ w. begins room w ∙ out.fails (λ p. has_unit w (bracket_p p)) })
        (λ got t.
        record {
          tree = bracket_p t.tree;
          goes = λ w. begins room w ∙ t.goes (λ p. has_unit w (bracket_p p));
          drafted = t.drafted;
          onward = t.onward;
          within = t.within;
          more = t.more;
          taken = t.taken;
        })
