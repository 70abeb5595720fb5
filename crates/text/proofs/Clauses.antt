-- Laws of reading clauses: parts one after another, the word of a type, and a clause put after the others.
use Rattle.std.proofs.Common.{ℕ, zero, suc, ◌+◌, ◌-◌, ◌≤◌, ◌<◌, false, List, [], ◌∷◌, map, ◌≡◌, refl, sym, ap, ap₂, ◌∙◌, arith, length}
use Rattle.stored.specs.declared.StoredClause.{StoredClause}
use Rattle.stored.specs.Clause.{parts_used}
use Rattle.grammar.specs.Token.{Token, plain, signalled, named, number, outside, open_round, close_round, comma_sign}
use Rattle.grammar.specs.Tree.{TypedPart, TypedClause, pref_c, anti_c, init_c, implies_c, follows_c, triggers_c}
use Rattle.grammar.specs.Reader.{State, failed, sign, a_clause, step, run, answer}
use Rattle.grammar.proofs.Said.{computing}
use Rattle.grammar.proofs.Next.{open_sign}
use Rattle.typed.specs.Meaning.{parts_of}
use Rattle.typed.specs.Draft.{Draft, last, put_part, put_parts, roots_of, part_mask, type_number, fields_of, added, put_clause, Sketch, put_typed}
use Rattle.typed.proofs.Clauses.{mask_small}
use Rattle.propositions.specs.declared.leaf.Leaf.{Leaf}
use Rattle.propositions.specs.Lexemes.{is_word, awaited, word_from, WordComes}
use Rattle.propositions.specs.Reads.{ahead, Comes, Stuck, Outside}
use Rattle.propositions.proofs.Leaves.{apart, word_stuck}
use Rattle.propositions.proofs.Steps.{comma_run, close_run}
use Rattle.propositions.proofs.Went.{Went, went_none, went_leaf, went_on, fails_leaf, fails_on}
use Rattle.text.specs.declared.part.GotPart.{GotPart}
use Rattle.text.specs.declared.clause.GotParts.{GotParts}
use Rattle.propositions.specs.declared.nodes.Nodes.{Nodes}
use Rattle.propositions.specs.Nodes.{so_far}
use Rattle.text.specs.declared.clause.Clauses.{Clauses}
use Rattle.text.specs.Parts.{some_part, PartTook, the_parts, fields_from, PartsTook, LastNode, with_first, clauses_so_far, ClausePut, Drawn, LineTook, has_clause}

-- ---- parts one after another
-- a part's root, where there are at most 64 nodes
root_is : (x y : Nodes) (d : TypedPart) (root : ℕ) → so_far y ≡ put_part d (so_far x) → LastNode y.count root → y.count ≤ 64
    → root ≡ last (put_part d (so_far x))
unfolding last
root_is x y d root drafted is few = is.root few ∙ ap (λ (e : Draft). e.count - 1) drafted

mask_fits : (d : TypedPart) (mask : ℕ) → mask ≡ part_mask d → mask < 256
unfolding part_mask
mask_fits d mask e = let small = mask_small d.names in omega arith

-- the fields with another part before those of x
abbrev shifted : ℕ → ℕ → StoredClause → StoredClause
shifted root mask x =
    record {
      clause_type = x.clause_type;
      role = x.role;
      root1 = root;
      root2 = x.root1;
      root3 = x.root2;
      mask1 = mask;
      mask2 = x.mask1;
      mask3 = x.mask2;
    }

-- a clause without parts
abbrev bare : ℕ → ℕ → StoredClause
bare type role = record { clause_type = type; role = role; root1 = 0; root2 = 0; root3 = 0; mask1 = 0; mask2 = 0; mask3 = 0 }

fields_shifted : (type role root mask : ℕ) (roots masks : List ℕ)
    → shifted root mask (fields_from type role roots masks) ≡ fields_from type role (root ∷ roots) (mask ∷ masks)
unfolding fields_from
fields_shifted type role root mask roots masks = refl

fields_bare : (type role : ℕ) → bare type role ≡ fields_from type role [] []
unfolding fields_from
fields_bare type role = refl

-- no first part
pub parts_none : {room : ℕ} {text : List ℕ} {at : ℕ} (n : ℕ) → Outside some_part room text at → Outside (the_parts n) room text at
unfolding the_parts
parts_none zero out = record { fails = λ s. out.fails (close_round, λ d. s (d ∷ [])) }
parts_none (suc n) out = record { fails = λ s. out.fails (comma_sign, λ d. the_parts n (λ ds. s (d ∷ ds))) }

module _ {room type role : ℕ} {text : List ℕ} {at : ℕ} {x : Nodes} where
  -- a part alone
  pub one_took : {n : ℕ} {y : Nodes} {p : GotPart} {r : GotParts} → n ≡ 0 → type < 256 → role < 256 → PartTook room text at x y p
      → r ≡ with_first p (record { at = p.at; fields = bare type role })
      → PartsTook n room type role text at x y r
  unfolding the_parts put_parts roots_of
  one_took {y = y} {p = p} alone h₁ h₂ d with =
      let small = d.last_node.fits in
      rw (alone, with)
      (record {
        trees = d.tree ∷ [];
        as_many = refl;
        goes = λ s. d.goes close_round (λ d. s (d ∷ []));
        drafted = d.drafted;
        fields = λ few.
            ap₂ (λ (root mask : ℕ). shifted root mask (bare type role))
            (root_is x y d.tree p.root d.drafted d.last_node few) d.mask
            ∙ ap (shifted (last (put_part d.tree (so_far x))) (part_mask d.tree)) (fields_bare type role)
            ∙ fields_shifted type role (last (put_part d.tree (so_far x))) (part_mask d.tree) [] [];
        fits =
            record {
              type_fits = h₁;
              role_fits = h₂;
              root1_fits = omega arith;
              root2_fits = omega arith;
              root3_fits = omega arith;
              mask1_fits = mask_fits d.tree p.mask d.mask;
              mask2_fits = omega arith;
              mask3_fits = omega arith;
            };
        onward = d.onward;
        within = d.within;
        more = d.more;
        taken = d.taken;
      })

-- a part, a comma and the others
module _ {room : ℕ} {text : List ℕ} {at : ℕ} {x : Nodes} where
  module _ {m n : ℕ} (one : m ≡ suc n) {w : Nodes} {p : GotPart} (d : PartTook room text at x w p) where
    -- what comes after the first part e
    next : (List TypedPart → State) → TypedPart → State
    next s e = the_parts n (λ ds. s (e ∷ ds))

    to_comma : Went (the_parts (suc n)) room text at room p.at (λ s. sign comma_sign (next s d.tree))
    unfolding the_parts next
    to_comma =
        record { goes = λ s. d.goes comma_sign (next s); onward = (let h = d.onward in omega arith); within = d.within }

    pub no_comma : Stuck (sign comma_sign) text p.at → Outside (the_parts m) room text at
    no_comma never = rw one (fails_leaf (λ s. next s d.tree) to_comma never)

    module _ {comma : ℕ} (joins : Comes (plain comma_sign) text p.at comma) where
      to_others : Went (the_parts (suc n)) room text at room comma (λ s. next s d.tree)
      to_others = went_leaf room (λ s. next s d.tree) to_comma joins (λ s ts. comma_run room (next s d.tree) ts)

      pub no_others : Outside (the_parts n) room text comma → Outside (the_parts m) room text at
      unfolding next
      no_others out = rw one (fails_on (λ s ds. s (d.tree ∷ ds)) to_others out)

      module _ {type role : ℕ} {y : Nodes} {q : GotParts} (ds : PartsTook n room type role text comma w y q) where
        shifted_took : PartsTook (suc n) room type role text at x y (with_first p q)
        unfolding next put_parts roots_of
        shifted_took =
            let h₁ = d.onward in
            let h₂ = joins.onward in
            let h₃ = ds.onward in
            let h₄ = d.taken in
            let h₅ = ds.taken in
            let h₆ = d.more in
            let h₇ = ds.more in
            let h₈ = d.last_node.fits in
            let fit = ds.fits in
            record {
              trees = d.tree ∷ ds.trees;
              as_many = ap suc ds.as_many;
              goes = λ s. to_others.goes s ∙ ds.goes (λ es. s (d.tree ∷ es));
              drafted = ds.drafted ∙ ap (put_parts ds.trees) d.drafted;
              fields = λ few.
                  ap₂ (λ (root mask : ℕ). shifted root mask q.fields)
                  (root_is x w d.tree p.root d.drafted d.last_node (omega arith)) d.mask
                  ∙ ap (shifted (last (put_part d.tree (so_far x))) (part_mask d.tree))
                  (ds.fields few ∙ ap (λ (e : Draft). fields_from type role (roots_of ds.trees e) (map part_mask ds.trees)) d.drafted)
                  ∙ fields_shifted type role (last (put_part d.tree (so_far x))) (part_mask d.tree)
                  (roots_of ds.trees (put_part d.tree (so_far x))) (map part_mask ds.trees);
              fits =
                  record {
                    type_fits = fit.type_fits;
                    role_fits = fit.role_fits;
                    root1_fits = omega arith;
                    root2_fits = fit.root1_fits;
                    root3_fits = fit.root2_fits;
                    mask1_fits = mask_fits d.tree p.mask d.mask;
                    mask2_fits = fit.mask1_fits;
                    mask3_fits = fit.mask2_fits;
                  };
              onward = omega arith;
              within = ds.within;
              more = omega arith;
              taken = omega arith;
            }

        pub more_took : {r : GotParts} → r ≡ with_first p q → PartsTook m room type role text at x y r
        more_took with = rw (one, with) shifted_took

-- as many parts as the type uses
pub used-some : (v : ℕ) → v ≤ 5 → 1 ≤ parts_used (v + 1)
unfolding parts_used
used-some zero h = omega arith
used-some (suc zero) h = omega arith
used-some (suc (suc zero)) h = omega arith
used-some (suc (suc (suc zero))) h = omega arith
used-some (suc (suc (suc (suc zero)))) h = omega arith
used-some (suc (suc (suc (suc (suc zero))))) h = omega arith
used-some (suc (suc (suc (suc (suc (suc v)))))) h = absurd (omega arith)

-- ---- a clause
-- what comes after the parts of a clause of this type, of which there are as many as the type uses
after_one : (TypedPart → TypedClause) → (TypedClause → State) → List TypedPart → State
after_one c k [] = failed
after_one c k (d ∷ []) = k (c d)
after_one c k (d ∷ e ∷ ds) = failed

after_two : (TypedPart → TypedPart → TypedClause) → (TypedClause → State) → List TypedPart → State
after_two c k [] = failed
after_two c k (d ∷ []) = failed
after_two c k (d ∷ e ∷ []) = k (c d e)
after_two c k (d ∷ e ∷ f ∷ ds) = failed

after_three : (TypedPart → TypedPart → TypedPart → TypedClause) → (TypedClause → State) → List TypedPart → State
after_three c k [] = failed
after_three c k (d ∷ []) = failed
after_three c k (d ∷ e ∷ []) = failed
after_three c k (d ∷ e ∷ f ∷ []) = k (c d e f)
after_three c k (d ∷ e ∷ f ∷ g ∷ ds) = failed

after_parts : ℕ → (TypedClause → State) → List TypedPart → State
after_parts zero k ds = failed
after_parts (suc zero) k ds = after_one pref_c k ds
after_parts (suc (suc zero)) k ds = after_two init_c k ds
after_parts (suc (suc (suc zero))) k ds = after_one anti_c k ds
after_parts (suc (suc (suc (suc zero)))) k ds = after_two implies_c k ds
after_parts (suc (suc (suc (suc (suc zero))))) k ds = after_three follows_c k ds
after_parts (suc (suc (suc (suc (suc (suc zero)))))) k ds = after_three triggers_c k ds
after_parts (suc (suc (suc (suc (suc (suc (suc t))))))) k ds = failed

-- the word of a type
type_read : (room v : ℕ) (k : TypedClause → State) (ts : List Token) → v ≤ 5
    → run room (a_clause k) (word_from 3 v ∷ ts) ≡ run room (sign open_round (the_parts (parts_used (v + 1) - 1) (after_parts (v + 1) k))) ts
unfolding computing the_parts parts_used after_parts after_one after_two after_three
type_read room zero k ts high = refl
type_read room (suc zero) k ts high = refl
type_read room (suc (suc zero)) k ts high = refl
type_read room (suc (suc (suc zero))) k ts high = refl
type_read room (suc (suc (suc (suc zero)))) k ts high = refl
type_read room (suc (suc (suc (suc (suc zero))))) k ts high = refl
type_read room (suc (suc (suc (suc (suc (suc v)))))) k ts high = absurd (omega arith)

-- the clause of a type with these parts
record Formed (t : ℕ) (ds : List TypedPart) : Type 0 where
  clause : TypedClause
  parts : parts_of clause ≡ ds
  type : type_number clause ≡ t
  state : (k : TypedClause → State) → after_parts t k ds ≡ k clause

formed_one : (t : ℕ) (ds : List TypedPart) → length ds ≡ 1 → ((d : TypedPart) → Formed t (d ∷ [])) → Formed t ds
formed_one t [] h f = absurd (omega arith)
formed_one t (d ∷ []) h f = f d
formed_one t (d ∷ e ∷ ds) h f = absurd (omega arith)

formed_two : (t : ℕ) (ds : List TypedPart) → length ds ≡ 2 → ((d e : TypedPart) → Formed t (d ∷ e ∷ [])) → Formed t ds
formed_two t [] h f = absurd (omega arith)
formed_two t (d ∷ []) h f = absurd (omega arith)
formed_two t (d ∷ e ∷ []) h f = f d e
formed_two t (d ∷ e ∷ g ∷ ds) h f = absurd (omega arith)

formed_three : (t : ℕ) (ds : List TypedPart) → length ds ≡ 3 → ((d e g : TypedPart) → Formed t (d ∷ e ∷ g ∷ [])) → Formed t ds
formed_three t [] h f = absurd (omega arith)
formed_three t (d ∷ []) h f = absurd (omega arith)
formed_three t (d ∷ e ∷ []) h f = absurd (omega arith)
formed_three t (d ∷ e ∷ g ∷ []) h f = f d e g
formed_three t (d ∷ e ∷ g ∷ j ∷ ds) h f = absurd (omega arith)

formed : (t : ℕ) (ds : List TypedPart) → 1 ≤ t → t ≤ 6 → length ds ≡ suc (parts_used t - 1) → Formed t ds
unfolding parts_used parts_of type_number after_parts after_one after_two after_three
formed zero ds low high h = absurd (omega arith)
formed (suc zero) ds low high h = formed_one 1 ds h (λ d. record { clause = pref_c d; parts = refl; type = refl; state = λ k. refl })
formed (suc (suc zero)) ds low high h =
    formed_two 2 ds h (λ d e. record { clause = init_c d e; parts = refl; type = refl; state = λ k. refl })
formed (suc (suc (suc zero))) ds low high h =
    formed_one 3 ds h (λ d. record { clause = anti_c d; parts = refl; type = refl; state = λ k. refl })
formed (suc (suc (suc (suc zero)))) ds low high h =
    formed_two 4 ds h (λ d e. record { clause = implies_c d e; parts = refl; type = refl; state = λ k. refl })
formed (suc (suc (suc (suc (suc zero))))) ds low high h =
    formed_three 5 ds h (λ d e g. record { clause = follows_c d e g; parts = refl; type = refl; state = λ k. refl })
formed (suc (suc (suc (suc (suc (suc zero)))))) ds low high h =
    formed_three 6 ds h (λ d e g. record { clause = triggers_c d e g; parts = refl; type = refl; state = λ k. refl })
formed (suc (suc (suc (suc (suc (suc (suc t))))))) ds low high h = absurd (omega arith)

fields_of_lem : (role : ℕ) (c : TypedClause) (x : Draft)
    → fields_from (type_number c) role (roots_of (parts_of c) x) (map part_mask (parts_of c)) ≡ fields_of role c x
unfolding fields_from fields_of
fields_of_lem role c x = refl

-- a clause is put after the others
one_more : (x : StoredClause) (d : Draft) → (put_clause x d).count ≡ suc d.count
unfolding put_clause added
one_more x d = refl

clause_drawn : (role : ℕ) (c : TypedClause) {fields : StoredClause} {x y : Nodes} {u v : Clauses} → so_far y ≡ put_parts (parts_of c) (so_far x)
    → (y.count ≤ 64 → fields ≡ fields_of role c (so_far x)) → x.count < y.count → ClausePut fields u v → v.count ≡ suc u.count
    → (z : Sketch) → Drawn z x u → Drawn (put_typed role c z) y v
unfolding put_typed
clause_drawn role c drafted fields more put one z drawn =
    record {
      nodes_drawn = drafted ∙ ap (put_parts (parts_of c)) drawn.nodes_drawn;
      clauses_drawn = λ few.
          put.drafted ∙ ap₂ put_clause (fields few ∙ ap (fields_of role c) drawn.nodes_drawn) (drawn.clauses_drawn (omega arith));
      counted = one ∙ ap suc drawn.counted ∙ sym (one_more (fields_of role c z.nodes) z.clauses);
    }

-- ---- the word of a type
no_type : (k : TypedClause → State) (t : Token) → is_word 3 8 t ≡ false → step (a_clause k) t ≡ failed
unfolding computing is_word
no_type k (plain n) e =
    rw (
      apart 3 8 n 3 e (omega arith) (omega arith),
      apart 3 8 n 4 e (omega arith) (omega arith),
      apart 3 8 n 5 e (omega arith) (omega arith),
      apart 3 8 n 6 e (omega arith) (omega arith),
      apart 3 8 n 7 e (omega arith) (omega arith),
      apart 3 8 n 8 e (omega arith) (omega arith),
    )
no_type k (signalled i) e = refl
no_type k (named u) e = refl
no_type k (number n) e = refl
no_type k outside e = refl

pub type_none : {text : List ℕ} {at : ℕ} → Stuck (awaited {low = 3} {high = 8} {ts = ahead text at}) text at → Outside a_clause 32 text at
unfolding computing
type_none {text} {at} never = let none_left = word_stuck {text = text} {at = at} a_clause (λ _ k. refl) no_type never in record { fails = λ k. none_left.fails 32 k }

-- ---- the type's word, an opening bracket, the parts and a closing bracket
module _ {text : List ℕ} {at : ℕ} (start : at ≤ length text) {word : Leaf} (known : WordComes 3 8 text at word) where
  -- the parts and what comes after them
  inside : (TypedClause → State) → State
  inside k = the_parts (parts_used (word.value + 1) - 1) (after_parts (word.value + 1) k)

  to_open : Went a_clause 32 text at 32 word.at (λ k. sign open_round (inside k))
  unfolding inside
  to_open =
      went_leaf 32 (λ k. sign open_round (inside k)) (went_none a_clause 32 text at start) known.comes
      (λ k ts. type_read 32 word.value k ts known.range)

  pub no_bracket : Stuck (sign open_round) text word.at → Outside a_clause 32 text at
  no_bracket never = fails_leaf inside to_open never

  module _ {bracket : ℕ} (opening : Comes (plain open_round) text word.at bracket) {used : ℕ} (is-used : used ≡ parts_used (word.value + 1)) where
    to_parts : Went a_clause 32 text at 31 bracket (λ k. the_parts (used - 1) (after_parts (word.value + 1) k))
    unfolding inside
    to_parts = rw is-used (went_leaf 31 inside to_open opening (λ k ts. open_sign 31 (inside k) ts))

    pub no_parts : Outside (the_parts (used - 1)) 31 text bracket → Outside a_clause 32 text at
    no_parts out = fails_on (after_parts (word.value + 1)) to_parts out

    module _ {role : ℕ} {x y : Nodes} {q : GotParts}
        (ds : PartsTook (used - 1) 31 (word.value + 1) role text bracket x y q) where
      to_close : Went a_clause 32 text at 31 q.at (λ k. sign close_round (after_parts (word.value + 1) k ds.trees))
      to_close =
          went_on (after_parts (word.value + 1)) to_parts
          (record { goes = ds.goes; onward = (let h = ds.onward in omega arith); within = ds.within })

      pub unclosed : Stuck (sign close_round) text q.at → Outside a_clause 32 text at
      unclosed never = fails_leaf (λ k. after_parts (word.value + 1) k ds.trees) to_close never

      pub clause_took : {u v : Clauses} {close : ℕ} → Comes (plain close_round) text q.at close → ClausePut q.fields u v
          → LineTook a_clause has_clause (put_typed role) text at x u y v close
      clause_took {u} {close = close} closed put =
          let type = word.value + 1 in
          let range = known.range in
          let f = formed type ds.trees (omega arith) (omega arith) (ds.as_many ∙ ap (λ used. suc (used - 1)) is-used) in
          let to-end =
          went_leaf 32 (λ k. after_parts type k ds.trees) to_close closed
          (λ k ts. close_run 31 (after_parts type k ds.trees) ts) in
          let h₁ = known.comes.onward in
          let h₂ = opening.onward in
          let h₃ = ds.taken in
          let h₄ = closed.onward in
          let h₅ = ds.onward in
          let one = ap (λ (d : Draft). d.count) put.drafted ∙ one_more q.fields (clauses_so_far u) in
          record {
            tree = f.clause;
            goes = λ k. to-end.goes k ∙ ap (λ (s : State). answer (run 32 s (ahead text close))) (f.state k);
            drawn =
                clause_drawn role f.clause
                (ds.drafted ∙ ap (λ (es : List TypedPart). put_parts es (so_far x)) (sym f.parts))
                (λ few. ds.fields few
                ∙ ap₂ (λ (t : ℕ) (es : List TypedPart). fields_from t role (roots_of es (so_far x)) (map part_mask es)) (sym f.type)
                (sym f.parts)
                ∙ fields_of_lem role f.clause (so_far x))
                ds.more put one;
            onward = omega arith;
            within = closed.within;
            more = ds.more;
            taken = omega arith;
            one = one;
          }
