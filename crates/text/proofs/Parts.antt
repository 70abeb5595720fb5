-- Laws of reading names and parts.
use Rattle.std.proofs.Common.{ℕ, ◌≤◌, ◌<◌, Bool, true, false, cond, List, [], ◌∷◌, ◌++◌, inr, ◌≡◌, refl, sym, ap, ◌∙◌, arith, lt-ltb, ltb, length}
use Rattle.semantics.specs.Proposition.{bit}
use Rattle.semantics.proofs.Tests.{and_intro, and_left, and_right}
use Rattle.stored.specs.Reach.{joint, name_mask}
use Rattle.grammar.specs.Token.{Token, plain, signalled, named, number, outside, colon_sign}
use Rattle.grammar.specs.Tree.{OrF, TypedPart}
use Rattle.grammar.specs.Spelled.{is_among}
use Rattle.grammar.specs.Small.{small_names}
use Rattle.grammar.specs.Reader.{State, failed, sign, a_name, about_part, run, answer}
use Rattle.grammar.proofs.Said.{computing}
use Rattle.grammar.proofs.Room.{failed_none}
use Rattle.typed.specs.Draft.{mask_of, put_part, put_or_f, part_mask}
use Rattle.typed.proofs.Clauses.{mask_bit, mask_next}
use Rattle.propositions.specs.declared.leaf.Leaf.{Leaf}
use Rattle.propositions.specs.declared.nodes.Nodes.{Nodes}
use Rattle.propositions.specs.Reads.{ahead, Comes, Stuck, Outside, Took, Then, before_f, after}
use Rattle.propositions.proofs.Leaves.{no_name}
use Rattle.propositions.proofs.Steps.{sign_run}
use Rattle.propositions.proofs.Went.{Went, went_at, went_leaf, went_took, fails_leaf}
use Rattle.text.specs.Parts.{some_names, some_part, NamesTook, NamesTwice, LastNode, PartTook}

-- ---- names one after another
-- those read from `at` up to `here`
pub record SoFar (text : List ℕ) (at mask here : ℕ) : Type 0 where
  pub names : List ℕ
  pub goes : (room n : ℕ) (s : List ℕ → State)
      → answer (run room (some_names n s []) (ahead text at)) ≡ answer (run room (some_names n s names) (ahead text here))
  pub masked : mask ≡ mask_of names
  pub small : small_names names ≡ true
  pub onward : at ≤ here
  pub within : at ≤ length text → here ≤ length text

pub no_names_lem : (text : List ℕ) (at : ℕ) → SoFar text at 0 at
unfolding mask_of small_names
no_names_lem text at =
    record { names = []; goes = λ room n s. refl; masked = refl; small = refl; onward = omega arith; within = λ h. h }

-- after the names comes a sign
names_end : (room n : ℕ) (s : List ℕ → State) (us : List ℕ) (ts : List Token) → ((u : ℕ) (rest : List Token) → ts ≡ named u ∷ rest → ⊥)
    → answer (run room (some_names n s us) ts) ≡ answer (run room (sign n (s us)) ts)
unfolding computing
names_end room n s us [] absent = refl
names_end room n s us (plain m ∷ ts) absent = refl
names_end room n s us (signalled k ∷ ts) absent = refl
names_end room n s us (named u ∷ ts) absent = absurd (absent u ts refl)
names_end room n s us (number m ∷ ts) absent = refl
names_end room n s us (outside ∷ ts) absent = refl

-- a name is read where it is not among them, and fails where it is
name_read : (room n : ℕ) (s : List ℕ → State) (us : List ℕ) (u : ℕ) (ts : List Token) (b : Bool) → is_among u us ≡ b
    → run room (some_names n s us) (named u ∷ ts) ≡ run room (cond b failed (some_names n s (us ++ u ∷ []))) ts
unfolding computing
name_read room n s us u ts b e = ap (λ (b : Bool). run room (cond b failed (some_names n s (us ++ u ∷ []))) ts) e

small_more : (us : List ℕ) (u : ℕ) → small_names us ≡ true → u < 3 → small_names (us ++ u ∷ []) ≡ true
unfolding small_names
small_more [] u e h = and_intro (ltb u 3) true (lt-ltb u 3 h) refl
small_more (v ∷ us) u e h =
    and_intro (ltb v 3) (small_names (us ++ u ∷ [])) (and_left (ltb v 3) (small_names us) e)
    (small_more us u (and_right (ltb v 3) (small_names us) e) h)

module _ {text : List ℕ} {at mask here : ℕ} (far : SoFar text at mask here) where
  -- no other name comes
  pub names_took : Stuck a_name text here → NamesTook text at (record { value = mask; at = here })
  names_took never =
      record {
        names = far.names;
        goes = λ room n s. far.goes room n s ∙ names_end room n s far.names (ahead text here) (no_name never);
        mask = far.masked;
        onward = far.onward;
        within = far.within;
      }

  module _ {r : Leaf} (name : Comes (named r.value) text here r.at) {b : Bool} (e : b ≡ bit mask r.value) where
    -- whether the next name is among them
    among : is_among r.value far.names ≡ b
    among = sym (mask_bit far.names r.value far.small) ∙ ap (λ (m : ℕ). bit m r.value) (sym far.masked) ∙ sym e

    pub one_more : b ≡ false → {next : ℕ} → next ≡ joint mask (name_mask r.value) → SoFar text at next r.at
    one_more new is =
        let h = name.onward in
        let more = far.onward in
        record {
          names = far.names ++ r.value ∷ [];
          goes = λ room n s.
              far.goes room n s
              ∙ ap (λ (ts : List Token). answer (run room (some_names n s far.names) ts)) name.next
              ∙ ap answer (name_read room n s far.names r.value (ahead text r.at) false (among ∙ new));
          masked = is ∙ ap (λ (m : ℕ). joint m (name_mask r.value)) far.masked ∙ sym (mask_next far.names r.value);
          small = small_more far.names r.value far.small name.small;
          onward = omega arith;
          within = λ _. name.within;
        }

    -- one stands twice
    pub twice : b ≡ true → NamesTwice text at
    twice old =
        record {
          fails = λ room n s.
              far.goes room n s
              ∙ ap (λ (ts : List Token). answer (run room (some_names n s far.names) ts)) name.next
              ∙ ap answer (name_read room n s far.names r.value (ahead text r.at) true (among ∙ old))
              ∙ failed_none room (ahead text r.at);
        }

-- ---- a part: a formula, a colon and names
-- what comes after the formula f
abbrev rest : ℕ × (TypedPart → State) → OrF → State
rest w f = some_names w.0 (λ us. w.1 (record { formula = f; names = us })) []

-- a colon and the names come after the formula
abbrev colon_next : ℕ × (TypedPart → State) → Then OrF
colon_next w = record { wanted = colon_sign; closing = inr (omega arith); onto = rest w }

module _ {room : ℕ} {text : List ℕ} {at : ℕ} where
  pub part_none : Outside before_f room text at → Outside some_part room text at
  unfolding about_part
  part_none out = record { fails = λ w. out.fails (colon_next w) }

  module _ {x y : Nodes} {got : ℕ} (f : Took before_f after put_or_f room text at x y got) where
    to_colon : Went some_part room text at room got (λ w. sign colon_sign (rest w f.tree))
    unfolding about_part
    to_colon = went_at colon_next (went_took f)

    pub part_bare : Stuck (sign colon_sign) text got → Outside some_part room text at
    part_bare never = fails_leaf (λ w. rest w f.tree) to_colon never

    module _ {colon : ℕ} (coloned : Comes (plain colon_sign) text got colon) where
      to_names : Went some_part room text at room colon (λ w. rest w f.tree)
      to_names =
          went_leaf room (λ w. rest w f.tree) to_colon coloned
          (λ w ts. sign_run colon_sign room (rest w f.tree) ts (λ e. omega arith) (λ e. omega arith))

      pub part_twice : NamesTwice text colon → Outside some_part room text at
      part_twice names =
          record { fails = λ w. to_names.goes w ∙ names.fails room w.0 (λ us. w.1 (record { formula = f.tree; names = us })) }

      pub part_took : {listed : Leaf} {root : ℕ} → NamesTook text colon listed → LastNode y.count root
          → PartTook room text at x y (record { at = listed.at; root = root; mask = listed.value })
      unfolding put_part part_mask
      part_took us last =
          let h₁ = f.onward in
          let h₂ = coloned.onward in
          let h₃ = us.onward in
          let h₄ = f.taken in
          record {
            tree = record { formula = f.tree; names = us.names };
            goes = λ n s. to_names.goes (n, s) ∙ us.goes room n (λ us. s (record { formula = f.tree; names = us }));
            drafted = f.drafted;
            last_node = last;
            mask = us.mask;
            onward = omega arith;
            within = us.within coloned.within;
            more = f.more;
            taken = omega arith;
          }
