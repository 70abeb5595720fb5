-- Tokens and pieces read one after another.
use Rattle.std.proofs.Common.{ℕ, suc, ◌+◌, ◌-◌, ◌≤◌, ◌<◌, arith, List, ◌∷◌, inl, ◌≡◌, refl, ap, ◌∙◌, length, Option, Some, None, MatchOption}
use mathlib.Core.Option.{none}
use Rattle.grammar.specs.Token.{Token, plain, open_round, close_round}
use Rattle.grammar.specs.Reader.{State, sign, run, answer}
use Rattle.stored.specs.declared.Node.{Node}
use Rattle.typed.specs.Draft.{Draft, added, put as put_node}
use Rattle.propositions.specs.declared.nodes.Nodes.{Nodes}
use Rattle.propositions.specs.Reads.{ahead, Comes, Stuck, Took, Outside, Ended, Then, next, after}
use Rattle.propositions.specs.Nodes.{so_far, NodePut}
use Rattle.propositions.specs.Lexemes.{Opens}
use Rattle.propositions.proofs.Steps.{close_back}

-- From `about` at one place the reader came to s at another, in its room there.
pub record Went {K : Type 0} (about : K → State) (from : ℕ) (text : List ℕ) (at room to : ℕ) (s : K → State) : Type 0 where
  pub goes : (k : K) → answer (run from (about k) (ahead text at)) ≡ answer (run room (s k) (ahead text to))
  pub onward : at ≤ to
  pub within : to ≤ length text

pub went_none : {K : Type 0} (about : K → State) (room : ℕ) (text : List ℕ) (at : ℕ) → at ≤ length text → Went about room text at room at about
went_none about room text at h = record { goes = λ k. refl; onward = omega arith; within = h }

pub went_open : {K : Type 0} {text : List ℕ} {at depth to : ℕ} (s : K → State) → Opens text at depth to
    → Went (λ k. sign open_round (s k)) depth text at (depth - 1) to s
went_open s opens = record { goes = λ k. opens.goes (s k); onward = (let h = opens.onward in omega arith); within = opens.within }

-- the same of some of the states
pub none_at : {K L : Type 0} {about : L → State} {room : ℕ} {text : List ℕ} {at : ℕ} (κ : K → L) → Outside about room text at
    → Outside (λ k. about (κ k)) room text at
none_at κ out = record { fails = λ k. out.fails (κ k) }

pub went_at : {K L : Type 0} {about : L → State} {from : ℕ} {text : List ℕ} {at room to : ℕ} {s : L → State} (κ : K → L)
    → Went about from text at room to s → Went (λ k. about (κ k)) from text at room to (λ k. s (κ k))
went_at κ w = record { goes = λ k. w.goes (κ k); onward = w.onward; within = w.within }

module _ {K L : Type 0} {about : K → State} {from : ℕ} {text : List ℕ} {at room to : ℕ} {wants : L → State} (κ : K → L)
    (w : Went about from text at room to (λ k. wants (κ k))) where
  -- no token can come there
  pub fails_leaf : Stuck wants text to → Outside about from text at
  fails_leaf never = record { fails = λ k. w.goes k ∙ never.fails room (κ k) }

  pub fails_on : Outside wants room text to → Outside about from text at
  fails_on out = record { fails = λ k. w.goes k ∙ out.fails (κ k) }

  -- more was read there
  pub went_on : {room' to' : ℕ} {s : L → State} → Went wants room text to room' to' s → Went about from text at room' to' (λ k. s (κ k))
  went_on w' =
      record {
        goes = λ k. w.goes k ∙ w'.goes (κ k);
        onward = (let h = w.onward in let h' = w'.onward in omega arith);
        within = w'.within;
      }

-- one token more
pub went_leaf : {K : Type 0} {about : K → State} {from : ℕ} {text : List ℕ} {at room to : ℕ} {s : K → State} {token : Token} {to' : ℕ}
    (room' : ℕ) (s' : K → State) → Went about from text at room to s → Comes token text to to'
    → ((k : K) (ts : List Token) → run room (s k) (token ∷ ts) ≡ run room' (s' k) ts) → Went about from text at room' to' s'
went_leaf {room = room} {s = s} room' s' w leaf takes =
    record {
      goes = λ k. w.goes k ∙ ap (λ ts. answer (run room (s k) ts)) leaf.next ∙ ap answer (takes k _);
      onward = (let h = w.onward in let h' = leaf.onward in omega arith);
      within = leaf.within;
    }

pub further : {K : Type 0} {about : K → State} {from : ℕ} {text : List ℕ} {at room to : ℕ} {s : K → State} {token : Token} {to' : ℕ}
    → Went about from text at room to s → Comes token text to to' → at < to'
further w leaf = let h = w.onward in let h' = leaf.onward in omega arith

-- what a call answered is answered, of which the same follows in other terms
pub either : {A P P' : Type 0} {Q Q' : A → Type 0} (r : Option A) → (P → P') → ((x : A) → Q x → Q' x) → MatchOption r P Q → MatchOption r P' Q'
either None f g p = f p
either (Some x) f g q = g x q

pub put_counted : {x : Node} {before after : Nodes} → NodePut x before after → after.count ≡ suc before.count
unfolding put_node added
put_counted p = ap (λ (d : Draft). d.count) p.drafted

-- no piece, from an earlier state and place
pub none_from : {K : Type 0} {about about' : K → State} {room : ℕ} {text : List ℕ} {at to : ℕ}
    → ((k : K) → answer (run room (about k) (ahead text at)) ≡ answer (run room (about' k) (ahead text to)))
    → Outside about' room text to → Outside about room text at
none_from goes out = record { fails = λ k. goes k ∙ out.fails k }

module _ {K T : Type 0} {about : K → State} {has : K → T → State} {put : T → Draft → Draft} {room : ℕ} {text : List ℕ} {at : ℕ}
    {x : Nodes} where
  pub went_took : {y : Nodes} {to : ℕ} (t : Took about has put room text at x y to) → Went about room text at room to (λ k. has k t.tree)
  went_took t = record { goes = t.goes; onward = (let h = t.onward in omega arith); within = t.within }

  -- the same, from an earlier state and place
  pub ended_from : {about' : K → State} {to : ℕ} {Taken : ℕ → Type 0} {y : Nodes} {r : ℕ} → at ≤ to
      → ((k : K) → answer (run room (about k) (ahead text at)) ≡ answer (run room (about' k) (ahead text to)))
      → Ended about' has put Taken room text to x y r → Ended about has put Taken room text at x y r
  ended_from onward goes ended =
      let t = ended.took in
      record {
        took =
            record {
              tree = t.tree;
              goes = λ k. goes k ∙ t.goes k;
              drafted = t.drafted;
              onward = (let h = t.onward in omega arith);
              within = t.within;
              more = t.more;
              taken = (let h = t.taken in omega arith);
            };
        stops = ended.stops;
      }

  -- a piece that its last node ends
  pub took_put : {last : Node} {z y : Nodes} {to : ℕ} (t : T)
      → Went about room text at room to (λ k. has k t) → NodePut last z y
      → put_node last (so_far z) ≡ put t (so_far x)
      → x.count ≤ z.count → z.count + at < x.count + to → at < to
      → Took about has put room text at x y to
  took_put t w p same h₁ h₂ h₃ =
      let one = put_counted p in
      record {
        tree = t;
        goes = w.goes;
        drafted = p.drafted ∙ same;
        onward = h₃;
        within = w.within;
        more = omega (arith, one);
        taken = omega (arith, one);
      }

  -- the same, of which none of these signs can be read after it
  pub ended_put : {Taken : ℕ → Type 0} {last : Node} {z y : Nodes} {to : ℕ} (t : T)
      → Went about room text at room to (λ k. has k t) → NodePut last z y
      → put_node last (so_far z) ≡ put t (so_far x)
      → x.count ≤ z.count → z.count + at < x.count + to → at < to
      → ((k : K) (n : ℕ) (ts : List Token) → Taken n → ahead text to ≡ plain n ∷ ts → answer (run room (has k t) (plain n ∷ ts)) ≡ none)
      → Ended about has put Taken room text at x y to
  unfolding took_put
  ended_put t w p same h₁ h₂ h₃ stops = record { took = took_put t w p same h₁ h₂ h₃; stops = stops }

  -- a piece of one node
  pub took_alone : {last : Node} {y : Nodes} {to : ℕ} (t : T)
      → Went about room text at room to (λ k. has k t) → NodePut last x y
      → put_node last (so_far x) ≡ put t (so_far x) → at < to
      → Took about has put room text at x y to
  took_alone t w p same h = took_put t w p same (omega arith) (omega arith) h

-- ---- what was read in round brackets
module _ {T : Type 0} (about : (T → State) → State) {text : List ℕ} {at depth to : ℕ} (opens : Opens text at depth to) where
  -- after the closing bracket
  abbrev closing : (T → State) → Then T
  closing k = record { wanted = close_round; closing = inl (omega arith); onto = k }

  abbrev pub bracketed : (T → State) → State
  bracketed k = sign open_round (about (λ t. sign close_round (k t)))

  open_went : Went bracketed depth text at (depth - 1) to (λ k. about (λ t. sign close_round (k t)))
  open_went = went_open (λ k. about (λ t. sign close_round (k t))) opens

  pub bracket_inner_none : Outside (λ (k : Then T). about (λ t. sign k.wanted (k.onto t))) (depth - 1) text to → Outside bracketed depth text at
  bracket_inner_none out = fails_on closing open_went out

  module _ {put : T → Draft → Draft} {x z : Nodes} {inner : ℕ}
      (t : Took (λ (k : Then T). about (λ t. sign k.wanted (k.onto t))) after put (depth - 1) text to x z inner) where
    inner_went : Went bracketed depth text at (depth - 1) inner (λ k. sign close_round (k t.tree))
    inner_went = went_on closing open_went (went_took t)

    pub bracket_close_none : Stuck (sign close_round) text inner → Outside bracketed depth text at
    bracket_close_none never = fails_leaf (λ k. k t.tree) inner_went never

    pub bracket_took : {end : ℕ} → Comes (plain close_round) text inner end
        → Took bracketed next put depth text at x z end
    bracket_took {end} leaf =
        let w = went_leaf depth (λ k. k t.tree) inner_went leaf (λ k ts. close_back depth (k t.tree) ts opens.roomy) in
        let o = opens.onward in
        let i = t.onward in
        let h = leaf.onward in
        let n = t.taken in
        record {
          tree = t.tree;
          goes = w.goes;
          drafted = t.drafted;
          onward = omega arith;
          within = w.within;
          more = t.more;
          taken = omega arith;
        }
