-- What the reading functions promise one another, in the terms of the grammar's reader; nobody need believe it. `about k` and `has k t`
-- are the reader's states before and after what is read, where k says what comes after it.
use Rattle.std.specs.Prelude.{ℕ, ◌+◌, ◌≤◌, ◌<◌, Option, MatchOption, List, ◌∷◌, ◌⊎◌, ◌≡◌, length, drop}
use Rattle.std.proofs.Math.Option.{none}
use Rattle.stored.specs.Tree.{comparison_of}
use Rattle.grammar.specs.Token.{Token, plain, signalled, named, number, comparison_sign, tokens}
use Rattle.grammar.specs.Tree.{OrP, OrF}
use Rattle.grammar.specs.Reader.{State, failed, sign, about_or_p, about_or_f, step, run, answer}
use Rattle.typed.specs.Draft.{Draft}
use Rattle.propositions.specs.declared.nodes.Nodes.{Nodes}
use Rattle.propositions.specs.declared.leaf.Leaf.{Leaf}
use Rattle.propositions.specs.Nodes.{so_far}

-- the tokens from a place of the text on
abbrev pub ahead : List ℕ → ℕ → List Token
ahead text at = tokens (drop at text)

-- a comparison by its number
abbrev pub comparison_token : ℕ → Token
comparison_token q = plain (comparison_sign (comparison_of q))

-- how large the number of a token can be
abbrev pub Small : Token → Type 0
Small (plain n) = n ≤ 36
Small (signalled k) = k < 16
Small (named u) = u < 3
Small (number n) = n ≤ 65535
Small Token.outside = 0 < 1

-- This token comes, and `after` is the place after it.
pub record Comes (token : Token) (text : List ℕ) (at after : ℕ) : Type 0 where
  pub next : ahead text at ≡ token ∷ ahead text after
  pub small : Small token
  pub onward : at < after
  pub within : after ≤ length text

-- No token comes that can.
pub record Stuck {K : Type 0} (about : K → State) (text : List ℕ) (at : ℕ) : Type 0 where
  pub fails : (room : ℕ) (k : K) → answer (run room (about k) (ahead text at)) ≡ none
  pub stuck : (k : K) (t : Token) (ts : List Token) → ahead text at ≡ t ∷ ts → step (about k) t ≡ failed

-- One token from `at` on: the token of the value, or none that can come there.
abbrev pub Leafs : {K : Type 0} → (ℕ → Token) → (K → State) → List ℕ → ℕ → Option Leaf → Type 0
Leafs token about text at r = MatchOption r (Stuck about text at) (λ leaf. Comes (token leaf.value) text at leaf.at)

-- where a piece may be read: each node so far took a byte of the text
pub record Ready (text : List ℕ) (at : ℕ) (nodes : Nodes) : Type 0 where
  pub inside : at ≤ length text
  pub taken : nodes.count ≤ at

-- From `at` up to another place the text says a tree, whatever comes after it. The tree's nodes came after x, which is y now.
pub record Took {K T : Type 0} (about : K → State) (has : K → T → State) (put : T → Draft → Draft)
    (room : ℕ) (text : List ℕ) (at : ℕ) (x y : Nodes) (to : ℕ) : Type 0 where
  pub tree : T
  pub goes : (k : K) → answer (run room (about k) (ahead text at)) ≡ answer (run room (has k tree) (ahead text to))
  pub drafted : so_far y ≡ put tree (so_far x)
  pub onward : at < to
  pub within : to ≤ length text
  -- it has a node or more, and each took a byte of the text
  pub more : x.count < y.count
  pub taken : y.count + at ≤ x.count + to

-- whatever comes after, the text is outside the grammar
pub record Outside {K : Type 0} (about : K → State) (room : ℕ) (text : List ℕ) (at : ℕ) : Type 0 where
  pub fails : (k : K) → answer (run room (about k) (ahead text at)) ≡ none

-- a tree was read, or none is there
abbrev pub Reads : {K T : Type 0} → (K → State) → (K → T → State) → (T → Draft → Draft) → ℕ → List ℕ → ℕ → Nodes → Nodes → Option ℕ → Type 0
Reads about has put room text at x y r = MatchOption r (Outside about room text at) (Took about has put room text at x y)

-- after a piece comes what k says of it
abbrev pub next : {T : Type 0} → (T → State) → T → State
next k t = k t

-- What must come after a whole proposition or formula: a sign that is neither a joiner nor a star, and then what `onto` says.
pub record Then (T : Type 0) : Type 0 where
  pub wanted : ℕ
  pub closing : (wanted < 30) ⊎ (34 < wanted)
  pub onto : T → State

abbrev pub after : {T : Type 0} → Then T → T → State
after k t = sign k.wanted (k.onto t)

abbrev pub before_p : Then OrP → State
before_p k = about_or_p (λ p. sign k.wanted (k.onto p))

abbrev pub before_f : Then OrF → State
before_f k = about_or_f (λ f. sign k.wanted (k.onto f))

-- Took, and what is read ends here: none of the signs that `Taken` names can be read after it.
pub record Ended {K T : Type 0} (about : K → State) (has : K → T → State) (put : T → Draft → Draft)
    (Taken : ℕ → Type 0) (room : ℕ) (text : List ℕ) (at : ℕ) (x y : Nodes) (to : ℕ) : Type 0 where
  pub took : Took about has put room text at x y to
  pub stops : (k : K) (n : ℕ) (ts : List Token) → Taken n → ahead text to ≡ plain n ∷ ts
      → answer (run room (has k took.tree) (plain n ∷ ts)) ≡ none

-- Reads, and what is read ends there.
abbrev pub Closes : {K T : Type 0} → (K → State) → (K → T → State) → (T → Draft → Draft) → (ℕ → Type 0) → ℕ → List ℕ → ℕ → Nodes → Nodes
    → Option ℕ → Type 0
Closes about has put Taken room text at x y r = MatchOption r (Outside about room text at) (Ended about has put Taken room text at x y)
