-- What the functions that read one token promise.
use Rattle.std.specs.Prelude.{ℕ, ◌+◌, ◌-◌, ◌≤◌, ◌<◌, Bool, false, ◌&&◌, Option, MatchOption, List, [], ◌≡◌, leb, length}
use Rattle.std.proofs.Math.Option.{none}
use Rattle.grammar.specs.Token.{Token, plain, signalled, named, number, outside, open_round}
use Rattle.grammar.specs.Reader.{State, failed, sign, step, run, answer}
use Rattle.propositions.specs.Reads.{ahead, Comes, Stuck, Outside}
use Rattle.propositions.specs.declared.leaf.Leaf.{Leaf}

-- the word or sign with this number, up to the place after it
abbrev pub SignRead : ℕ → List ℕ → ℕ → Option ℕ → Type 0
SignRead n text at r = MatchOption r (Stuck (sign n) text at) (Comes (plain n) text at)

-- the words and signs with these numbers
unfoldable pub is_word : ℕ → ℕ → Token → Bool
is_word low high (plain n) = leb low n && leb n high
is_word low high (signalled k) = false
is_word low high (named u) = false
is_word low high (number n) = false
is_word low high outside = false

-- a state in which no other token can come, with these tokens ahead of it
pub record Awaits (low high : ℕ) (ts : List Token) : Type 0 where
  pub state : State
  pub unended : ts ≡ [] → answer state ≡ none
  pub others : (t : Token) → is_word low high t ≡ false → step state t ≡ failed

abbrev pub awaited : {low high : ℕ} {ts : List Token} → Awaits low high ts → State
awaited k = k.state

-- one of these words, by how far it is from the first
abbrev pub word_from : ℕ → ℕ → Token
word_from low value = plain (low + value)

pub record WordComes (low high : ℕ) (text : List ℕ) (at : ℕ) (leaf : Leaf) : Type 0 where
  pub comes : Comes (word_from low leaf.value) text at leaf.at
  pub range : leaf.value ≤ high - low

abbrev pub WordRead : ℕ → ℕ → List ℕ → ℕ → Option Leaf → Type 0
WordRead low high text at r = MatchOption r (Stuck (awaited {low = low} {high = high} {ts = ahead text at}) text at) (WordComes low high text at)

-- A round bracket opened, up to the place after it.
pub record Opens (text : List ℕ) (at depth after : ℕ) : Type 0 where
  pub roomy : 0 < depth
  pub goes : (s : State) → answer (run depth (sign open_round s) (ahead text at)) ≡ answer (run (depth - 1) s (ahead text after))
  pub onward : at < after
  pub within : after ≤ length text

-- one is opened where there is room for it
abbrev pub Opened : List ℕ → ℕ → ℕ → Option ℕ → Type 0
Opened text at depth r = MatchOption r (Outside (sign open_round) depth text at) (Opens text at depth)
