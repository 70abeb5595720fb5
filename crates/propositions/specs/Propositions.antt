-- What the functions that read propositions promise one another; nobody need believe it. In the states about an operand, w says what
-- stands around it and what comes after the whole.
use Rattle.std.specs.Prelude.{List, ◌∷◌, cond, ◌⊎◌, ◌≡◌, ℕ, zero, suc, ◌+◌, ◌≤◌, ◌<◌, eqb, length, Option, Some, None}
use Rattle.stored.specs.declared.Node.{Node}
use Rattle.grammar.specs.Token.{plain, true_word, false_word, open_round, close_round, not_sign, or_sign, and_sign, Token}
use Rattle.grammar.specs.Tree.{OrP, AndP, UnitP}
use Rattle.grammar.specs.Reader.{OrHoleP, HoleP, State, sign, about_or_p, about_and_p, has_and_p, about_unit_p, has_unit_p, after_nots, run}
use Rattle.lexer.specs.declared.Token.{Token as Lexeme}
use Rattle.lexer.specs.declared.Token.TheVariants.{Plain, Signal, Name, Number, Outside, End}
use Rattle.typed.specs.Draft.{Draft, node, put_over}
use Rattle.propositions.specs.declared.leaf.Leaf.{Leaf}
use Rattle.propositions.specs.declared.nodes.Nodes.{Nodes}
use Rattle.propositions.specs.Nodes.{so_far}
use Rattle.propositions.specs.Reads.{ahead}

abbrev pub about_both : OrHoleP × (OrP → State) → State
about_both w = about_and_p w.0 w.1

abbrev pub has_both : OrHoleP × (OrP → State) → AndP → State
has_both w q = has_and_p w.0 w.1 q

abbrev pub about_unit : HoleP × (OrP → State) → State
about_unit w = about_unit_p w.0 w.1

abbrev pub has_unit : HoleP × (OrP → State) → UnitP → State
has_unit w u = has_unit_p w.0 w.1 u

-- a proposition in round brackets
abbrev pub about_bracket_p : (OrP → State) → State
about_bracket_p k = sign open_round (about_or_p (λ p. sign close_round (k p)))

-- no ! comes next
abbrev pub NoNot : List ℕ → ℕ → Type 0
NoNot text at = (rest : List Token) → ahead text at ≡ plain not_sign ∷ rest → ⊥

-- n times ! over what is drafted
unfoldable pub put_nots : ℕ → Draft → Draft
put_nots zero d = d
put_nots (suc n) d = put_nots n (put_over 5 0 0 d)

-- all ! from `at` on: how many, and the place after them
pub record Nots (text : List ℕ) (at : ℕ) (r : Leaf) : Type 0 where
  pub goes : (room : ℕ) (h : HoleP) (k : OrP → State)
      → run room (about_unit_p h k) (ahead text at) ≡ run room (about_unit_p (after_nots r.value h) k) (ahead text r.at)
  pub taken : at + r.value ≤ r.at
  pub inside : at ≤ length text → r.at ≤ length text
  pub bare : NoNot text r.at

-- where so many ! may be put
pub record Negatable (signs : ℕ) (nodes : Nodes) : Type 0 where
  pub counted : nodes.count + signs < 18446744073709551615

pub record Negated (signs : ℕ) (before after : Nodes) : Type 0 where
  pub drafted : so_far after ≡ put_nots signs (so_far before)

-- the signs that a chain of & takes, and one of |
abbrev pub ByAnd : ℕ → Type 0
ByAnd n = n ≡ and_sign

abbrev pub ByOr : ℕ → Type 0
ByOr n = (n ≡ or_sign) ⊎ (n ≡ and_sign)

-- the node of a piece of one token, where it is one
abbrev pub single : Lexeme → Option Node
single (Plain n) = cond (eqb n true_word) (Some (node 2 0 0 0)) (cond (eqb n false_word) (Some (node 1 0 0 0)) None)
single (Signal k) = Some (node 3 0 k 0)
single (Name u) = Some (node 4 0 u 0)
single (Number n) = None
single Outside = None
single End = None
