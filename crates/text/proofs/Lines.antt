-- Laws of reading lines: the word of a role, a line, lines to the end of the text, and the whole text.
use Rattle.std.proofs.Common.{ℕ, zero, suc, ◌≤◌, Bool, true, false, true≢false, List, [], ◌∷◌, ◌++◌, inl, inr, ◌≡◌, refl, sym, ap, ◌∙◌, arith, length}
use mathlib.Core.Option.{none}
use Rattle.semantics.proofs.Tests.{test}
use Rattle.grammar.specs.Token.{Token, plain, signalled, named, number, outside, line_end, tokens}
use Rattle.grammar.specs.Tree.{TypedClause, Line, assume_l, require_l}
use Rattle.grammar.specs.Reader.{State, failed, sign, a_number, a_clause, at_line, step, run, start, answer, parse}
use Rattle.grammar.proofs.Said.{computing}
use Rattle.lexer.specs.declared.Lexed.{Lexed}
use Rattle.lexer.specs.declared.Token.{Token as Told}
use Rattle.lexer.specs.declared.Token.TheVariants.{Plain, Signal, Name, Number, Outside as NoToken, End}
use Rattle.lexer.specs.Lexed.{is_end, leads, Next}
use Rattle.typed.specs.Draft.{Sketch, put_typed, put_line, put_lines}
use Rattle.propositions.specs.declared.leaf.Leaf.{Leaf}
use Rattle.propositions.specs.Lexemes.{is_word, awaited, word_from, WordComes}
use Rattle.propositions.specs.Reads.{ahead, Comes, Stuck, Outside}
use Rattle.propositions.proofs.Leaves.{apart, word_stuck}
use Rattle.propositions.proofs.Steps.{sign_run, number_run}
use Rattle.propositions.proofs.Went.{Went, went_none, went_leaf, went_on, fails_leaf, fails_on}
use Rattle.propositions.specs.declared.nodes.Nodes.{Nodes}
use Rattle.text.specs.declared.clause.Clauses.{Clauses}
use Rattle.text.specs.Parts.{finished, Before, a_line_after, has_line, has_clause, Drawn, LineReady, LineTook, all_lines, LinesTook, SheetTook}

-- ---- the end of the text
pub end_next : {text : List ℕ} {at : ℕ} {r : Lexed} → Next text at r → is_end r.token ≡ finished (ahead text at)
unfolding finished leads
end_next {r = r} next = elim (test (is_end r.token)) [
  | inl e ↦ e ∙ sym (ap finished next.read ∙ rw e)
  | inr e ↦ e ∙ sym (ap finished next.read ∙ rw e)
]

pub not_end : (t : Told) → (t ≡ End → ⊥) → false ≡ is_end t
unfolding is_end
not_end (Plain n) other = refl
not_end (Signal i) other = refl
not_end (Name u) other = refl
not_end (Number n) other = refl
not_end NoToken other = refl
not_end End other = absurd (other refl)

none_left : (ts : List Token) → finished ts ≡ true → ts ≡ []
unfolding finished
none_left [] e = refl
none_left (t ∷ ts) e = absurd (true≢false (sym e))

-- ---- the word of a role
role_line : ℕ → TypedClause → Line
role_line zero c = assume_l c
role_line (suc role) c = require_l c

-- a clause and the end of its line
rest : ℕ → Before → TypedClause → State
rest role b c = sign line_end (has_line b (role_line role c))

role_read : (role : ℕ) (b : Before) (ts : List Token) → role ≤ 1
    → run 32 (a_line_after b) (word_from 1 role ∷ ts) ≡ run 32 (a_clause (rest role b)) ts
unfolding computing rest role_line
role_read zero b ts h = refl
role_read (suc zero) b ts h = refl
role_read (suc (suc role)) b ts h = absurd (omega arith)

no_role : (b : Before) (t : Token) → is_word 1 2 t ≡ false → step (a_line_after b) t ≡ failed
unfolding computing is_word
no_role b (plain n) e = rw (apart 1 2 n 1 e (omega arith) (omega arith), apart 1 2 n 2 e (omega arith) (omega arith))
no_role b (signalled i) e = refl
no_role b (named u) e = refl
no_role b (number n) e = refl
no_role b outside e = refl

pub role_none : {text : List ℕ} {at : ℕ} → finished (ahead text at) ≡ false
    → Stuck (awaited {low = 1} {high = 2} {ts = ahead text at}) text at → Outside a_line_after 32 text at
unfolding finished
role_none {text} {at} left never =
    let none-there = word_stuck {text = text} {at = at} a_line_after (λ end b. absurd (true≢false (ap finished (sym end) ∙ left))) no_role never in
    record { fails = λ b. none-there.fails 32 b }

-- ---- a line
put_line_lem : (role : ℕ) (c : TypedClause) (z : Sketch) → role ≤ 1 → put_typed role c z ≡ put_line (role_line role c) z
unfolding put_line role_line
put_line_lem zero c z h = refl
put_line_lem (suc zero) c z h = refl
put_line_lem (suc (suc role)) c z h = absurd (omega arith)

-- a role, a clause and the end of the line
module _ {text : List ℕ} {at : ℕ} (start : at ≤ length text) {word : Leaf} (known : WordComes 1 2 text at word) where
  to_clause : Went a_line_after 32 text at 32 word.at (λ b. a_clause (rest word.value b))
  to_clause =
      went_leaf 32 (λ b. a_clause (rest word.value b)) (went_none a_line_after 32 text at start) known.comes
      (λ b ts. role_read word.value b ts known.range)

  pub no_clause : Outside a_clause 32 text word.at → Outside a_line_after 32 text at
  no_clause out = fails_on (rest word.value) to_clause out

  module _ {x : Nodes} {u : Clauses} {y : Nodes} {v : Clauses} {said : ℕ}
      (c : LineTook a_clause has_clause (put_typed word.value) text word.at x u y v said) where
    to_end : Went a_line_after 32 text at 32 said (λ b. sign line_end (has_line b (role_line word.value c.tree)))
    unfolding rest
    to_end =
        went_on (rest word.value) to_clause
        (record { goes = c.goes; onward = (let h = c.onward in omega arith); within = c.within })

    pub no_end : Stuck (sign line_end) text said → Outside a_line_after 32 text at
    no_end never = fails_leaf (λ b. has_line b (role_line word.value c.tree)) to_end never

    pub line_took : {end : ℕ} → Comes (plain line_end) text said end
        → LineTook a_line_after has_line put_line text at x u y v end
    line_took ended =
        let l = role_line word.value c.tree in
        let w =
        went_leaf 32 (λ b. has_line b l) to_end ended (λ b ts. sign_run line_end 32 (has_line b l) ts (λ e. omega arith) (λ e. omega arith)) in
        let h₁ = known.comes.onward in
        let h₂ = c.onward in
        let h₃ = ended.onward in
        let h₄ = c.taken in
        record {
          tree = l;
          goes = w.goes;
          drawn = λ z drawn. rw (put_line_lem word.value c.tree z known.range) at (c.drawn z drawn);
          onward = omega arith;
          within = ended.within;
          more = c.more;
          taken = omega arith;
          one = c.one;
        }

-- ---- lines one after another
-- those read from `at` up to `here`, into areas that were x and u and are y and v
pub record LinesSoFar (text : List ℕ) (at : ℕ) (x : Nodes) (u : Clauses) (here : ℕ) (y : Nodes) (v : Clauses) : Type 0 where
  pub lines : List Line
  pub goes : (s m : ℕ) → answer (run 32 (at_line s m []) (ahead text at)) ≡ answer (run 32 (at_line s m lines) (ahead text here))
  pub drawn : (z : Sketch) → Drawn z x u → Drawn (put_lines lines z) y v
  pub ready : LineReady text here y v

pub no_lines : {text : List ℕ} {at : ℕ} {x : Nodes} {u : Clauses} → LineReady text at x u → LinesSoFar text at x u at x u
unfolding put_lines
no_lines ready = record { lines = []; goes = λ s m. refl; drawn = λ z drawn. drawn; ready = ready }

put_more : (ls : List Line) (l : Line) (z : Sketch) → put_lines (ls ++ l ∷ []) z ≡ put_line l (put_lines ls z)
unfolding put_lines
put_more [] l z = refl
put_more (k ∷ ls) l z = put_more ls l (put_line k z)

module _ {text : List ℕ} {at : ℕ} {x : Nodes} {u : Clauses} {here : ℕ} {y : Nodes} {v : Clauses} (far : LinesSoFar text at x u here y v) where
  -- the lines so far, as what comes before the next
  before : ℕ × ℕ → Before
  before w = record { signals = w.0; names = w.1; lines = far.lines }

  pub line_more : {y' : Nodes} {v' : Clauses} {said : ℕ} → LineTook a_line_after has_line put_line text here y v y' v' said
      → LinesSoFar text at x u said y' v'
  unfolding before
  line_more l =
      let was = far.ready in
      let h₁ = l.onward in
      let h₂ = l.taken in
      let h₃ = l.one in
      let h₄ = was.nodes_taken in
      let h₅ = was.clauses_taken in
      record {
        lines = far.lines ++ l.tree ∷ [];
        goes = λ s m. far.goes s m ∙ l.goes (before (s, m));
        drawn = λ z drawn. rw (put_more far.lines l.tree z) (l.drawn (put_lines far.lines z) (far.drawn z drawn));
        ready =
            record {
              inside = l.within;
              nodes_taken = omega arith;
              clauses_taken = omega arith;
            };
      }

  pub lines_took : {b : Bool} → b ≡ finished (ahead text here) → b ≡ true → LinesTook text at x u y v
  unfolding computing
  lines_took e last =
      record {
        lines = far.lines;
        goes = λ s m.
            far.goes s m ∙ ap (λ (ts : List Token). answer (run 32 (at_line s m far.lines) ts)) (none_left (ahead text here) (sym e ∙ last));
        drawn = far.drawn;
      }

  pub lines_none : Outside a_line_after 32 text here → Outside all_lines 32 text at
  unfolding before
  lines_none out = record { fails = λ w. far.goes w.0 w.1 ∙ out.fails (before w) }

-- ---- the whole text
-- what is still to come of it, whatever the unit says
abbrev number_second : Unit {0} → ℕ → State
number_second k s = a_number (λ m. sign line_end (at_line s m []))

abbrev parsing : Unit {0} → State
parsing k = start

module _ {text : List ℕ} where
  whole : Went parsing 32 text 0 32 0 (λ k. a_number (number_second k))
  unfolding start
  whole = went_none parsing 32 text 0 (omega arith)

  parse_none : Outside parsing 32 text 0 → parse 32 (tokens text) ≡ none
  unfolding parse
  parse_none out = out.fails tt

  pub no_signals : Stuck a_number text 0 → parse 32 (tokens text) ≡ none
  no_signals never = parse_none (fails_leaf number_second whole never)

  module _ {s : Leaf} (s_read : Comes (number s.value) text 0 s.at) where
    to_second : Went parsing 32 text 0 32 s.at (λ k. number_second k s.value)
    to_second = went_leaf 32 (λ k. number_second k s.value) whole s_read (λ k ts. number_run 32 s.value (number_second k) ts)

    pub no_names : Stuck a_number text s.at → parse 32 (tokens text) ≡ none
    no_names never = parse_none (fails_leaf (λ k m. sign line_end (at_line s.value m [])) to_second never)

    module _ {m : Leaf} (m_read : Comes (number m.value) text s.at m.at) where
      to_line_end : Went parsing 32 text 0 32 m.at (λ k. sign line_end (at_line s.value m.value []))
      to_line_end =
          went_leaf 32 (λ k. sign line_end (at_line s.value m.value [])) to_second m_read
          (λ k ts. number_run 32 m.value (λ m. sign line_end (at_line s.value m [])) ts)

      pub no_line_end : Stuck (sign line_end) text m.at → parse 32 (tokens text) ≡ none
      no_line_end never = parse_none (fails_leaf (λ k. at_line s.value m.value []) to_line_end never)

      module _ {end : ℕ} (ended : Comes (plain line_end) text m.at end) where
        to_lines : Went parsing 32 text 0 32 end (λ k. at_line s.value m.value [])
        to_lines =
            went_leaf 32 (λ k. at_line s.value m.value []) to_line_end ended
            (λ k ts. sign_run line_end 32 (at_line s.value m.value []) ts (λ e. omega arith) (λ e. omega arith))

        pub no_lines_there : Outside all_lines 32 text end → parse 32 (tokens text) ≡ none
        no_lines_there out = parse_none (fails_on (λ k. (s.value, m.value)) to_lines out)

        pub sheet_took : {x : Nodes} {u : Clauses} {y : Nodes} {v : Clauses} → LinesTook text end x u y v
            → SheetTook text x u y v (record { signals = s.value; names = m.value })
        unfolding parse
        sheet_took ls =
            record {
              tree = record { signals = s.value; names = m.value; lines = ls.lines };
              said = to_lines.goes tt ∙ ls.goes s.value m.value;
              drawn = ls.drawn;
              signals_said = refl;
              names_said = refl;
            }
