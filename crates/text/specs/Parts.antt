-- What the readers of parts, clauses and lines promise one another, in the terms of the grammar's reader; nobody need believe it.
use Rattle.std.specs.Prelude.{ℕ, zero, suc, ◌+◌, ◌-◌, ◌≤◌, ◌<◌, Bool, true, false, cond, ◌||◌, List, [], ◌∷◌, ◌++◌, map, ◌≡◌, eqb, ltb, length, get_or, Option, MatchOption}
use Rattle.std.proofs.Math.Option.{none, some}
use Rattle.stored.specs.declared.StoredClause.{StoredClause}
use Rattle.stored.specs.Layout.{least_output, most_nodes, most_clauses}
use Rattle.stored.specs.Sheet.{sheet_refusal}
use Rattle.grammar.specs.Token.{Token, close_round, comma_sign, tokens}
use Rattle.grammar.specs.Tree.{TypedPart, TypedClause, Line, TypedSheet}
use Rattle.grammar.specs.Reader.{State, sign, more_names, at_line, about_part, run, answer, parse}
use Rattle.typed.specs.Draft.{Draft, draft, Sketch, put_part, put_parts, roots_of, mask_of, part_mask, ClauseFits, put_clause, put_lines, sheet_bytes}
use Rattle.propositions.specs.declared.leaf.Leaf.{Leaf}
use Rattle.text.specs.declared.part.GotPart.{GotPart}
use Rattle.text.specs.declared.clause.GotParts.{GotParts}
use Rattle.text.specs.declared.clause.Clauses.{Clauses}
use Rattle.text.specs.declared.sheet.GotSheet.{GotSheet}
use Rattle.propositions.specs.declared.nodes.Nodes.{Nodes}
use Rattle.propositions.specs.Nodes.{so_far}
use Rattle.propositions.specs.Reads.{ahead, Outside}

-- no token is left
unfoldable pub finished : List Token → Bool
finished [] = true
finished (t ∷ ts) = false

-- about to read a line, whatever s, m and the lines before it
pub record Before : Type 0 where
  pub signals : ℕ
  pub names : ℕ
  pub lines : List Line

abbrev pub a_line_after : Before → State
a_line_after b = at_line b.signals b.names b.lines

-- ---- parts: what follows a part is a sign, which no name is
abbrev pub some_names : ℕ → (List ℕ → State) → List ℕ → State
some_names n s us = more_names us (λ us. sign n (s us))

abbrev pub a_part : ℕ → (TypedPart → State) → State
a_part n s = about_part (λ d. sign n (s d))

pub record NamesTook (text : List ℕ) (at : ℕ) (r : Leaf) : Type 0 where
  pub names : List ℕ
  pub goes : (room n : ℕ) (s : List ℕ → State)
      → answer (run room (some_names n s []) (ahead text at)) ≡ answer (run room (sign n (s names)) (ahead text r.at))
  pub mask : r.value ≡ mask_of names
  pub onward : at ≤ r.at
  pub within : at ≤ length text → r.at ≤ length text

-- one of the names that come next stands twice
pub record NamesTwice (text : List ℕ) (at : ℕ) : Type 0 where
  pub fails : (room n : ℕ) (s : List ℕ → State) → answer (run room (some_names n s []) (ahead text at)) ≡ none

-- names up to the first other token, unless one stands twice
abbrev pub NamesRead : List ℕ → ℕ → Option Leaf → Type 0
NamesRead text at r = MatchOption r (NamesTwice text at) (NamesTook text at)

-- The last of so many nodes, where there are at most 64; at any rate a number that fits.
pub record LastNode (count r : ℕ) : Type 0 where
  pub root : count ≤ most_nodes → r ≡ count - 1
  pub fits : r < most_nodes

pub record PartTook (room : ℕ) (text : List ℕ) (at : ℕ) (x y : Nodes) (r : GotPart) : Type 0 where
  pub tree : TypedPart
  pub goes : (n : ℕ) (s : TypedPart → State)
      → answer (run room (a_part n s) (ahead text at)) ≡ answer (run room (sign n (s tree)) (ahead text r.at))
  pub drafted : so_far y ≡ put_part tree (so_far x)
  pub last_node : LastNode y.count r.root
  pub mask : r.mask ≡ part_mask tree
  pub onward : at < r.at
  pub within : r.at ≤ length text
  pub more : x.count < y.count
  pub taken : y.count + at ≤ x.count + r.at

-- a part and the sign after it
abbrev pub some_part : ℕ × (TypedPart → State) → State
some_part w = a_part w.0 w.1

abbrev pub PartRead : ℕ → List ℕ → ℕ → Nodes → Nodes → Option GotPart → Type 0
PartRead room text at x y r = MatchOption r (Outside some_part room text at) (PartTook room text at x y)

-- so many parts and one more, with commas between them and a closing bracket after them
unfoldable pub the_parts : ℕ → (List TypedPart → State) → State
the_parts zero s = a_part close_round (λ d. s (d ∷ []))
the_parts (suc n) s = a_part comma_sign (λ d. the_parts n (λ ds. s (d ∷ ds)))

-- a clause's fields from its parts' roots and masks
unfoldable pub fields_from : ℕ → ℕ → List ℕ → List ℕ → StoredClause
fields_from type role roots masks =
    record {
      clause_type = type;
      role = role;
      root1 = get_or roots 0 0;
      root2 = get_or roots 1 0;
      root3 = get_or roots 2 0;
      mask1 = get_or masks 0 0;
      mask2 = get_or masks 1 0;
      mask3 = get_or masks 2 0;
    }

-- The fields are those of the parts where there are at most 64 nodes; where there are more, they fit their bytes and say nothing.
pub record PartsTook (n room type role : ℕ) (text : List ℕ) (at : ℕ) (x y : Nodes) (r : GotParts) : Type 0 where
  pub trees : List TypedPart
  pub as_many : length trees ≡ suc n
  pub goes : (s : List TypedPart → State)
      → answer (run room (the_parts n s) (ahead text at)) ≡ answer (run room (sign close_round (s trees)) (ahead text r.at))
  pub drafted : so_far y ≡ put_parts trees (so_far x)
  pub fields : y.count ≤ most_nodes → r.fields ≡ fields_from type role (roots_of trees (so_far x)) (map part_mask trees)
  pub fits : ClauseFits r.fields
  pub onward : at < r.at
  pub within : r.at ≤ length text
  pub more : x.count < y.count
  pub taken : y.count + at ≤ x.count + r.at

abbrev pub PartsRead : ℕ → ℕ → ℕ → ℕ → List ℕ → ℕ → Nodes → Nodes → Option GotParts → Type 0
PartsRead n room type role text at x y r = MatchOption r (Outside (the_parts n) room text at) (PartsTook n room type role text at x y)

-- the fields of a clause of this part before the others
abbrev pub with_first : GotPart → GotParts → GotParts
with_first first rest =
    record {
      at = rest.at;
      fields =
          record {
            clause_type = rest.fields.clause_type;
            role = rest.fields.role;
            root1 = first.root;
            root2 = rest.fields.root1;
            root3 = rest.fields.root2;
            mask1 = first.mask;
            mask2 = rest.fields.mask1;
            mask3 = rest.fields.mask2;
          };
    }

-- ---- clauses and lines
-- what is drafted of the clauses
abbrev pub clauses_so_far : Clauses → Draft
clauses_so_far clauses = draft clauses.bytes clauses.count

-- where a clause may be put: a count with room for one more, and fields that fit
pub record ClausePuttable (x : StoredClause) (clauses : Clauses) : Type 0 where
  pub counted : clauses.count < 18446744073709551615
  pub fits : clauses.count < most_clauses → ClauseFits x

pub record ClausePut (x : StoredClause) (before after : Clauses) : Type 0 where
  pub drafted : clauses_so_far after ≡ put_clause x (clauses_so_far before)

-- They hold the sketch z, the clauses only where there are at most 64 nodes.
pub record Drawn (z : Sketch) (nodes : Nodes) (clauses : Clauses) : Type 0 where
  pub nodes_drawn : so_far nodes ≡ z.nodes
  pub clauses_drawn : nodes.count ≤ most_nodes → clauses_so_far clauses ≡ z.clauses
  pub counted : clauses.count ≡ z.clauses.count

-- where a clause or line may be read: each node and clause so far took a byte of the text
pub record LineReady (text : List ℕ) (at : ℕ) (nodes : Nodes) (clauses : Clauses) : Type 0 where
  pub inside : at ≤ length text
  pub nodes_taken : nodes.count ≤ at
  pub clauses_taken : clauses.count ≤ at

-- From `at` up to another place the text says a tree. Its nodes and clause came after x and u, which are y and v now.
pub record LineTook {K T : Type 0} (about : K → State) (has : K → T → State)
    (put : T → Sketch → Sketch) (text : List ℕ) (at : ℕ) (x : Nodes) (u : Clauses) (y : Nodes) (v : Clauses) (to : ℕ) : Type 0 where
  pub tree : T
  pub goes : (k : K) → answer (run 32 (about k) (ahead text at)) ≡ answer (run 32 (has k tree) (ahead text to))
  pub drawn : (z : Sketch) → Drawn z x u → Drawn (put tree z) y v
  pub onward : at < to
  pub within : to ≤ length text
  pub more : x.count < y.count
  pub taken : y.count + at ≤ x.count + to
  pub one : v.count ≡ suc u.count

abbrev pub LineRead : {K T : Type 0} → (K → State) → (K → T → State) → (T → Sketch → Sketch) → List ℕ → ℕ → Nodes → Clauses → Nodes → Clauses
    → Option ℕ → Type 0
LineRead about has put text at x u y v r = MatchOption r (Outside about 32 text at) (LineTook about has put text at x u y v)

abbrev pub has_clause : (TypedClause → State) → TypedClause → State
has_clause k c = k c

abbrev pub has_line : Before → Line → State
has_line b l = at_line b.signals b.names (b.lines ++ l ∷ [])

-- about to read all lines, after the two numbers
abbrev pub all_lines : ℕ × ℕ → State
all_lines w = at_line w.0 w.1 []

pub record LinesTook (text : List ℕ) (at : ℕ) (x : Nodes) (u : Clauses) (y : Nodes) (v : Clauses) : Type 0 where
  pub lines : List Line
  pub goes : (s m : ℕ) → answer (run 32 (at_line s m []) (ahead text at)) ≡ some (record { signals = s; names = m; lines = lines })
  pub drawn : (z : Sketch) → Drawn z x u → Drawn (put_lines lines z) y v

-- all lines after the first, to the end of the text
abbrev pub LinesRead : List ℕ → ℕ → Nodes → Clauses → Nodes → Clauses → Option Unit → Type 0
LinesRead text at x u y v r = MatchOption r (Outside all_lines 32 text at) (λ _. LinesTook text at x u y v)

pub record SheetTook (text : List ℕ) (x : Nodes) (u : Clauses) (y : Nodes) (v : Clauses) (r : GotSheet) : Type 0 where
  pub tree : TypedSheet
  pub said : parse 32 (tokens text) ≡ some tree
  pub drawn : (z : Sketch) → Drawn z x u → Drawn (put_lines tree.lines z) y v
  pub signals_said : r.signals ≡ tree.signals
  pub names_said : r.names ≡ tree.names

-- the whole text
abbrev pub SheetRead : List ℕ → Nodes → Clauses → Nodes → Clauses → Option GotSheet → Type 0
SheetRead text x u y v r = MatchOption r (parse 32 (tokens text) ≡ none) (SheetTook text x u y v)

-- ---- the sheet put together from the areas: 20, the lowest of 1 to 9, 14 where so many bytes are lent, or 0
unfoldable pub draft_refusal : ℕ → ℕ → Draft → Draft → ℕ → ℕ
draft_refusal s m nodes clauses lent =
    cond (ltb most_nodes nodes.count || ltb most_clauses clauses.count) 20
    (cond (eqb (sheet_refusal (sheet_bytes s m nodes clauses)) 0) (cond (ltb lent least_output) 14 0) (sheet_refusal (sheet_bytes s m nodes clauses)))
