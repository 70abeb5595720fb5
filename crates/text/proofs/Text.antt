-- Laws of reading a whole text: the order of refusals, that one case applies to each text, and that what is written means what the text means.
use Rattle.std.proofs.Common.{ℕ, ◌-◌, ◌≤◌, ◌<◌, Bool, true, false, true≢false, cond, ◌||◌, List, ◌⊎◌, inl, inr, ◌≡◌, refl, sym, ap, ap₂, ◌∙◌, arith, eqb-true, eq-eqb, ltb-false, lt-ltb, le-ltb, eqb, ltb, length, take, drop, replicate, length-append, length-drop, drop_at, Result, Ok, Err}
use mathlib.Core.Option.{Option, none, some}
use borrow.Author.Tests.{eqb-false}
use Rattle.semantics.specs.Proposition.{Trace}
use Rattle.semantics.specs.Clause.{Part}
use Rattle.semantics.specs.Verdict.{requirement, verdict}
use Rattle.semantics.proofs.Tests.{test}
use Rattle.stored.specs.declared.Header.{Header}
use Rattle.stored.specs.declared.refusal.Refusal.{Refusal}
use Rattle.stored.specs.declared.refusal.Refusal.TheVariants.{ShortOutput, TooDeep, OutsideGrammar, TooLarge}
use Rattle.stored.specs.Refusal.{number_of, last_number, refusals, refusal_numbered, answered}
use Rattle.stored.proofs.Refusals.{refusal_applies, number_some, numbered_number, answered_value, answered_refusal, of_value, of_refusal}
use Rattle.stored.specs.Layout.{clauses_end, least_output, most_nodes, most_clauses}
use Rattle.stored.specs.Sheet.{nodes_of, clauses_of, requirement_of, sheet_refusal, sheet_answer}
use Rattle.stored.specs.Clause.{part_of}
use Rattle.stored.proofs.Accepted.{opened, sheet_small, answer_accepted, answer_refused}
use Rattle.grammar.specs.Token.{tokens}
use Rattle.grammar.specs.Tree.{TypedSheet}
use Rattle.grammar.specs.Spelled.{ends_line, Says}
use Rattle.grammar.specs.Brackets.{too_deep}
use Rattle.grammar.specs.Reader.{parse}
use Rattle.grammar.proofs.Tests.{or_false_left, or_false_right}
use Rattle.grammar.proofs.Read.{read_says, unique, outside_unread}
use Rattle.grammar.proofs.Bounds.{small}
use Rattle.typed.specs.Meaning.{clauses_meant}
use Rattle.typed.specs.Draft.{Draft, draft, empty, sketch_of, too_many, sheet_bytes, front_of, Assembled, typed_bytes}
use Rattle.typed.proofs.Writing.{front_taken}
use Rattle.typed.proofs.Sheet.{typed_clauses, typed_requirement, typed_verdict}
use Rattle.text.specs.declared.sheet.GotSheet.{GotSheet}
use Rattle.propositions.specs.declared.nodes.Nodes.{Nodes}
use Rattle.propositions.specs.Nodes.{so_far}
use Rattle.text.specs.declared.clause.Clauses.{Clauses}
use Rattle.text.specs.Parts.{clauses_so_far, Drawn, SheetTook, draft_refusal}
use Rattle.text.specs.Text.{said_refusal, RefusedBy, WrittenAs, ReadText}

-- the sheet that was put together at the front of y
pub draft_read : (s m : ℕ) (nodes clauses : Draft) (x y : List ℕ) (size : ℕ) → Assembled s m nodes clauses x y size
    → sheet_answer (take (size - 0) y) ≡ sheet_answer (sheet_bytes s m nodes clauses)
draft_read s m nodes clauses x y size put =
    let all : size - 0 ≡ size = omega arith in
    ap sheet_answer (ap₂ (take {A = ℕ}) all put.bytes ∙ front_taken (sheet_bytes s m nodes clauses) x size put.size)

-- ---- the order of the refusals of what was read
module _ (s m : ℕ) (nodes clauses : Draft) (lent : ℕ) where
  abbrev Judged : Result (Unit {0}) Refusal → Type 0
  Judged r = r ≡ answered (draft_refusal s m nodes clauses lent) tt

  pub many_nodes : most_nodes < nodes.count → Judged (Err TooLarge)
  unfolding draft_refusal number_of
  many_nodes h = answered_refusal (draft_refusal s m nodes clauses lent) tt TooLarge (rw (lt-ltb most_nodes nodes.count h))

  pub many_clauses : nodes.count ≤ most_nodes → most_clauses < clauses.count → Judged (Err TooLarge)
  unfolding draft_refusal number_of
  many_clauses h₁ h₂ =
      answered_refusal (draft_refusal s m nodes clauses lent) tt TooLarge (rw (le-ltb most_nodes nodes.count h₁, lt-ltb most_clauses clauses.count h₂))

  module _ (h₁ : nodes.count ≤ most_nodes) (h₂ : clauses.count ≤ most_clauses) where
    pub by_sheet : (e : Refusal) → sheet_answer (sheet_bytes s m nodes clauses) ≡ Err e → Judged (Err e)
    unfolding draft_refusal
    by_sheet e is =
        let number = answer_refused (sheet_bytes s m nodes clauses) e is in
        answered_refusal (draft_refusal s m nodes clauses lent) tt e
        (number ∙ rw (le-ltb most_nodes nodes.count h₁, le-ltb most_clauses clauses.count h₂, refusal_applies e number))

    module _ (h : Header) (is : sheet_answer (sheet_bytes s m nodes clauses) ≡ Ok h) where
      pub by_output : lent < least_output → Judged (Err ShortOutput)
      unfolding draft_refusal number_of
      by_output l =
          answered_refusal (draft_refusal s m nodes clauses lent) tt ShortOutput
          (rw (le-ltb most_nodes nodes.count h₁, le-ltb most_clauses clauses.count h₂, (answer_accepted (sheet_bytes s m nodes clauses) h is).0, lt-ltb lent least_output l))

      pub by_none : least_output ≤ lent → Judged (Ok tt)
      unfolding draft_refusal
      by_none l =
          answered_value (draft_refusal s m nodes clauses lent) tt
          (rw (le-ltb most_nodes nodes.count h₁, le-ltb most_clauses clauses.count h₂, (answer_accepted (sheet_bytes s m nodes clauses) h is).0, le-ltb lent least_output l))

small_judged : (many short : Bool) (bytes : List ℕ) → cond many 20 (cond (eqb (sheet_refusal bytes) 0) (cond short 14 0) (sheet_refusal bytes)) ≤ last_number
small_judged many short bytes = go many (eqb (sheet_refusal bytes) 0) short (sheet_small bytes)
  where
    go : (many clean short : Bool) → sheet_refusal bytes < 10 → cond many 20 (cond clean (cond short 14 0) (sheet_refusal bytes)) ≤ last_number
    go true clean short h = omega arith
    go false true true h = omega arith
    go false true false h = omega arith
    go false false short h = omega arith

-- what 0 leaves
pub record Free (n c lent : ℕ) : Type 0 where
  pub few_nodes : n ≤ 64
  pub few_clauses : c ≤ 8
  pub room : least_output ≤ lent

pub nothing_refused : (s m : ℕ) (nodes : List ℕ) (n : ℕ) (clauses : List ℕ) (c lent : ℕ)
    → draft_refusal s m (draft nodes n) (draft clauses c) lent ≡ 0 → Free n c lent
unfolding draft_refusal
nothing_refused s m nodes n clauses c lent h =
    go (ltb most_nodes n || ltb most_clauses c) (eqb r 0) (ltb lent least_output) refl refl refl h
  where
    r : ℕ
    r = sheet_refusal (sheet_bytes s m (draft nodes n) (draft clauses c))

    go : (many clean short : Bool) → (ltb most_nodes n || ltb most_clauses c) ≡ many → eqb r 0 ≡ clean → ltb lent least_output ≡ short
        → cond many 20 (cond clean (cond short 14 0) r) ≡ 0 → Free n c lent
    go true clean short e₁ e₂ e₃ h = absurd (omega arith)
    go false false short e₁ e₂ e₃ h = absurd (true≢false (sym (eq-eqb r 0 h) ∙ e₂))
    go false true true e₁ e₂ e₃ h = absurd (omega arith)
    go false true false e₁ e₂ e₃ h =
        record {
          few_nodes = ltb-false most_nodes n (or_false_left (ltb most_nodes n) (ltb most_clauses c) e₁);
          few_clauses = ltb-false most_clauses c (or_false_right (ltb most_nodes n) (ltb most_clauses c) e₁);
          room = ltb-false lent least_output e₃;
        }

draft_small : (s m : ℕ) (nodes clauses : Draft) (lent : ℕ) → draft_refusal s m nodes clauses lent ≤ last_number
unfolding draft_refusal
draft_small s m nodes clauses lent =
    small_judged (ltb most_nodes nodes.count || ltb most_clauses clauses.count) (ltb lent least_output) (sheet_bytes s m nodes clauses)

-- ---- what was drawn from empty areas
drawn_empty : Drawn empty (record { bytes = replicate 384 0; count = 0 }) (record { bytes = replicate 88 0; count = 0 })
unfolding empty
drawn_empty = record { nodes_drawn = refl; clauses_drawn = λ _. refl; counted = refl }

module _ (t : TypedSheet) (nodes : Nodes) (clauses : Clauses) (drawn : Drawn (sketch_of t) nodes clauses) (lent : ℕ) where
  bytes_same : nodes.count ≤ 64 → sheet_bytes t.signals t.names (so_far nodes) (clauses_so_far clauses) ≡ typed_bytes t
  unfolding typed_bytes
  bytes_same few = ap₂ (sheet_bytes t.signals t.names) drawn.nodes_drawn (drawn.clauses_drawn few)

  many_same : (ltb most_nodes nodes.count || ltb most_clauses clauses.count) ≡ too_many t
  unfolding too_many
  many_same = ap₂ (λ (n c : ℕ). ltb most_nodes n || ltb most_clauses c) (ap (λ (d : Draft). d.count) drawn.nodes_drawn) drawn.counted

  refusal_same : draft_refusal t.signals t.names (so_far nodes) (clauses_so_far clauses) lent ≡ said_refusal t lent
  unfolding draft_refusal said_refusal
  refusal_same =
      elim (test (ltb most_nodes nodes.count || ltb most_clauses clauses.count)) [
        | inl e ↦ rw (← many_same, e)
        | inr e ↦
            let few = ltb-false most_nodes nodes.count (or_false_left (ltb most_nodes nodes.count) (ltb most_clauses clauses.count) e) in
            ap₂
            (λ (many : Bool) (bytes : List ℕ).
            cond many 20 (cond (eqb (sheet_refusal bytes) 0) (cond (ltb lent least_output) 14 0) (sheet_refusal bytes)))
            many_same (bytes_same few)
      ]

-- ---- the cases of an answer
module _ (text x : List ℕ) where
  pub read_deep : (deep : Bool) → deep ≡ too_deep text → deep ≡ true → ReadText text x x (Err TooDeep)
  unfolding refusal_numbered refusals
  read_deep deep e h =
      let yes-deep : too_deep text ≡ true = sym e ∙ h in
      record {
        deep = λ _. record { refusal_given = refl; unchanged = refl };
        outside = λ shallow. absurd (true≢false (sym yes-deep ∙ shallow));
        refused = λ shallow. absurd (true≢false (sym yes-deep ∙ shallow));
        written = λ shallow. absurd (true≢false (sym yes-deep ∙ shallow));
      }

  module _ (deep : Bool) (e : deep ≡ too_deep text) (h : deep ≡ false) where
    shallow : too_deep text ≡ false
    shallow = sym e ∙ h

    outside_grammar : ((t : TypedSheet) → Says text t → ⊥) → ReadText text x x (Err OutsideGrammar)
    unfolding refusal_numbered refusals
    outside_grammar nothing =
        record {
          deep = λ d. absurd (true≢false (sym d ∙ shallow));
          outside = λ _ _. record { refusal_given = refl; unchanged = refl };
          refused = λ _ t says. absurd (nothing t says);
          written = λ _ t says. absurd (nothing t says);
        }

    pub unended_outside : (ends : Bool) → ends ≡ ends_line text → ends ≡ false → ReadText text x x (Err OutsideGrammar)
    unended_outside ends e₂ h₂ = outside_grammar (λ t says. true≢false (sym says.ended ∙ sym e₂ ∙ h₂))

    -- the one tree of the text
    module _ (ended : ends_line text ≡ true) (t : TypedSheet) (said : parse 32 (tokens text) ≡ some t) where
      said_tree : Says text t
      said_tree = read_says 32 text t said ended

      same_tree : (t' : TypedSheet) → Says text t' → t ≡ t'
      same_tree t' says = unique text t t' said_tree says

      read_refused : (e : Refusal) → number_of e ≡ said_refusal t (length x) → ReadText text x x (Err e)
      read_refused e is =
          let some = number_some e in
          let at : (t' : TypedSheet) → Says text t' → number_of e ≡ said_refusal t' (length x)
          = λ t' says. is ∙ ap (λ (t : TypedSheet). said_refusal t (length x)) (same_tree t' says)
          in
          record {
            deep = λ d. absurd (true≢false (sym d ∙ shallow));
            outside = λ _ nothing. absurd (nothing t said_tree);
            refused = λ _ t' says _.
                record { refusal_given = ap Err (sym (numbered_number e) ∙ ap refusal_numbered (at t' says)); unchanged = refl };
            written = λ _ t' says free. absurd (let number = at t' says in omega arith);
          }

      read_written : (y : List ℕ) (long : ℕ) → said_refusal t (length x) ≡ 0 → y ≡ front_of (typed_bytes t) x → long ≡ length (typed_bytes t)
          → ReadText text x y (Ok long)
      read_written y long free front is =
          record {
            deep = λ d. absurd (true≢false (sym d ∙ shallow));
            outside = λ _ nothing. absurd (nothing t said_tree);
            refused = λ _ t' says Some-number.
                absurd (Some-number (sym (ap (λ (t : TypedSheet). said_refusal t (length x)) (same_tree t' says)) ∙ free));
            written = λ _ t' says _.
                record {
                  length_given = ap Ok (is ∙ ap (λ (t : TypedSheet). length (typed_bytes t)) (same_tree t' says));
                  in_front = front ∙ ap (λ (t : TypedSheet). front_of (typed_bytes t) x) (same_tree t' says);
                };
          }

    pub unread_outside : parse 32 (tokens text) ≡ none → ReadText text x x (Err OutsideGrammar)
    unread_outside bad = outside_grammar (outside_unread text shallow bad)

    -- what the code read, where there was nothing before
    module _ (a b : List ℕ) (nodes : Nodes) (clauses : Clauses) (r : GotSheet) (a-empty : a ≡ replicate 384 0) (b-empty : b ≡ replicate 88 0)
        (read : SheetTook text (record { bytes = a; count = 0 }) (record { bytes = b; count = 0 }) nodes clauses r) where
      module _ (ends : Bool) (e₂ : ends ≡ ends_line text) (h₂ : ends ≡ true) where
        ended : ends_line text ≡ true
        ended = sym e₂ ∙ h₂

        t : TypedSheet
        t = read.tree

        drawn : Drawn (sketch_of t) nodes clauses
        unfolding t sketch_of
        drawn = read.drawn empty (rw (a-empty, b-empty) drawn_empty)

        number_same : draft_refusal r.signals r.names (so_far nodes) (clauses_so_far clauses) (length x) ≡ said_refusal t (length x)
        unfolding t
        number_same =
            ap₂ (λ (s m : ℕ). draft_refusal s m (so_far nodes) (clauses_so_far clauses) (length x))
            read.signals_said read.names_said
            ∙ refusal_same t nodes clauses drawn (length x)

        pub read_judged : (e : Refusal) → answered {A = Unit {0}} (draft_refusal r.signals r.names (so_far nodes) (clauses_so_far clauses) (length x)) tt ≡ Err e → ReadText text x x (Err e)
        unfolding t
        read_judged e is =
            read_refused ended t read.said e
            (of_refusal _ tt e (draft_small r.signals r.names (so_far nodes) (clauses_so_far clauses) (length x)) is ∙ number_same)

        pub read_whole : (y : List ℕ) (long : ℕ) → answered {A = Unit {0}} (draft_refusal r.signals r.names (so_far nodes) (clauses_so_far clauses) (length x)) tt ≡ Ok tt
            → Assembled r.signals r.names (so_far nodes) (clauses_so_far clauses) x y long
            → ReadText text x y (Ok long)
        unfolding t
        read_whole y long is put =
            let none = (of_value _ tt tt is).0 in
            let free = nothing_refused r.signals r.names nodes.bytes nodes.count clauses.bytes clauses.count (length x) none in
            let same =
            ap₂ (λ (s m : ℕ). sheet_bytes s m (so_far nodes) (clauses_so_far clauses))
            read.signals_said read.names_said
            ∙ bytes_same t nodes clauses drawn (length x) free.few_nodes
            in
            read_written ended t read.said y long (sym number_same ∙ none)
            (put.bytes ∙ ap (λ (l : List ℕ). front_of l x) same) (put.size ∙ ap length same)

-- ---- one case applies to each text
-- the one tree that the text says
pub record OneTree (text : List ℕ) : Type 0 where
  pub tree : TypedSheet
  pub says : Says text tree
  pub only : (t : TypedSheet) → Says text t → t ≡ tree

pub data Case (text : List ℕ) : Type 0 where
  deep_text : too_deep text ≡ true → Case text
  outside_text : too_deep text ≡ false → ((t : TypedSheet) → Says text t → ⊥) → Case text
  said_text : too_deep text ≡ false → OneTree text → Case text

pub case_of : (text : List ℕ) → Case text
case_of text =
    elim (test (too_deep text)) [
      | inl deep ↦ deep_text deep
      | inr shallow ↦
          elim (test (ends_line text)) [
            | inl ended ↦ go shallow ended (parse 32 (tokens text)) refl
            | inr unended ↦ outside_text shallow (λ t says. true≢false (sym says.ended ∙ unended))
          ]
    ]
  where
    go : too_deep text ≡ false → ends_line text ≡ true → (o : Option TypedSheet) → parse 32 (tokens text) ≡ o → Case text
    go shallow ended none e = outside_text shallow (outside_unread text shallow e)
    go shallow ended (some t) e =
        let says = read_says 32 text t e ended in
        said_text shallow (record { tree = t; says = says; only = λ t' w. unique text t' t w says })

zero_or_not : (n : ℕ) → (n ≡ 0) ⊎ (n ≡ 0 → ⊥)
zero_or_not n = elim (test (eqb n 0)) [ inl e ↦ inl (eqb-true n 0 e) | inr e ↦ inr (eqb-false n 0 e) ]

-- what is promised leaves no choice
same_refusal : {number : ℕ} {x y y' : List ℕ} {r r' : Result ℕ Refusal} → RefusedBy number x y r → RefusedBy number x y' r' → (r ≡ r') × (y ≡ y')
same_refusal p q = (p.refusal_given ∙ sym q.refusal_given, p.unchanged ∙ sym q.unchanged)

same_writing : {t : TypedSheet} {x y y' : List ℕ} {r r' : Result ℕ Refusal} → WrittenAs t x y r → WrittenAs t x y' r' → (r ≡ r') × (y ≡ y')
same_writing p q = (p.length_given ∙ sym q.length_given, p.in_front ∙ sym q.in_front)

pub determined : (text x y y' : List ℕ) (r r' : Result ℕ Refusal) → ReadText text x y r → ReadText text x y' r' → (r ≡ r') × (y ≡ y')
determined text x y y' r r' p q = go (case_of text)
  where
    go : Case text → (r ≡ r') × (y ≡ y')
    go (deep_text deep) = same_refusal (p.deep deep) (q.deep deep)
    go (outside_text shallow nothing) = same_refusal (p.outside shallow nothing) (q.outside shallow nothing)
    go (said_text shallow one) =
        elim (zero_or_not (said_refusal one.tree (length x))) [
          | inl free ↦ same_writing (p.written shallow one.tree one.says free) (q.written shallow one.tree one.says free)
          | inr number ↦ same_refusal (p.refused shallow one.tree one.says number) (q.refused shallow one.tree one.says number)
        ]

-- ---- what is answered
-- what 0 says of the sheet that was read, and of what is lent
pub record Passed (t : TypedSheet) (lent : ℕ) : Type 0 where
  pub few : too_many t ≡ false
  pub right : sheet_refusal (typed_bytes t) ≡ 0
  pub room : least_output ≤ lent

passed : (t : TypedSheet) (lent : ℕ) → said_refusal t lent ≡ 0 → Passed t lent
unfolding said_refusal
passed t lent h = go (too_many t) (eqb r 0) (ltb lent least_output) refl refl refl h
  where
    r : ℕ
    r = sheet_refusal (typed_bytes t)

    go : (many clean short : Bool) → too_many t ≡ many → eqb r 0 ≡ clean → ltb lent least_output ≡ short
        → cond many 20 (cond clean (cond short 14 0) r) ≡ 0 → Passed t lent
    go true clean short e₁ e₂ e₃ h = absurd (omega arith)
    go false false short e₁ e₂ e₃ h = absurd (true≢false (sym (eq-eqb r 0 h) ∙ e₂))
    go false true true e₁ e₂ e₃ h = absurd (omega arith)
    go false true false e₁ e₂ e₃ h = record { few = e₁; right = eqb-true r 0 e₂; room = ltb-false lent least_output e₃ }

said_small : (t : TypedSheet) (lent : ℕ) → said_refusal t lent ≤ last_number
unfolding said_refusal
said_small t lent = small_judged (too_many t) (ltb lent least_output) (typed_bytes t)

-- a number refuses, or a tree's bytes are written
pub data Outcome (text x y : List ℕ) (r : Result ℕ Refusal) : Type 0 where
  by_number : (number : ℕ) → number ≤ last_number → RefusedBy number x y r → Outcome text x y r
  by_tree : (t : TypedSheet) → Says text t → Passed t (length x) → WrittenAs t x y r → Outcome text x y r

pub outcome : (text x y : List ℕ) (r : Result ℕ Refusal) → ReadText text x y r → Outcome text x y r
outcome text x y r p = go (case_of text)
  where
    go : Case text → Outcome text x y r
    go (deep_text deep) = by_number 18 (omega arith) (p.deep deep)
    go (outside_text shallow nothing) = by_number 19 (omega arith) (p.outside shallow nothing)
    go (said_text shallow one) =
        elim (zero_or_not (said_refusal one.tree (length x))) [
          | inl free ↦
              by_tree one.tree one.says (passed one.tree (length x) free) (p.written shallow one.tree one.says free)
          | inr number ↦
              by_number (said_refusal one.tree (length x)) (said_small one.tree (length x))
              (p.refused shallow one.tree one.says number)
        ]

not_written : {number size : ℕ} {x y : List ℕ} → RefusedBy number x y (Ok size) → ⊥
not_written q = let e = q.refusal_given in let z : ◌≡◌ {A = ℕ} 0 1 = cc in omega arith

not_refused : {e : Refusal} {t : TypedSheet} {x y : List ℕ} → WrittenAs t x y (Err e) → ⊥
not_refused w = let e = w.length_given in let z : ◌≡◌ {A = ℕ} 0 1 = cc in omega arith

-- what is written fits, and the later bytes are as before
pub record Fits (x y : List ℕ) (size : ℕ) : Type 0 where
  pub long : size ≤ clauses_end most_nodes most_clauses
  pub later : drop size y ≡ drop size x
  pub room : least_output ≤ length x
  pub same_length : length y ≡ length x

pub written_fits : (text x y : List ℕ) (size : ℕ) → ReadText text x y (Ok size) → Fits x y size
unfolding front_of
written_fits text x y size p = go (outcome text x y (Ok size) p)
  where
    go : Outcome text x y (Ok size) → Fits x y size
    go (by_number number small q) = absurd (not_written q)
    go (by_tree t says pass w) =
        let e = w.length_given in
        let is : size ≡ length (typed_bytes t) = cc in
        let o = opened (typed_bytes t) pass.right in
        let few : size ≤ clauses_end most_nodes most_clauses = omega (arith, o.long, o.in_range.few_nodes, o.in_range.few_clauses) in
        record {
          long = few;
          later =
              ap (drop size) w.in_front ∙ drop_at (typed_bytes t) (drop (length (typed_bytes t)) x) size (sym is)
              ∙ ap (λ (n : ℕ). drop n x) (sym is);
          room = pass.room;
          same_length =
              ap length w.in_front ∙ length-append (typed_bytes t) (drop (length (typed_bytes t)) x)
              ∙ simp length-drop (omega (arith, few, pass.room));
        }

-- where it is refused nothing lent is changed
pub refused_unchanged : (text x y : List ℕ) (e : Refusal) → ReadText text x y (Err e) → y ≡ x
refused_unchanged text x y e p = go (outcome text x y (Err e) p)
  where
    go : Outcome text x y (Err e) → y ≡ x
    go (by_number k small q) = q.unchanged
    go (by_tree t says pass w) = absurd (not_refused w)

-- ---- what is written means what the text means
pub record Meant (text sheet : List ℕ) : Type 1 where
  pub tree : TypedSheet
  pub says : Says text tree
  pub bytes : sheet ≡ typed_bytes tree
  -- it passes 1 to 9
  pub accepted : sheet_refusal sheet ≡ 0
  pub clauses : clauses_of sheet ≡ clauses_meant (part_of (nodes_of sheet) 0 0) tree
  -- whatever stands for the parts that a type has not
  pub requires : (unused : Part) (σ : Trace) → requirement_of sheet σ ≡ requirement (clauses_meant unused tree) σ
  pub verdicts : (unused : Part) (σ : Trace) → verdict (clauses_of sheet) σ ≡ verdict (clauses_meant unused tree) σ

meant_bytes : (text : List ℕ) (t : TypedSheet) (lent : ℕ) → Says text t → Passed t lent → Meant text (typed_bytes t)
meant_bytes text t lent says p =
    let numbers = small text t says in
    record {
      tree = t;
      says = says;
      bytes = refl;
      accepted = p.right;
      clauses = typed_clauses t p.few numbers;
      requires = λ unused σ. typed_requirement t p.few numbers unused σ;
      verdicts = λ unused σ. typed_verdict t p.few numbers unused σ;
    }

pub meaning : (text x y : List ℕ) (size : ℕ) → ReadText text x y (Ok size) → Meant text (take size y)
meaning text x y size p = go (outcome text x y (Ok size) p)
  where
    front : (t : TypedSheet) → WrittenAs t x y (Ok size) → typed_bytes t ≡ take size y
    front t w =
        let e = w.length_given in
        let long : size ≡ length (typed_bytes t) = cc in
        sym (ap (take size) w.in_front ∙ front_taken (typed_bytes t) x size long)

    go : Outcome text x y (Ok size) → Meant text (take size y)
    go (by_number number few q) = absurd (not_written q)
    go (by_tree t says pass w) = rw (← front t w) (meant_bytes text t (length x) says pass)
