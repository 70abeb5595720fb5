-- From the bytes written to what translate promises.
use Rattle.std.proofs.Common.{ℕ, ◌+◌, ◌-◌, ◌*◌, ◌≤◌, ◌<◌, Bool, true, false, cond, List, ◌≡◌, refl, sym, ◌∙◌, ap, subst, arith, le-leb, eq-eqb, eqb-true, ne_eqb, lt-ltb, le-ltb, eqb, ltb, length, get_or, take, drop, length-take, Result, Ok, Err}
use Rattle.semantics.specs.Formula.{Formula, true_of}
use Rattle.semantics.specs.Placement.{no_names}
use Rattle.semantics.specs.Reach.{within}
use Rattle.semantics.specs.Translation.{translation}
use Rattle.semantics.specs.Clause.{Clause}
use Rattle.semantics.proofs.Advice.{translation_without}
use Rattle.semantics.proofs.Agreement.{agreement}
use Rattle.semantics.proofs.Tests.{and_intro}
use Rattle.stored.specs.declared.Node.{Node}
use Rattle.stored.specs.declared.Header.{Header}
use Rattle.stored.specs.declared.refusal.Refusal.{Refusal}
use Rattle.stored.specs.declared.refusal.Refusal.TheVariants.{ShortOutput}
use Rattle.stored.specs.Bytes.{word, framed_from}
use Rattle.stored.specs.Node.{emitted_sorts, sort_of, sort_below, node_right, is_formula_node}
use Rattle.stored.specs.Tree.{pick, formula_at}
use Rattle.stored.specs.Sheet.{header_of, node_part, clause_part, nodes_of, stored_of, framed, versioned, sized, sheet_refusal, sheet_answer, clause_in, clauses_of, requirement_of}
use Rattle.stored.specs.Emitted.{of_kind_two, emitted_counted, root_of, emitted_formula, emitted_nodes, emitted_operands, is_emitted, emitted_true}
use Rattle.stored.specs.Reached.{Reached}
use Rattle.stored.specs.Layout.{emitted_kind, nodes_end, clauses_end, following, least_output}
use Rattle.stored.specs.Written.{node_in, put_header, header_bytes}
use Rattle.stored.proofs.Sorts.{sort_same}
use Rattle.stored.proofs.Rules.{every_all}
use Rattle.stored.proofs.Tree.{formula_agree}
use Rattle.stored.proofs.Written.{header_length, header_back, header_byte, header_read, header_rest, nodes_in, taken_byte, taken_header, taken_node}
use Rattle.stored.proofs.Emitted.{emitted_made}
use Rattle.stored.proofs.Accepted.{Opened, length_nodes, length_clauses, accepted_fits, answer_accepted, answer_refused, sheet_small}
use Rattle.stored.specs.Refusal.{number_of, last_number, answered, answer_number}
use Rattle.stored.specs.Output.{written_length}
use Rattle.stored.proofs.Refusals.{number_some, refusal_applies, answered_value, answered_refusal, number_answered}
use Rattle.translator.specs.Refusal.{translate_refusal}
use Rattle.plans.specs.Bound.{drawings, node_bound}
use Rattle.translator.specs.Draft.{DraftOf}
use Rattle.translator.specs.Translated.{FormulaOf, Translated}
use Rattle.plans.specs.Emission.{count, formula_in, Good, Step, Has, Emits}
use Rattle.emission.specs.Copying.{copy_costs, NodesIn}
use Rattle.clauses.specs.Clauses.{ClausesIn, clause_at, clauses_at, requirement_cost}
use Rattle.pruning.specs.Pruned.{PrunedTo, Drafted}
use Rattle.plans.proofs.Steps.{operands_same}
use Rattle.clauses.proofs.Joining.{joined_bound}
use Rattle.semantics.proofs.Closed.{translation_closed}

-- ---- an empty kind 2 sheet
module _ (x y : List ℕ) (s m : ℕ) (big : least_output ≤ length x) (e : y ≡ put_header x emitted_kind s m 0 0) where
  head : header_of y ≡ record { signals = s; names = m; nodes = 0; clauses = 0 }
  head = ap header_of e ∙ header_read x emitted_kind s m 0 0 (omega arith)

  pub empty_count : count y ≡ 0
  empty_count = ap (λ (h : Header). h.nodes) head

  pub empty_signals : (header_of y).signals ≡ s
  empty_signals = ap (λ (h : Header). h.signals) head

  pub empty_names : (header_of y).names ≡ m
  empty_names = ap (λ (h : Header). h.names) head

  pub empty_length : length y ≡ length x
  empty_length = ap length e ∙ header_length x emitted_kind s m 0 0

  pub empty_good : 1 ≤ s → s ≤ 16 → m ≤ 3 → Good y
  unfolding header_bytes
  empty_good some few three =
      let none = empty_count in
      let signals = empty_signals in
      let names = empty_names in
      let size = empty_length in
      record {
        long = omega arith;
        rest = ap (λ (l : List ℕ). word l 0) e ∙ header_rest x emitted_kind s m 0 0 (omega arith) ∙ ap (λ (n : ℕ). following (nodes_end n)) (sym none);
        version = ap (λ (l : List ℕ). get_or l 2 0) e ∙ header_byte x emitted_kind s m 0 0 (omega arith) 2 (omega arith);
        kind = ap (λ (l : List ℕ). get_or l 3 0) e ∙ header_byte x emitted_kind s m 0 0 (omega arith) 3 (omega arith);
        some_signals = omega arith;
        few_signals = omega arith;
        few_names = omega arith;
        no_clauses = ap (λ (h : Header). h.clauses) head;
        few_nodes = omega arith;
        nodes_right_holds = λ i l. absurd (omega arith);
        operands_right_holds = λ i l. absurd (omega arith);
      }

-- ---- an accepted sheet's parts
module _ (s : List ℕ) (o : Opened s) (y : List ℕ) (signals : (header_of y).signals ≡ (header_of s).signals) (names : (header_of y).names ≡ (header_of s).names) where
  pub nodes_in_sheet : NodesIn y (node_part s) (header_of s).nodes
  unfolding nodes_of
  nodes_in_sheet =
      record {
        few = o.in_range.few_nodes;
        inside = omega (arith, length_nodes s o);
        fields = λ i l. rw (signals, names) (o.nodes_kept.fields i l);
        operands = λ i l. o.nodes_kept.operands_kept i l;
      }

  -- the first n of them
  pub clauses_in_sheet : (n : ℕ) → n ≤ (header_of s).clauses → ClausesIn y (node_part s) (header_of s).nodes (clause_part s) n
  unfolding nodes_of stored_of
  clauses_in_sheet n h =
      record {
        few = omega (arith, o.in_range.few_clauses);
        inside = omega (arith, length_clauses s o);
        right = λ k l. o.clause_right_holds k (omega arith);
        named = λ k l. rw names (o.clause_named_holds k (omega arith));
      }

clauses_same : (s : List ℕ) → clauses_at (node_part s) (clause_part s) (header_of s).clauses ≡ clauses_of s
unfolding clauses_at clause_at clauses_of clause_in nodes_of stored_of
clauses_same s = refl

-- ---- a finished sheet, cut to its length
module _ (y : List ℕ) (r : ℕ) (f : Formula) (good : Good y) (has : Has y r f) (last : count y ≡ r + 1) (closed : within no_names f ≡ true) where
  fits : nodes_end (r + 1) ≤ length y
  fits = omega (arith, good.few_nodes, good.long)

  pub cut_length : length (take (nodes_end (r + 1)) y) ≡ nodes_end (r + 1)
  cut_length = simp length-take (omega (arith, fits))

  pub cut_header : header_of (take (nodes_end (r + 1)) y) ≡ header_of y
  cut_header = taken_header (nodes_end (r + 1)) y (omega arith)

  cut_node : (i : ℕ) → i < count y → nodes_of (take (nodes_end (r + 1)) y) i ≡ node_in y i
  cut_node i l =
      nodes_in (take (nodes_end (r + 1)) y) i (rw cut_header l) ∙ taken_node (nodes_end (r + 1)) y i (omega arith)

  cut_word : word (take (nodes_end (r + 1)) y) 0 ≡ word y 0
  unfolding word
  cut_word = rw (taken_byte (nodes_end (r + 1)) y 0 (omega arith), taken_byte (nodes_end (r + 1)) y (0 + 1) (omega arith))

  root_is : root_of (take (nodes_end (r + 1)) y) ≡ r
  unfolding root_of
  root_is = rw cut_header (omega arith)

  pub cut_formula : emitted_formula (take (nodes_end (r + 1)) y) ≡ f
  unfolding emitted_formula formula_in
  cut_formula =
      ap (formula_at (nodes_of (take (nodes_end (r + 1)) y))) root_is
      ∙ formula_agree (nodes_of (take (nodes_end (r + 1)) y)) (node_in y) r (λ k l. cut_node k (omega arith))
      ∙ has.tree

  is_cut_framed : framed (take (nodes_end (r + 1)) y) ≡ true
  unfolding framed framed_from
  is_cut_framed =
      let size = cut_length in
      let rest = cut_word in
      let told = good.rest in
      let long : 9 ≤ length (take (nodes_end (r + 1)) y) = omega arith in
      let told : word (take (nodes_end (r + 1)) y) 0 ≡ length (take (nodes_end (r + 1)) y) - 2 = omega arith in
      and_intro _ _ (le-leb _ _ long) (eq-eqb _ _ told)

  is_cut_counted : emitted_counted (header_of (take (nodes_end (r + 1)) y)) ≡ true
  unfolding emitted_counted
  is_cut_counted =
      rw cut_header
      (and_intro _ _ (and_intro _ _ (le-leb _ _ good.some_signals) (le-leb _ _ good.few_signals))
      (and_intro _ _ (le-leb _ _ good.few_names) (and_intro _ _ (le-leb 1 (count y) (omega arith)) (eq-eqb _ _ good.no_clauses))))

  is_cut_sized : sized (take (nodes_end (r + 1)) y) ≡ true
  unfolding sized
  is_cut_sized =
      rw cut_header
      (eq-eqb (length (take (nodes_end (r + 1)) y)) (clauses_end (header_of y).nodes (header_of y).clauses) (omega (arith, cut_length, good.no_clauses)))

  is_root : is_formula_node emitted_sorts (nodes_of (take (nodes_end (r + 1)) y)) (header_of (take (nodes_end (r + 1)) y)).nodes (root_of (take (nodes_end (r + 1)) y)) ≡ true
  unfolding is_formula_node sort_below
  is_root =
      rw (root_is, cut_header)
      (rw (lt-ltb r (count y) (omega arith)) (sort_same _ _ (ap (λ (n : Node). sort_of emitted_sorts n.op) (cut_node r (omega arith)) ∙ has.sorted)))

  pub is_emitted_lem : is_emitted (take (nodes_end (r + 1)) y) ≡ true
  unfolding versioned of_kind_two emitted_nodes emitted_operands node_right
  is_emitted_lem =
      emitted_made (take (nodes_end (r + 1)) y)
      (record {
        is_framed = is_cut_framed;
        is_versioned = eq-eqb _ _ (taken_byte (nodes_end (r + 1)) y 2 (omega arith) ∙ good.version);
        of_kind_two_holds = eq-eqb _ _ (taken_byte (nodes_end (r + 1)) y 3 (omega arith) ∙ good.kind);
        is_counted = is_cut_counted;
        is_sized = is_cut_sized;
        nodes_right_holds =
            every_all _ _
            (λ i l.
            let below : i < count y = rw cut_header at l in
            rw (cut_header, cut_node i below) (good.nodes_right_holds i below));
        operands_right_holds =
            every_all _ _
            (λ i l.
            let below : i < count y = rw cut_header at l in
            operands_same (node_in y) (nodes_of (take (nodes_end (r + 1)) y)) i (λ k q. cut_node k (omega arith)) ∙ good.operands_right_holds i below);
        root_formula = is_root;
        root_closed = ap (within no_names) cut_formula ∙ closed;
      })

-- ---- the draft
module _ (s x y₀ y₁ y₂ : List ℕ) (r : ℕ) (o : Opened s) (big : least_output ≤ length x)
    (e₀ : y₀ ≡ put_header x emitted_kind (header_of s).signals (header_of s).names 0 0)
    (s₁ : Step y₀ y₁ (3 + 2 * (header_of s).names))
    (e₂ : Emits y₁ y₂ r (requirement_cost (node_part s) (header_of s).nodes (header_of s).clauses (header_of y₁).names) (translation (clauses_at (node_part s) (clause_part s) (header_of s).clauses)))
    (last : count y₂ ≡ r + 1) where
  bounded : count y₂ ≤ node_bound s
  unfolding node_bound drawings requirement_cost copy_costs nodes_of
  bounded =
      let m₁ = s₁.names ∙ empty_names x y₀ (header_of s).signals (header_of s).names big e₀ in
      omega (
        arith,
        e₂.step.few,
        s₁.few,
        empty_count x y₀ (header_of s).signals (header_of s).names big e₀,
        ap (λ (m : ℕ). (header_of s).clauses * (11 + 6 * m)) m₁,
        joined_bound (header_of s).clauses (header_of s).names o.in_range.some_clauses o.in_range.few_names,
      )

  draft_written : DraftOf s y₂ r
  draft_written =
      record {
        good = e₂.step.good;
        last = last;
        signals = e₂.step.signals ∙ s₁.signals ∙ empty_signals x y₀ (header_of s).signals (header_of s).names big e₀;
        names = e₂.step.names ∙ s₁.names ∙ empty_names x y₀ (header_of s).signals (header_of s).names big e₀;
        bound = bounded;
        has = subst (λ (cs : List Clause). Has y₂ r (translation cs)) (clauses_same s) e₂.has;
      }

-- ---- the formula: what the draft's root reaches
module _ (s x y₀ y d : List ℕ) (root r : ℕ) (o : Opened s) (big : least_output ≤ length x)
    (e₀ : y₀ ≡ put_header x emitted_kind (header_of s).signals (header_of s).names 0 0)
    (draft : DraftOf s d root) (pruned : PrunedTo d root y₀ y r) where
  good : Good y
  good = pruned.step.good

  closed : within no_names (translation (clauses_of s)) ≡ true
  closed = translation_closed (clauses_of s) (accepted_fits s o)

  has : Has y r (translation (clauses_of s))
  unfolding formula_in
  has = subst (Has y r) draft.has.tree (pruned.same.formula draft.has.sorted)

  cut_reached : (i : ℕ) → i < (header_of (take (nodes_end (r + 1)) y)).nodes → Reached (nodes_of (take (nodes_end (r + 1)) y)) (root_of (take (nodes_end (r + 1)) y)) i
  cut_reached i l =
      subst (λ (k : ℕ). Reached (nodes_of (take (nodes_end (r + 1)) y)) k i) (sym (root_is y r _ good has pruned.last closed))
      (pruned.reached (nodes_of (take (nodes_end (r + 1)) y)) (cut_node y r _ good has pruned.last closed) i
      (omega (arith, l, ap (λ (g : Header). g.nodes) (cut_header y r _ good has pruned.last closed))))

  pub formula_written : FormulaOf s (take (nodes_end (r + 1)) y)
  unfolding emitted_true requirement_of
  formula_written =
      let h = cut_header y r _ good has pruned.last closed in
      let tree = cut_formula y r _ good has pruned.last closed in
      let none = empty_count x y₀ (header_of s).signals (header_of s).names big e₀ in
      record {
        form = is_emitted_lem y r _ good has pruned.last closed;
        signals = ap (λ (g : Header). g.signals) h ∙ pruned.step.signals ∙ empty_signals x y₀ (header_of s).signals (header_of s).names big e₀;
        names = ap (λ (g : Header). g.names) h ∙ pruned.step.names ∙ empty_names x y₀ (header_of s).signals (header_of s).names big e₀;
        bound = rw h (omega (arith, none, pruned.step.few, draft.last, draft.bound));
        reached = cut_reached;
        tree = tree ∙ sym (translation_without (clauses_of s));
        agreement = λ σ positive. ap (λ (f : Formula). true_of f σ) tree ∙ agreement σ positive (clauses_of s) (accepted_fits s o);
      }

  pub length_written : length (take (nodes_end (r + 1)) y) ≡ nodes_end (r + 1)
  length_written = cut_length y r _ good has pruned.last closed

  pub later_kept : drop (nodes_end (r + 1)) y ≡ drop (nodes_end (r + 1)) x
  later_kept =
      pruned.step.back (nodes_end (r + 1)) (omega (arith, pruned.last))
      ∙ ap (drop (nodes_end (r + 1))) e₀
      ∙ header_back x emitted_kind (header_of s).signals (header_of s).names 0 0 (nodes_end (r + 1)) (omega arith)

  pub size_kept : length y ≡ length x
  size_kept = pruned.step.size ∙ empty_length x y₀ (header_of s).signals (header_of s).names big e₀

-- ---- the three outcomes
pub translate_small : (s : List ℕ) (size : ℕ) → translate_refusal s size ≤ last_number
unfolding translate_refusal
translate_small s size = go (eqb (sheet_refusal s) 0) (ltb size least_output) (sheet_small s)
  where
    go : (a b : Bool) → sheet_refusal s < 10 → cond a (cond b 14 0) (sheet_refusal s) ≤ last_number
    go true true h = omega arith
    go true false h = omega arith
    go false b h = omega arith

-- an answer has the number that applies
pub number_told : {s x y : List ℕ} {r : Result ℕ Refusal} → Translated s x y r → answer_number r ≡ translate_refusal s (length x)
number_told {s} {x} {r = r} t = ap answer_number t.answer ∙ number_answered (translate_refusal s (length x)) (written_length r) (translate_small s (length x))

refused_law : (s x : List ℕ) (e : Refusal) → number_of e ≡ translate_refusal s (length x) → Translated s x x (Err e)
refused_law s x e is =
    let some = number_some e in
    let applies : translate_refusal s (length x) ≡ 0 → ⊥ = λ z. omega arith in
    record {
      answer = answered_refusal (translate_refusal s (length x)) _ e is;
      size = refl;
      unchanged = λ h. refl;
      formula = λ h. absurd (applies h);
      long = λ h. absurd (applies h);
      later = λ h. absurd (applies h);
    }

pub sheet_refused : (s x : List ℕ) (e : Refusal) → sheet_answer s ≡ Err e → Translated s x x (Err e)
unfolding translate_refusal
sheet_refused s x e told =
    let is = answer_refused s e told in
    refused_law s x e (is ∙ rw (refusal_applies e is))

module _ (s : List ℕ) (h : Header) (accepted : sheet_answer s ≡ Ok h) where
  no_number : sheet_refusal s ≡ 0
  no_number = (answer_accepted s h accepted).0

  pub header_is : header_of s ≡ h
  header_is = (answer_accepted s h accepted).1

  pub opened_sheet : Opened s
  opened_sheet = Rattle.stored.proofs.Accepted.opened s no_number

  pub output_refused : (x : List ℕ) → length x < least_output → Translated s x x (Err ShortOutput)
  unfolding translate_refusal number_of
  output_refused x l = refused_law s x ShortOutput (rw (no_number, lt-ltb (length x) least_output l))

  translated : (x y : List ℕ) (l : ℕ) → least_output ≤ length x → length y ≡ length x → FormulaOf s (take l y) → length (take l y) ≡ l → drop l y ≡ drop l x → Translated s x y (Ok l)
  unfolding translate_refusal written_length
  translated x y l big size formula long later =
      let none : translate_refusal s (length x) ≡ 0 = rw (no_number, le-ltb (length x) least_output big) in
      record {
        answer = answered_value (translate_refusal s (length x)) l none;
        size = size;
        unchanged = λ z. absurd (z none);
        formula = λ z. formula;
        long = λ z. long;
        later = λ z. later;
      }

-- the draft by the header that was read: header, shared nodes, requirement
pub record Run (s x : List ℕ) (h : Header) (y : List ℕ) (r : ℕ) : Type 0 where
  pub y₀ : List ℕ
  pub y₁ : List ℕ
  pub headed : y₀ ≡ put_header x emitted_kind h.signals h.names 0 0
  pub shared : Step y₀ y₁ (3 + 2 * h.names)
  pub required :
      Emits y₁ y r (requirement_cost (node_part s) h.nodes h.clauses (header_of y₁).names) (translation (clauses_at (node_part s) (clause_part s) h.clauses))
  pub last : count y ≡ r + 1

pub run_drafted : {y : List ℕ} {r : ℕ} (s x : List ℕ) (h : Header) → sheet_answer s ≡ Ok h → least_output ≤ length x → Run s x h y r → DraftOf s y r
run_drafted {y} {r} s x h accepted big run =
    let u : Run s x (header_of s) y r = subst (λ (g : Header). Run s x g y r) (sym (header_is s h accepted)) run in
    draft_written s x u.y₀ u.y₁ y r (opened_sheet s h accepted) big u.headed u.shared u.required u.last

-- bytes with a header and no node, for what the draft's root reaches
module _ {s y₀ d : List ℕ} {h : Header} {root : ℕ} (x : List ℕ) (accepted : sheet_answer s ≡ Ok h) (big : least_output ≤ length x)
    (draft : DraftOf s d root) (e : y₀ ≡ put_header x emitted_kind h.signals h.names 0 0) where
  headed : y₀ ≡ put_header x emitted_kind (header_of s).signals (header_of s).names 0 0
  headed = subst (λ (g : Header). y₀ ≡ put_header x emitted_kind g.signals g.names 0 0) (sym (header_is s h accepted)) e

  pub drafted : Drafted d root y₀
  drafted =
      let k = (opened_sheet s h accepted).in_range in
      record {
        good = draft.good;
        last = draft.last;
        new = empty_good x y₀ (header_of s).signals (header_of s).names big headed k.some_signals k.few_signals k.few_names;
        none = empty_count x y₀ (header_of s).signals (header_of s).names big headed;
        signals = empty_signals x y₀ (header_of s).signals (header_of s).names big headed ∙ sym draft.signals;
        names = empty_names x y₀ (header_of s).signals (header_of s).names big headed ∙ sym draft.names;
      }

  pub run_translated : {y : List ℕ} {r l : ℕ} → PrunedTo d root y₀ y r → l ≡ nodes_end (r + 1) → Translated s x y (Ok l)
  run_translated {y} {r} {l} pruned f =
      let o = opened_sheet s h accepted in
      rw f
      (translated s h accepted x y (nodes_end (r + 1)) big
      (size_kept s x y₀ y d root r o big headed draft pruned)
      (formula_written s x y₀ y d root r o big headed draft pruned)
      (length_written s x y₀ y d root r o big headed draft pruned)
      (later_kept s x y₀ y d root r o big headed draft pruned))

-- what was put for the parts that were handed over was put for the sheet's
pub required_parts : (s y y' : List ℕ) (r : ℕ) (h : Header) (nodes clauses : List ℕ) → nodes ≡ node_part s → clauses ≡ clause_part s
    → Emits y y' r (requirement_cost nodes h.nodes h.clauses (header_of y).names) (translation (clauses_at nodes clauses h.clauses))
    → Emits y y' r (requirement_cost (node_part s) h.nodes h.clauses (header_of y).names) (translation (clauses_at (node_part s) (clause_part s) h.clauses))
required_parts s y y' r h nodes clauses at after e =
    subst (λ (x : List ℕ). Emits y y' r (requirement_cost (node_part s) h.nodes h.clauses (header_of y).names) (translation (clauses_at (node_part s) x h.clauses))) after
    (subst (λ (x : List ℕ). Emits y y' r (requirement_cost x h.nodes h.clauses (header_of y).names) (translation (clauses_at x clauses h.clauses))) at e)

-- the parts of an accepted sheet, by the header that was read
module _ (s : List ℕ) (h : Header) (e : header_of s ≡ h) (o : Opened s) (y : List ℕ) (signals : (header_of y).signals ≡ h.signals) (names : (header_of y).names ≡ h.names) where
  pub nodes_read : (nodes : List ℕ) → nodes ≡ node_part s → NodesIn y nodes h.nodes
  nodes_read nodes at =
      subst (λ (x : List ℕ). NodesIn y x h.nodes) (sym at)
      (subst (λ (g : Header). NodesIn y (node_part s) g.nodes) e
      (nodes_in_sheet s o y (signals ∙ ap (λ (g : Header). g.signals) (sym e)) (names ∙ ap (λ (g : Header). g.names) (sym e))))

  pub clauses_read : (nodes clauses : List ℕ) → nodes ≡ node_part s → clauses ≡ clause_part s → (n : ℕ) → n ≤ h.clauses → ClausesIn y nodes h.nodes clauses n
  clauses_read nodes clauses at after n few =
      subst (λ (x : List ℕ). ClausesIn y x h.nodes clauses n) (sym at)
      (subst (λ (x : List ℕ). ClausesIn y (node_part s) h.nodes x n) (sym after)
      (subst (λ (g : Header). ClausesIn y (node_part s) g.nodes (clause_part s) n) e
      (clauses_in_sheet s o y (signals ∙ ap (λ (g : Header). g.signals) (sym e)) (names ∙ ap (λ (g : Header). g.names) (sym e)) n
      (subst (λ (g : Header). n ≤ g.clauses) (sym e) few))))
