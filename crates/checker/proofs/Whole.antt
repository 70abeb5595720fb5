-- The table operation from what reading the sheet and the trace answered.
use Rattle.std.proofs.Common.{ℕ, ◌≤◌, List, ◌≡◌, refl, sym, ◌∙◌, ap, Bool, true, false, eqb, length, replicate, Result, Ok, Err}
use Rattle.stored.specs.Layout.{least_words}
use Rattle.stored.specs.declared.Header.{Header}
use Rattle.stored.specs.declared.refusal.Refusal.{Refusal}
use Rattle.semantics.specs.Proposition.{Trace}
use Rattle.traces.specs.Columns.{columns_of, trace_of}
use Rattle.stored.specs.Node.{node_at}
use Rattle.stored.specs.Refusal.{refusal_numbered, answered}
use Rattle.stored.specs.Tree.{pick}
use Rattle.stored.specs.Sheet.{header_of, node_part, nodes_of, sheet_answer}
use Rattle.traces.specs.Trace.{cycle_count, cycles_of, trace_answer}
use Rattle.stored.proofs.Accepted.{answer_accepted}
use Rattle.traces.proofs.Accepted.{cycles_accepted}
use Rattle.checker.specs.Table.{placement_of, table_of, node_refusal, words_refusal, table_refusal, table_answer, table_words, words_after}
use Rattle.checker.proofs.Opened.{cycled_as, told_accepted}
use Rattle.checker.proofs.Refusals.{or_second, words_many, after_trace}

module _ (s t : List ℕ) (node p0 p1 p2 : ℕ) (words : List ℕ) (h : Header) (n : ℕ) (accepted : sheet_answer s ≡ Ok h)
    (cycled : trace_answer h.signals t ≡ Ok n) where
  same : header_of s ≡ h
  same = (answer_accepted s h accepted).1

  many : cycle_count t ≡ n
  many = (cycles_accepted (header_of s).signals t n (cycled_as s t h n accepted cycled)).1

  -- the answer over the parts is the answer over the sheet
  Answer : List ℕ → ℕ → Header → Result (List ℕ) Refusal
  Answer w k g =
      answered (node_refusal (node_at w) g.nodes k g.names node p0 p1 p2)
      (table_of (node_at w) (cycles_of t) node (placement_of g.names p0 p1 p2))

  After : List ℕ → ℕ → Header → List ℕ
  After w k g = words_after (node_refusal (node_at w) g.nodes k g.names node p0 p1 p2) words

  by_node : least_words ≤ length words → node_refusal (nodes_of s) (header_of s).nodes (cycle_count t) (header_of s).names node p0 p1 p2 ≡ table_refusal s t node p0 p1 p2 words
  unfolding table_refusal
  by_node l = sym (after_trace s t _ h accepted n cycled ∙ or_second (words_refusal words) _ (words_many words l))

  pub table_whole : (nodes columns new : List ℕ) (answer : Result (List ℕ) Refusal) → least_words ≤ length words → nodes ≡ node_part s → columns ≡ columns_of h.signals n t
      → answer ≡ answered (node_refusal (node_at nodes) h.nodes n h.names node p0 p1 p2) (table_of (node_at nodes) (trace_of n columns) node (placement_of h.names p0 p1 p2))
      → new ≡ words_after (node_refusal (node_at nodes) h.nodes n h.names node p0 p1 p2) words
      → (answer ≡ table_answer s t node p0 p1 p2 words) × (new ≡ words_after (table_refusal s t node p0 p1 p2 words) words)
  unfolding table_answer nodes_of Answer After
  table_whole nodes columns new answer l e er a b = (
    a
        ∙ ap (λ (σ : Trace). answered (node_refusal (node_at nodes) h.nodes n h.names node p0 p1 p2) (table_of (node_at nodes) σ node (placement_of h.names p0 p1 p2)))
        (told_accepted s t h n accepted cycled columns er)
        ∙ ap (λ (w : List ℕ). Answer w n h) e
        ∙ ap (λ (k : ℕ). Answer (node_part s) k h) (sym many)
        ∙ ap (λ (g : Header). Answer (node_part s) (cycle_count t) g) (sym same)
        ∙ ap (λ (r : ℕ). answered r (table_of (nodes_of s) (cycles_of t) node (placement_of (header_of s).names p0 p1 p2))) (by_node l),
    b
        ∙ ap (λ (w : List ℕ). After w n h) e
        ∙ ap (λ (k : ℕ). After (node_part s) k h) (sym many)
        ∙ ap (λ (g : Header). After (node_part s) (cycle_count t) g) (sym same)
        ∙ ap (λ (r : ℕ). words_after r words) (by_node l),
  )

-- a refused table's words are zero
pub refused_zero : (s t : List ℕ) (node p0 p1 p2 : ℕ) (words : List ℕ) → table_words (table_answer s t node p0 p1 p2 words)
    ≡ pick (eqb (table_refusal s t node p0 p1 p2 words) 0) (table_of (nodes_of s) (cycles_of t) node (placement_of (header_of s).names p0 p1 p2)) (replicate 64 0)
unfolding table_words table_answer answered pick
refused_zero s t node p0 p1 p2 words = go (eqb (table_refusal s t node p0 p1 p2 words) 0)
  where
    go : (b : Bool) → table_words (pick b (Ok (table_of (nodes_of s) (cycles_of t) node (placement_of (header_of s).names p0 p1 p2))) (Err (refusal_numbered (table_refusal s t node p0 p1 p2 words))))
        ≡ pick b (table_of (nodes_of s) (cycles_of t) node (placement_of (header_of s).names p0 p1 p2)) (replicate 64 0)
    go true = refl
    go false = refl
