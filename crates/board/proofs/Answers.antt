-- What an answer says of the refusal behind it, and how small a verdict's numbers are.
use Rattle.std.proofs.Common.{ℕ, Bool, true, false, List, [], ◌∷◌, ◌++◌, inl, inr, ◌≡◌, sym, ap, ◌∙◌, arith, eqb-true, eqb, Result, Ok, Err, IfOk}
use borrow.Author.Tests.{eqb-false}
use Rattle.semantics.proofs.Tests.{test}
use Rattle.stored.specs.declared.refusal.Refusal.{Refusal}
use Rattle.stored.specs.Refusal.{number_of, refusal_numbered}
use Rattle.stored.specs.Tree.{pick}
use Rattle.stored.proofs.Refusals.{number_numbered}
use Rattle.checker.specs.declared.check.Verdict.{Verdict}
use Rattle.checker.specs.Small.{SmallVerdict}
use Rattle.checker.proofs.Bounds.{verdict_fits}
use Rattle.board.specs.declared.Board.{Board}
use Rattle.board.specs.Board.{cycles_on, feed_refusal, check_on, feed_answer}
use Rattle.board.proofs.Admission.{feed_most}
use Rattle.board.proofs.Feeds.{answers_checked}

module _ (b : Board) (cycle : ℕ) (words : List ℕ) where
  pub feed_fits : IfOk (feed_answer b cycle words) SmallVerdict
  unfolding feed_answer check_on pick
  feed_fits = go (eqb (feed_refusal b cycle words) 0)
    where
      go : (t : Bool) → IfOk (pick t (check_on b (cycles_on b ++ (cycle ∷ [])) words) (Err (refusal_numbered (feed_refusal b cycle words)))) SmallVerdict
      go true = verdict_fits _ _ _
      go false = tt

  refused≢checked : (e : Refusal) (v : Verdict) → Err e ≡ Ok v → ⊥
  refused≢checked e v is = let z : ◌≡◌ {A = ℕ} 0 1 = cc in omega arith

  -- a refusal has a number, and a verdict has none
  pub said_refused : (e : Refusal) → feed_answer b cycle words ≡ Err e → number_of e ≡ feed_refusal b cycle words
  unfolding feed_answer pick
  said_refused e is =
      elim (test (eqb (feed_refusal b cycle words) 0)) [
        | inl t ↦ absurd (refused≢checked e _ (sym is ∙ answers_checked b cycle words (eqb-true (feed_refusal b cycle words) 0 t)))
        | inr f ↦ number f is
      ]
    where
      number : eqb (feed_refusal b cycle words) 0 ≡ false → feed_answer b cycle words ≡ Err e → number_of e ≡ feed_refusal b cycle words
      number f q =
          let applies = eqb-false (feed_refusal b cycle words) 0 f in
          let same : ◌≡◌ {A = Result Verdict Refusal} (Err (refusal_numbered (feed_refusal b cycle words))) (Err e) = sym (rw f) ∙ q in
          let is : refusal_numbered (feed_refusal b cycle words) ≡ e = cc in
          ap number_of (sym is) ∙ number_numbered (feed_refusal b cycle words) (omega arith) (feed_most b cycle words)

  pub said_checked : (v : Verdict) → feed_answer b cycle words ≡ Ok v → feed_refusal b cycle words ≡ 0
  unfolding feed_answer pick
  said_checked v e =
      elim (test (eqb (feed_refusal b cycle words) 0)) [
        | inl t ↦ eqb-true (feed_refusal b cycle words) 0 t
        | inr f ↦ absurd (refused≢checked (refusal_numbered (feed_refusal b cycle words)) v (sym (rw f) ∙ e))
      ]
