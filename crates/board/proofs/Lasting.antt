-- Request 7, of a board: what is broken on a board stays broken on it.
use Rattle.std.proofs.Common.{ℕ, ◌<◌, true, List, [], ◌∷◌, ◌++◌, ◌≡◌, refl, sym, ◌∙◌, ap, ap₂, subst, arith, length, Some}
use Rattle.semantics.specs.Clause.{fails}
use Rattle.semantics.specs.Verdict as semantics
use Rattle.semantics.specs.Verdict.{verdict}
use Rattle.semantics.specs.Lasting.{Lasting}
use Rattle.semantics.proofs.Longer.{fails_longer}
use Rattle.semantics.proofs.Lasting.{verdict_longer}
use Rattle.stored.specs.Sheet.{clauses_of}
use Rattle.checker.specs.Check as check
use Rattle.checker.specs.Check.{told_whole}
use Rattle.lines.specs.Input.{sheet_of}
use Rattle.board.specs.declared.Board.{Board}
use Rattle.board.specs.Board.{Sized, sheet_on, cycles_on, next_board}
use Rattle.board.specs.Feeds.{Feed, board_after, taken_from, verdict_on, Shows, Told}
use Rattle.board.specs.Lasting.{meant, meant_whole, LastingShown, Unhealed}
use Rattle.board.proofs.Feeds.{after_append, sized_after, told}

meant_told : (f : semantics.Finding) → meant (check.told f) ≡ f
unfolding meant check.told
meant_told (semantics.Excused clause) = refl
meant_told (semantics.Broken p) = refl
meant_told semantics.Holds = refl

meant_whole_lem : (v : semantics.Verdict) → meant_whole (told_whole v) ≡ v
unfolding meant_whole told_whole
meant_whole_lem v = ap (λ (f : semantics.Finding). record { finding = f; advice = v.advice }) (meant_told v.finding)

-- where both boards show a verdict
shown_lasting : (b r : Board) (v w : semantics.Verdict) → b.verdict ≡ Some (told_whole v) → r.verdict ≡ Some (told_whole w) → Lasting v w
    → LastingShown b.verdict r.verdict
shown_lasting b r v w eb er lasts = rw (eb, er, meant_whole_lem v, meant_whole_lem w) lasts

module _ (b : Board) (feeds : List Feed) (r : Board) (tells : Told b feeds r) where
  -- a board that shows its verdict goes on showing it
  still_shows : Shows b → Shows r
  still_shows shows = go (taken_from b feeds) refl
    where
      go : (taken : List ℕ) → taken_from b feeds ≡ taken → Shows r
      go [] e = subst Shows (sym (tells.none e)) shows
      go (x ∷ taken) e = tells.some (subst (λ (l : List ℕ). 0 < length l) (sym e) (omega arith))

  -- on the same sheet, and on more cycles
  verdict_then : verdict_on r ≡ told_whole (verdict (clauses_of (sheet_on b)) (cycles_on b ++ taken_from b feeds))
  unfolding verdict_on sheet_on
  verdict_then = ap₂ (λ (bytes ws : List ℕ). told_whole (verdict (clauses_of (sheet_of bytes)) ws)) tells.sheet tells.cycles

  pub unhealed : Unhealed b r
  unfolding verdict_on
  unhealed =
      record {
        clauses = λ c h. subst (λ (ws : List ℕ). fails c ws ≡ true) (sym tells.cycles) (fails_longer (cycles_on b) (taken_from b feeds) c h);
        verdict = λ shows.
            shown_lasting b r _ _ shows.given ((still_shows shows).given ∙ ap Some verdict_then)
            (verdict_longer (cycles_on b) (taken_from b feeds) (clauses_of (sheet_on b)));
      }

-- the board after one feed
pub unhealed_as : (b : Board) → Sized b → (cycle : ℕ) (words : List ℕ) (r : Board) → r ≡ next_board b cycle words → Unhealed b r
unfolding board_after
unhealed_as b sized cycle words r e =
    let f : Feed = record { cycle = cycle; words = words } in
    subst (Unhealed b) (sym e) (unhealed b (f ∷ []) (next_board b cycle words) (told b sized (f ∷ [])))

-- the claim: over every list of feeds of any board, and every longer one
pub never_heals : (b : Board) → Sized b → (feeds more : List Feed) → Unhealed (board_after b feeds) (board_after b (feeds ++ more))
never_heals b sized feeds more =
    subst (Unhealed (board_after b feeds)) (sym (after_append b feeds more))
    (unhealed (board_after b feeds) more (board_after (board_after b feeds) more) (told (board_after b feeds) (sized_after b feeds sized) more))

-- where one of the first feeds was taken, the verdict shown after them lasts
pub shown_lasts : (b : Board) → Sized b → (feeds more : List Feed) → 0 < length (taken_from b feeds)
    → LastingShown (board_after b feeds).verdict (board_after b (feeds ++ more)).verdict
shown_lasts b sized feeds more some = (never_heals b sized feeds more).verdict ((told b sized feeds).some some)
