-- Texts read by the definitions.
use Rattle.std.proofs.Common.{ℕ, true, false, List, [], ◌∷◌, ◌≡◌, refl, replicate}
use mathlib.Core.Option.{none, some}
use Rattle.semantics.specs.Formula.{at_most}
use Rattle.grammar.specs.Token.{is_blank, is_digit, begins, spelling_of, digits, number_from, numbered, tokens_past, tokens}
use Rattle.grammar.specs.Tree.{one_p, unit_p, and_p, signalP, nameP, not_p, OrF, one_f, or_f, chain_f, unit_f, chop_f, pointF, stretchF, slen_f, starF, pref_c, require_l, TypedSheet}
use Rattle.grammar.specs.Spelled.{is_among}
use Rattle.grammar.specs.Brackets.{open_after, deeper, too_deep}
use Rattle.grammar.specs.Reader.{parse}
use Rattle.grammar.proofs.Said.{computing}

unfoldable reading : ℕ
unfolding computing is_blank is_digit begins spelling_of digits number_from numbered tokens_past tokens is_among
reading = 0

-- 2 1
-- require pref([s0]^(<!s1&u0>)*|slen<=07:u0)
abbrev text : List ℕ
text =
    50 ∷ 32 ∷ 49 ∷ 10
    ∷ 114 ∷ 101 ∷ 113 ∷ 117 ∷ 105 ∷ 114 ∷ 101 ∷ 32 ∷ 112 ∷ 114 ∷ 101 ∷ 102 ∷ 40
    ∷ 91 ∷ 115 ∷ 48 ∷ 93 ∷ 94 ∷ 40 ∷ 60 ∷ 33 ∷ 115 ∷ 49 ∷ 38 ∷ 117 ∷ 48 ∷ 62 ∷ 41 ∷ 42
    ∷ 124 ∷ 115 ∷ 108 ∷ 101 ∷ 110 ∷ 60 ∷ 61 ∷ 48 ∷ 55
    ∷ 58 ∷ 117 ∷ 48 ∷ 41 ∷ 10 ∷ []

abbrev formula : OrF
formula =
    or_f
    (one_f (chain_f (chop_f
    (unit_f (stretchF (one_p (unit_p (signalP 0)))))
    (starF (one_f (chain_f (unit_f (pointF (one_p (and_p (unit_p (not_p (signalP 1))) (nameP 0)))))))))))
    (chain_f (unit_f (slen_f at_most 7)))

abbrev sheet : TypedSheet
sheet = record { signals = 2; names = 1; lines = require_l (pref_c (record { formula = formula; names = 0 ∷ [] })) ∷ [] }

example_read : parse 32 (tokens text) ≡ some sheet
unfolding reading
example_read = refl

-- two round brackets are open at a place of it
example_refused : parse 1 (tokens text) ≡ none
unfolding reading
example_refused = refl

-- a name twice: pref([s0]:u0u0)
name_twice : parse 32 (tokens (50 ∷ 32 ∷ 49 ∷ 10
    ∷ 114 ∷ 101 ∷ 113 ∷ 117 ∷ 105 ∷ 114 ∷ 101 ∷ 32 ∷ 112 ∷ 114 ∷ 101 ∷ 102 ∷ 40
    ∷ 91 ∷ 115 ∷ 48 ∷ 93 ∷ 58 ∷ 117 ∷ 48 ∷ 117 ∷ 48 ∷ 41 ∷ 10 ∷ [])) ≡ none
unfolding reading
name_twice = refl

-- a star without brackets: pref([s0]*:)
bare_star : parse 32 (tokens (50 ∷ 32 ∷ 49 ∷ 10
    ∷ 114 ∷ 101 ∷ 113 ∷ 117 ∷ 105 ∷ 114 ∷ 101 ∷ 32 ∷ 112 ∷ 114 ∷ 101 ∷ 102 ∷ 40
    ∷ 91 ∷ 115 ∷ 48 ∷ 93 ∷ 42 ∷ 58 ∷ 41 ∷ 10 ∷ [])) ≡ none
unfolding reading
bare_star = refl

-- no byte 10 at the end: pref([s0]:)
no_line_end : parse 32 (tokens (50 ∷ 32 ∷ 49 ∷ 10
    ∷ 114 ∷ 101 ∷ 113 ∷ 117 ∷ 105 ∷ 114 ∷ 101 ∷ 32 ∷ 112 ∷ 114 ∷ 101 ∷ 102 ∷ 40
    ∷ 91 ∷ 115 ∷ 48 ∷ 93 ∷ 58 ∷ 41 ∷ [])) ≡ none
unfolding reading
no_line_end = refl

-- stray closing brackets, then 32 opening ones, then one more
deep_enough : too_deep (41 ∷ 41 ∷ replicate 32 40) ≡ false
unfolding too_deep deeper open_after
deep_enough = refl

one_deeper : too_deep (41 ∷ 41 ∷ replicate 33 40) ≡ true
unfolding too_deep deeper open_after
one_deeper = refl
