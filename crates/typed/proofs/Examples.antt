-- Sheets as they are typed and as they are stored; the first is document 01's example input.
use Rattle.std.proofs.Common.{ℕ, List, [], ◌∷◌, ◌≡◌, refl}
use Rattle.semantics.specs.Formula.{at_most}
use Rattle.stored.specs.Reach.{joint, name_mask}
use Rattle.stored.specs.Written.{node_bytes, header_bytes}
use Rattle.grammar.specs.Tree.{OrP, one_p, or_p, unit_p, and_p, UnitP, signalP, nameP, not_p, OrF, one_f, chain_f, unit_f, chop_f, UnitF, pointF, stretchF, draw_f, gap_f, starF, slen_f, TypedPart, anti_c, follows_c, assume_l, require_l, TypedSheet}
use Rattle.typed.specs.Meaning.{parts_of}
use Rattle.typed.specs.Draft.{added, last, put, put_over, put_joined, put_or_p, put_and_p, put_unit_p, comparison_number, in_byte, put_or_f, put_and_f, put_chop_f, put_unit_f, clause_bytes, put_clause, mask_of, put_part, put_parts, roots_of, part_mask, type_number, fields_of, put_typed, put_line, put_lines, empty, sketch_of, too_many, sheet_bytes, typed_bytes}

unfoldable computing : ℕ
unfolding joint name_mask node_bytes added last put put_over put_joined put_or_p put_and_p put_unit_p comparison_number in_byte put_or_f put_and_f put_chop_f put_unit_f clause_bytes put_clause mask_of put_part parts_of put_parts roots_of part_mask type_number fields_of put_typed put_line put_lines empty sketch_of too_many header_bytes sheet_bytes typed_bytes
computing = 0

-- a proposition and a formula of one piece
abbrev single : UnitP → OrP
single p = one_p (unit_p p)

abbrev alone : UnitF → OrF
alone f = one_f (chain_f (unit_f f))

abbrev part : OrF → List ℕ → TypedPart
part f names = record { formula = f; names = names }

-- 1 0
-- require anti(<s0>:)
abbrev first : TypedSheet
first = record { signals = 1; names = 0; lines = require_l (anti_c (part (alone (pointF (single (signalP 0)))) [])) ∷ [] }

first_stored : typed_bytes first
    ≡ 0 ∷ 30 ∷ 1 ∷ 1 ∷ 1 ∷ 0 ∷ 0 ∷ 2 ∷ 1
    ∷ 3 ∷ 0 ∷ 0 ∷ 0 ∷ 0 ∷ 0
    ∷ 16 ∷ 0 ∷ 0 ∷ 0 ∷ 0 ∷ 0
    ∷ 3 ∷ 1 ∷ 0 ∷ 1 ∷ 0 ∷ 0 ∷ 0 ∷ 0 ∷ 0 ∷ 0 ∷ 0 ∷ []
unfolding computing
first_stored = refl

-- 2 300
-- assume follows([s0 | !s1 & u0] ^ slen <= 700 : u0, (draw(300, s1))* : u1 u2, gap(u2, u1, 1, 2) : )
abbrev second : TypedSheet
second =
    record {
      signals = 2;
      names = 300;
      lines =
          assume_l
          (follows_c
          (part
          (one_f
          (chain_f
          (chop_f
          (unit_f (stretchF (or_p (single (signalP 0)) (and_p (unit_p (not_p (signalP 1))) (nameP 0)))))
          (slen_f at_most 700))))
          (0 ∷ []))
          (part (alone (starF (alone (draw_f 300 1)))) (1 ∷ 2 ∷ []))
          (part (alone (gap_f 2 1 1 2)) []))
          ∷ [];
    }

second_stored : typed_bytes second
    ≡ 0 ∷ 90 ∷ 1 ∷ 1 ∷ 2 ∷ 255 ∷ 0 ∷ 12 ∷ 1
    ∷ 3 ∷ 0 ∷ 0 ∷ 0 ∷ 0 ∷ 0
    ∷ 3 ∷ 0 ∷ 0 ∷ 1 ∷ 0 ∷ 0
    ∷ 5 ∷ 0 ∷ 0 ∷ 1 ∷ 0 ∷ 0
    ∷ 4 ∷ 0 ∷ 0 ∷ 0 ∷ 0 ∷ 0
    ∷ 6 ∷ 0 ∷ 0 ∷ 2 ∷ 0 ∷ 3
    ∷ 7 ∷ 0 ∷ 0 ∷ 0 ∷ 0 ∷ 4
    ∷ 17 ∷ 0 ∷ 0 ∷ 5 ∷ 0 ∷ 0
    ∷ 24 ∷ 1 ∷ 0 ∷ 0 ∷ 2 ∷ 188
    ∷ 20 ∷ 0 ∷ 0 ∷ 6 ∷ 0 ∷ 7
    ∷ 27 ∷ 255 ∷ 0 ∷ 1 ∷ 0 ∷ 0
    ∷ 23 ∷ 0 ∷ 0 ∷ 9 ∷ 0 ∷ 0
    ∷ 29 ∷ 33 ∷ 0 ∷ 1 ∷ 0 ∷ 2
    ∷ 5 ∷ 0 ∷ 0 ∷ 8 ∷ 0 ∷ 10 ∷ 0 ∷ 11 ∷ 1 ∷ 6 ∷ 0 ∷ []
unfolding computing
second_stored = refl
