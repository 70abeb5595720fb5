-- Classes and lines put one after the other.
use Rattle.std.proofs.Common.{ℕ, zero, suc, ◌+◌, ◌*◌, ◌≤◌, List, [], ◌∷◌, ◌++◌, append-nil, ◌≡◌, refl, ap, ◌∙◌, add-one, arith, length, set, drop, drop_of_length-le, length-append}
use lib.Seq.{sets-eq}
use Rattle.grammar.specs.Class.{bytes_from, bytes_of, class_of, classes_from}
use Rattle.grammar.proofs.Sorted.{classes_more}
use Rattle.lines.specs.Lines.{Put}
use Rattle.lines.proofs.Texts.{put_then}
use Rattle.classfile.specs.File.{opening, closing, line_from, first_lines, table_file}

-- one class more
pub put_class : {x y : List ℕ} {at : ℕ} (b k v : ℕ) → Put x y at (at + k) (classes_from k b) → v ≡ class_of (b + k)
    → Put x (set y (at + k) v) at (at + (k + 1)) (classes_from (k + 1) b)
put_class {x} {y} {at} b k v p e =
    let here : at + k + 1 ≡ at + (k + 1) = omega arith in
    let more = put_then {b = v ∷ []} p (record { bytes = refl; end = refl }) in
    rw e (rw (here, e, classes_more k b) at more)

-- a line has 22 bytes
pub line_long : (b : ℕ) → length (line_from b) ≡ 22
unfolding line_from bytes_of bytes_from classes_from
line_long b = refl

pub lines_long : (n : ℕ) → length (first_lines n) ≡ 22 * n
unfolding first_lines
lines_long zero = refl
lines_long (suc n) = omega (arith, length-append (first_lines n) (line_from (16 * n)), lines_long n, line_long (16 * n))

pub put_line_more : {x y z : List ℕ} {at r e : ℕ} (n : ℕ) → Put x y at r (first_lines n) → Put y z r e (line_from (16 * n))
    → Put x z at e (first_lines (n + 1))
unfolding first_lines
put_line_more n p q = rw add-one (put_then p q)

pub file_long : 588 ≡ length table_file
unfolding opening closing first_lines line_from table_file bytes_of bytes_from classes_from
file_long = refl

-- a text put over all bytes
pub put_all : {x y : List ℕ} {r : ℕ} {text : List ℕ} → Put x y 0 r text → length x ≡ length text → y ≡ text
put_all {x} {y} {r} {text} p e =
    let end : length x ≤ 0 + length text = omega arith in
    let none : drop (0 + length text) x ≡ [] = drop_of_length-le x end in
    p.bytes ∙ sets-eq text x 0 (omega arith) ∙ ap (λ (l : List ℕ). text ++ l) none ∙ append-nil text
