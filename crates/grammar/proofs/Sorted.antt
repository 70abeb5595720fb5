-- The classes of bytes in order, and the table of all 256.
use Rattle.std.proofs.Common.{ℕ, zero, suc, ◌+◌, ◌<◌, Bool, cond, List, [], ◌∷◌, ◌++◌, ◌≡◌, refl, ap, ◌∙◌, arith, length, get_or}
use Rattle.grammar.specs.Spelled.{is_among}
use Rattle.grammar.specs.Token.{is_blank, is_digit, is_line_end}
use Rattle.grammar.specs.Class.{letter_class, digit_class, blank_class, bracket_class, joiner_class, line_end_class, other_class, bytes_from, bytes_of, is_letter, is_bracket, is_joiner, class_of, classes_from, class_table}

-- what the class of a given byte is computed by
unfoldable pub sorting : ℕ
unfolding is_letter is_digit is_blank is_bracket is_joiner is_line_end is_among bytes_from bytes_of class_of
sorting = 0

-- the class that the six tests give, asked in this order
abbrev pub given : Bool → Bool → Bool → Bool → Bool → Bool → ℕ
given letter digit blank bracket joiner end =
    cond letter letter_class (cond digit digit_class (cond blank blank_class (cond bracket bracket_class (cond joiner joiner_class (cond end line_end_class other_class)))))

pub class_given : (b : ℕ) {l d k r j e : Bool} → is_letter b ≡ l → is_digit b ≡ d → is_blank b ≡ k → is_bracket b ≡ r → is_joiner b ≡ j → is_line_end b ≡ e
    → given l d k r j e ≡ class_of b
unfolding class_of
class_given b letter digit blank bracket joiner end = rw (letter, digit, blank, bracket, joiner, end)

pub classes_long : (n b : ℕ) → length (classes_from n b) ≡ n
unfolding classes_from
classes_long zero b = refl
classes_long (suc n) b = ap suc (classes_long n (suc b))

-- one class more
pub classes_more : (n b : ℕ) → classes_from n b ++ class_of (b + n) ∷ [] ≡ classes_from (n + 1) b
unfolding classes_from
classes_more zero b = let e : b + 0 ≡ b = omega arith in rw e
classes_more (suc n) b =
    let e : b + suc n ≡ suc b + n = omega arith in
    let f : suc n + 1 ≡ suc (n + 1) = omega arith in
    rw (e, f) (ap (λ (l : List ℕ). class_of b ∷ l) (classes_more n (suc b)))

classes_at : (n b k : ℕ) → k < n → get_or (classes_from n b) k 0 ≡ class_of (b + k)
unfolding classes_from
classes_at zero b k h = absurd (omega arith)
classes_at (suc n) b zero h = let e : b ≡ b + 0 = omega arith in ap class_of e
classes_at (suc n) b (suc k) h = let e : suc b + k ≡ b + suc k = omega arith in classes_at n (suc b) k (omega arith) ∙ ap class_of e

pub table_long : length class_table ≡ 256
unfolding class_table
table_long = classes_long 256 0

-- the rule: entry k of the table is the class of byte k
pub class_at : (k : ℕ) → k < 256 → get_or class_table k 0 ≡ class_of k
unfolding class_table
class_at k h = let e : 0 + k ≡ k = omega arith in classes_at 256 0 k h ∙ ap class_of e
