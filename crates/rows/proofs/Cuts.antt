-- Laws of what a search asks of a row.
use Rattle.std.proofs.Common.{ℕ, suc, ◌^◌, ◌≤◌, ◌<◌, Bool, not, ◌&&◌, ◌≡◌, sym, ap, ap₂, ◌∙◌, lt_of_le_of_lt, arith, bit_and}
use lib.Bits.{and_le_l}
use Rattle.semantics.specs.Cycles.{some_below, some_from}
use Rattle.semantics.specs.Proposition.{bit}
use Rattle.rows.specs.Row.{word, row, shortest_of}
use Rattle.semantics.proofs.Tests.{same, both, and_left, and_right}
use Rattle.semantics.proofs.Cycles.{below_intro, below_elim, some_intro, some_elim}
use Rattle.rows.proofs.Bits.{bit_and_lem}
use Rattle.rows.proofs.Rows.{word_small, word_bit, is_word_lem, set_intro, set_elim, is_row, row_at_lem}

pub shortest_is : (set : ℕ) → set < 2 ^ 64 → bit_and set (word 64 (λ e. not (some_below e (bit set)))) ≡ shortest_of set
unfolding shortest_of
shortest_is set h =
    is_word_lem 64 (bit_and set (word 64 (λ e. not (some_below e (bit set))))) (λ e. bit set e && not (some_below e (bit set)))
    (lt_of_le_of_lt (and_le_l set (word 64 (λ e. not (some_below e (bit set))))) h)
    (λ e m. bit_and_lem set (word 64 (λ e. not (some_below e (bit set)))) e
    ∙ ap (λ (x : Bool). bit set e && x) (word_bit 64 (λ e. not (some_below e (bit set))) e m))

-- some cycle of row b below e, as a test of the intervals from b
pub row_some : (n : ℕ) (h : ℕ → ℕ → Bool) (b e : ℕ) → e ≤ n → some_below e (bit (row n h b)) ≡ some_from b e (h b)
row_some n h b e l =
    same (some_below e (bit (row n h b))) (some_from b e (h b))
    (λ t.
    let f = below_elim e (bit (row n h b)) t in
    let s = set_elim n h b f.at f.ok in
    some_intro b e (h b) f.at s.low f.high s.ok)
    (λ t.
    let f = some_elim b e (h b) t in
    let x = f.high in
    below_intro e (bit (row n h b)) f.at f.high
    (set_intro n h b f.at (record { low = f.low; high = omega arith; ok = f.ok })))

-- document 01's Ξ: the test holds on [b,e] and on no shorter [b,z]
pub shortest_row : (n : ℕ) (h : ℕ → ℕ → Bool) (b : ℕ) → n ≤ 64
    → shortest_of (row n h b) ≡ row n (λ b e. h b e && not (some_from b e (h b))) b
unfolding shortest_of
shortest_row n h b l =
    is_row 64 n (word 64 (λ e. bit (row n h b) e && not (some_below e (bit (row n h b))))) (λ b e. h b e && not (some_from b e (h b))) b l
    (word_small 64 (λ e. bit (row n h b) e && not (some_below e (bit (row n h b)))))
    (λ e m t.
    let all = sym (word_bit 64 (λ e. bit (row n h b) e && not (some_below e (bit (row n h b)))) e m) ∙ t in
    let s = set_elim n h b e (and_left (bit (row n h b) e) (not (some_below e (bit (row n h b)))) all) in
    let x = s.high in
    record {
      low = s.low;
      high = s.high;
      ok = both s.ok (ap not (sym (row_some n h b e (omega arith))) ∙ and_right (bit (row n h b) e) (not (some_below e (bit (row n h b)))) all);
    })
    (λ e s.
    let x = s.high in
    word_bit 64 (λ e. bit (row n h b) e && not (some_below e (bit (row n h b)))) e (omega arith)
    ∙ ap₂ (λ (y z : Bool). y && not z) (row_at_lem n h b e s.low s.high) (row_some n h b e (omega arith)) ∙ s.ok)

-- bit k of the cycles before the least
pub before_bit : (set k : ℕ) → k < 64 → bit (word 64 (λ e. not (some_below (suc e) (bit set)))) k ≡ not (some_below (suc k) (bit set))
before_bit set k l = word_bit 64 (λ e. not (some_below (suc e) (bit set))) k l
