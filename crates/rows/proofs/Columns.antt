-- A column stands for a test of cycles: the rows made from the column are the rows of the test.
use Rattle.std.proofs.Common.{ℕ, suc, ◌+◌, ◌-◌, ◌≤◌, ◌<◌, Bool, not, ◌&&◌, ◌||◌, ◌≡◌, refl, ap, ap₂, arith, leb, eqb}
use Rattle.semantics.specs.Cycles.{some_in, every_from, count_from}
use Rattle.semantics.specs.Proposition.{bit}
use Rattle.semantics.specs.Formula.{Comparison, compared, Symbol, low, high, either, low_stretch, high_stretch, either_stretch, steady, drawn_on}
use Rattle.rows.specs.Row.{row}
use Rattle.semantics.proofs.Cycles.{some_cong, every_cong, count_cong}
use Rattle.rows.proofs.Rows.{row_ext}

-- bit t of the column is p at t, of n cycles
abbrev pub Column : ℕ → ℕ → (ℕ → Bool) → Type 0
Column n column p = (t : ℕ) → t < n → bit column t ≡ p t

drawn_cong : (s : Symbol) (p q : ℕ → Bool) (b e : ℕ) → ((t : ℕ) → b ≤ t → t < suc e → p t ≡ q t) → b ≤ e → drawn_on s p b e ≡ drawn_on s q b e
unfolding drawn_on
drawn_cong low p q b e f l = ap (λ (c : Bool). eqb e (b + 1) && not c) (f b (omega arith) (omega arith))
drawn_cong high p q b e f l = ap (λ (c : Bool). eqb e (b + 1) && c) (f b (omega arith) (omega arith))
drawn_cong either p q b e f l = refl
drawn_cong low_stretch p q b e f l = every_cong b e (λ t. not (p t)) (λ t. not (q t)) (λ t x y. ap not (f t x (omega arith)))
drawn_cong high_stretch p q b e f l = every_cong b e p q (λ t x y. f t x (omega arith))
drawn_cong either_stretch p q b e f l = refl
drawn_cong steady p q b e f l =
    ap₂ (λ (x y : Bool). x || y)
    (every_cong b e (λ t. not (p t)) (λ t. not (q t)) (λ t x y. ap not (f t x (omega arith))))
    (every_cong b e p q (λ t x y. f t x (omega arith)))

-- one column; `end` is the cycle itself for a stretch and a duration, and the next cycle where the last one counts
module _ (n column : ℕ) (p : ℕ → Bool) (f : Column n column p) (b : ℕ) where
  pub point_of : b < n → row n (λ b e. bit column b) b ≡ row n (λ b e. p b) b
  point_of l = row_ext n (λ b e. bit column b) (λ b e. p b) b (λ e x y. f b l)

  pub held_of : (end : ℕ → ℕ) → ((e : ℕ) → e < n → end e ≤ n)
      → row n (λ b e. every_from b (end e) (bit column)) b ≡ row n (λ b e. every_from b (end e) p) b
  held_of end g =
      row_ext n (λ b e. every_from b (end e) (bit column)) (λ b e. every_from b (end e) p) b
      (λ e x y. let m = g e y in every_cong b (end e) (bit column) p (λ t u v. f t (omega arith)))

  pub unit_of : b < n → row n (λ b e. eqb e (b + 1) && bit column b) b ≡ row n (λ b e. eqb e (b + 1) && p b) b
  unit_of l =
      row_ext n (λ b e. eqb e (b + 1) && bit column b) (λ b e. eqb e (b + 1) && p b) b
      (λ e x y. ap (λ (c : Bool). eqb e (b + 1) && c) (f b l))

  pub marked_of : b < n → row n (λ b e. eqb b e && bit column b) b ≡ row n (λ b e. eqb b e && p b) b
  marked_of l =
      row_ext n (λ b e. eqb b e && bit column b) (λ b e. eqb b e && p b) b (λ e x y. ap (λ (c : Bool). eqb b e && c) (f b l))

  pub counted_of : (end : ℕ → ℕ) (c : Comparison) (number : ℕ) → ((e : ℕ) → e < n → end e ≤ n)
      → row n (λ b e. compared c (count_from b (end e) (bit column)) number) b ≡ row n (λ b e. compared c (count_from b (end e) p) number) b
  counted_of end c number g =
      row_ext n (λ b e. compared c (count_from b (end e) (bit column)) number) (λ b e. compared c (count_from b (end e) p) number) b
      (λ e x y.
      let m = g e y in
      ap (λ (k : ℕ). compared c k number) (count_cong b (end e) (bit column) p (λ t u v. f t (omega arith))))

  pub drawn_of : (s : Symbol) → row n (λ b e. drawn_on s (bit column) b e) b ≡ row n (λ b e. drawn_on s p b e) b
  drawn_of s =
      row_ext n (λ b e. drawn_on s (bit column) b e) (λ b e. drawn_on s p b e) b
      (λ e x y. drawn_cong s (bit column) p b e (λ t u v. f t (omega arith)) x)

-- two columns
pub gap_of : (n first second : ℕ) (p q : ℕ → Bool) (f : Column n first p) (g : Column n second q) (least most b : ℕ)
    → row n (λ b e. some_in b e (λ x. bit first x && some_in x e (λ y. bit second y && (leb least (y - x) && leb (y - x) most)))) b
    ≡ row n (λ b e. some_in b e (λ x. p x && some_in x e (λ y. q y && (leb least (y - x) && leb (y - x) most)))) b
gap_of n first second p q f g least most b =
    row_ext n
    (λ b e. some_in b e (λ x. bit first x && some_in x e (λ y. bit second y && (leb least (y - x) && leb (y - x) most))))
    (λ b e. some_in b e (λ x. p x && some_in x e (λ y. q y && (leb least (y - x) && leb (y - x) most))))
    b
    (λ e l m.
    some_cong b (suc e)
    (λ x. bit first x && some_in x e (λ y. bit second y && (leb least (y - x) && leb (y - x) most)))
    (λ x. p x && some_in x e (λ y. q y && (leb least (y - x) && leb (y - x) most)))
    (λ x u v.
    ap₂ (λ (c d : Bool). c && d) (f x (omega arith))
    (some_cong x (suc e)
    (λ y. bit second y && (leb least (y - x) && leb (y - x) most))
    (λ y. q y && (leb least (y - x) && leb (y - x) most))
    (λ y w z. ap (λ (c : Bool). c && (leb least (y - x) && leb (y - x) most)) (g y (omega arith))))))
