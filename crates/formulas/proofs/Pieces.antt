-- The pieces of a formula that have no formula in them.
use Rattle.std.proofs.Common.{ℕ, zero, suc, ◌+◌, ◌-◌, ◌*◌, ◌≤◌, ◌<◌, arith, List, inl, ◌≡◌, refl, sym, ap, ◌∙◌, length}
use Rattle.semantics.specs.Formula.{Comparison}
use Rattle.stored.specs.Tree.{comparison_of}
use Rattle.grammar.specs.Token.{plain, number, named, signalled, close_round, comma_sign}
use Rattle.grammar.specs.Tree.{OrP, slen_f, draw_f}
use Rattle.grammar.specs.Reader.{State, sign, a_number, a_name, a_signal, a_comparison}
use Rattle.typed.specs.Draft.{Draft, last, node, put, put_over, comparison_number, in_byte, put_or_p, put_unit_f}
use Rattle.propositions.specs.declared.leaf.Leaf.{Leaf}
use Rattle.propositions.specs.declared.nodes.Nodes.{Nodes}
use Rattle.propositions.specs.Lexemes.{Opens}
use Rattle.propositions.specs.Nodes.{so_far, NodePut}
use Rattle.propositions.specs.Reads.{comparison_token, Comes, Stuck, Outside, Took, Then, next, after, before_p}
use Rattle.propositions.specs.Propositions.{about_bracket_p}
use Rattle.formulas.specs.Pieces.{about_bounded, put_bounded, about_slen, put_slen, about_counted, put_counted, about_draw, put_draw, about_at, put_at, about_gap, put_gap}
use Rattle.propositions.proofs.Steps.{sign_run, comma_run, close_back, number_run, name_run, signal_run, comparison_run}
use Rattle.propositions.proofs.Went.{Went, went_none, went_leaf, further, went_open, went_at, went_took, fails_leaf, took_put, took_alone}

-- a comparison by its number, and back
pub compared : (q : ℕ) → q ≤ 4 → comparison_number (comparison_of q) ≡ q
unfolding comparison_number comparison_of
compared zero h = refl
compared (suc zero) h = refl
compared (suc (suc zero)) h = refl
compared (suc (suc (suc zero))) h = refl
compared (suc (suc (suc (suc zero)))) h = refl
compared (suc (suc (suc (suc (suc q))))) h = absurd (omega arith)

pub slen_same : (q n : ℕ) (d : Draft) → q ≤ 4 → put (node 24 q 0 n) d ≡ put_unit_f (slen_f (comparison_of q) n) d
unfolding put_unit_f
slen_same q n d h = rw (compared q h)

pub draw_same : (q i b : ℕ) (d : Draft) → b ≡ in_byte q → put (node 27 b i 0) d ≡ put_unit_f (draw_f q i) d
unfolding put_unit_f
draw_same q i b d e = rw e

-- <a> and its like: a proposition, its closing sign and its node
abbrev closing : {close : ℕ} → close < 30 → (OrP → State) → Then OrP
closing {close} h k = record { wanted = close; closing = inl h; onto = k }

module _ {close depth : ℕ} {text : List ℕ} {at : ℕ} (h : close < 30) where
  pub bounded_none : Outside before_p depth text at → Outside (about_bounded close) depth text at
  bounded_none out = record { fails = λ k. out.fails (closing h k) }

  module _ {x z : Nodes} {inner : ℕ} (t : Took before_p after put_or_p depth text at x z inner) where
    w₁ : Went (about_bounded close) depth text at depth inner (λ k. sign close (k t.tree))
    w₁ = went_at (closing h) (went_took t)

    pub bounded_unclosed : Stuck (sign close) text inner → Outside (about_bounded close) depth text at
    bounded_unclosed never = fails_leaf (λ k. k t.tree) w₁ never

    pub bounded_took : {op end : ℕ} {y : Nodes} → (close ≡ 22 → ⊥) → (close ≡ 23 → ⊥) → Comes (plain close) text inner end
        → NodePut (node op 0 (z.count - 1) 0) z y
        → Took (about_bounded close) next (put_bounded op) depth text at x y end
    unfolding put_over last
    bounded_took {op = op} h₁ h₂ leaf p =
        let a = t.more in
        let b = t.taken in
        let c = leaf.onward in
        took_put t.tree (went_leaf depth (λ k. k t.tree) w₁ leaf (λ k ts. sign_run close depth _ ts h₁ h₂)) p
        (ap (put_over op 0 0) t.drafted) (omega arith) (omega arith) (further w₁ leaf)

-- slen: a comparison and a number
module _ {text : List ℕ} {at : ℕ} (depth : ℕ) (inside : at ≤ length text) where
  module _ (cmp : Leaf) (leaf₁ : Comes (comparison_token cmp.value) text at cmp.at) where
    compared_went : Went about_slen depth text at depth cmp.at (λ k. a_number (λ n. k (comparison_of cmp.value, n)))
    compared_went =
        went_leaf depth (λ k. a_number (λ n. k (comparison_of cmp.value, n))) (went_none about_slen depth text at inside) leaf₁
        (λ k ts. comparison_run depth (comparison_of cmp.value) _ ts)

    pub slen_unended : Stuck a_number text cmp.at → Outside about_slen depth text at
    slen_unended never = fails_leaf (λ k n. k (comparison_of cmp.value, n)) compared_went never

    pub slen_took : {end : Leaf} {x y : Nodes} → cmp.value ≤ 4 → Comes (number end.value) text cmp.at end.at
        → NodePut (node 24 cmp.value 0 end.value) x y
        → Took about_slen next put_slen depth text at x y end.at
    slen_took {end} {x} known leaf₂ p =
        let c = comparison_of cmp.value in
        let n = end.value in
        took_alone (c, n) (went_leaf depth (λ k. k (c, n)) compared_went leaf₂ (λ k ts. number_run depth n _ ts)) p
        (slen_same cmp.value n (so_far x) known) (further compared_went leaf₂)

-- scount and sdur: in brackets a proposition, then a comparison and a number
abbrev counted_onto : (OrP × Comparison × ℕ → State) → OrP → State
counted_onto k p = a_comparison (λ c. a_number (λ n. k (p, c, n)))

module _ {depth : ℕ} {text : List ℕ} {at : ℕ} where
  module _ {x z : Nodes} {inner : ℕ} (t : Took about_bracket_p next put_or_p depth text at x z inner) where
    inner_went : Went about_counted depth text at depth inner (λ k. counted_onto k t.tree)
    inner_went = went_at counted_onto (went_took t)

    module _ (cmp : Leaf) (leaf₁ : Comes (comparison_token cmp.value) text inner cmp.at) where
      number_went : Went about_counted depth text at depth cmp.at (λ k. a_number (λ n. k (t.tree, comparison_of cmp.value, n)))
      number_went =
          went_leaf depth (λ k. a_number (λ n. k (t.tree, comparison_of cmp.value, n))) inner_went leaf₁
          (λ k ts. comparison_run depth (comparison_of cmp.value) _ ts)

      pub counted_unended : Stuck a_number text cmp.at → Outside about_counted depth text at
      counted_unended never = fails_leaf (λ k n. k (t.tree, comparison_of cmp.value, n)) number_went never

      pub counted_took : {op : ℕ} {end : Leaf} {y : Nodes} → cmp.value ≤ 4 → Comes (number end.value) text cmp.at end.at
          → NodePut (node op cmp.value (z.count - 1) end.value) z y
          → Took about_counted next (put_counted op) depth text at x y end.at
      unfolding put_over last
      counted_took {op} {end} known leaf₂ p =
          let c = comparison_of cmp.value in
          let n = end.value in
          let a = t.more in
          let b = t.taken in
          let i = t.onward in
          let d₁ = leaf₁.onward in
          let d₂ = leaf₂.onward in
          took_put (t.tree, c, n) (went_leaf depth (λ k. k (t.tree, c, n)) number_went leaf₂ (λ k ts. number_run depth n _ ts)) p
          (ap (put_over op cmp.value n) t.drafted
          ∙ ap (λ q. put_over op q n (put_or_p t.tree (so_far x))) (sym (compared cmp.value known)))
          (omega arith) (omega arith) (omega arith)

-- draw: a number and a signal
-- what is still to come of it
abbrev draw_end : ℕ → (ℕ × ℕ → State) → ℕ → State
draw_end q k i = sign close_round (k (q, i))

abbrev draw_signal : (ℕ × ℕ → State) → ℕ → State
draw_signal k q = sign comma_sign (a_signal (draw_end q k))

module _ {depth : ℕ} {text : List ℕ} {at : ℕ} where
  module _ {opening : ℕ} (opens : Opens text at depth opening) where
    draw₀ : Went about_draw depth text at (depth - 1) opening (λ k. a_number (draw_signal k))
    draw₀ = went_open (λ k. a_number (draw_signal k)) opens

    module _ {symbol : Leaf} (leaf₁ : Comes (number symbol.value) text opening symbol.at) where
      draw₁ : Went about_draw depth text at (depth - 1) symbol.at (λ k. sign comma_sign (a_signal (draw_end symbol.value k)))
      draw₁ =
          went_leaf (depth - 1) (λ k. draw_signal k symbol.value) draw₀ leaf₁
          (λ k ts. number_run (depth - 1) symbol.value (draw_signal k) ts)

      pub draw_no_comma : Stuck (sign comma_sign) text symbol.at → Outside about_draw depth text at
      draw_no_comma never = fails_leaf (λ k. a_signal (draw_end symbol.value k)) draw₁ never

      module _ {comma : ℕ} (leaf₂ : Comes (plain comma_sign) text symbol.at comma) where
        draw₂ : Went about_draw depth text at (depth - 1) comma (λ k. a_signal (draw_end symbol.value k))
        draw₂ =
            went_leaf (depth - 1) (λ k. a_signal (draw_end symbol.value k)) draw₁ leaf₂
            (λ k ts. comma_run (depth - 1) (a_signal (draw_end symbol.value k)) ts)

        pub draw_no_signal : Stuck a_signal text comma → Outside about_draw depth text at
        draw_no_signal never = fails_leaf (draw_end symbol.value) draw₂ never

        module _ {signal : Leaf} (leaf₃ : Comes (signalled signal.value) text comma signal.at) where
          draw₃ : Went about_draw depth text at (depth - 1) signal.at (λ k. sign close_round (k (symbol.value, signal.value)))
          draw₃ =
              went_leaf (depth - 1) (λ k. draw_end symbol.value k signal.value) draw₂ leaf₃
              (λ k ts. signal_run (depth - 1) signal.value (draw_end symbol.value k) ts)

          pub draw_unclosed : Stuck (sign close_round) text signal.at → Outside about_draw depth text at
          draw_unclosed never = fails_leaf (λ k. k (symbol.value, signal.value)) draw₃ never

          pub draw_took : {end b : ℕ} {x y : Nodes} → Comes (plain close_round) text signal.at end
              → b ≡ in_byte symbol.value → NodePut (node 27 b signal.value 0) x y
              → Took about_draw next put_draw depth text at x y end
          draw_took {b = b} {x = x} leaf₄ byte p =
              let t : ℕ × ℕ = (symbol.value, signal.value) in
              took_alone t
              (went_leaf depth (λ k. k t) draw₃ leaf₄ (λ k ts. close_back depth (k t) ts opens.roomy)) p
              (draw_same symbol.value signal.value b (so_far x) byte) (further draw₃ leaf₄)

-- at: a name
module _ {depth : ℕ} {text : List ℕ} {at : ℕ} where
  module _ {opening : ℕ} (opens : Opens text at depth opening) where
    at₀ : Went about_at depth text at (depth - 1) opening (λ k. a_name (λ u. sign close_round (k u)))
    at₀ = went_open (λ k. a_name (λ u. sign close_round (k u))) opens

    module _ {name : Leaf} (leaf₁ : Comes (named name.value) text opening name.at) where
      at₁ : Went about_at depth text at (depth - 1) name.at (λ k. sign close_round (k name.value))
      at₁ =
          went_leaf (depth - 1) (λ k. sign close_round (k name.value)) at₀ leaf₁
          (λ k ts. name_run (depth - 1) name.value (λ u. sign close_round (k u)) ts)

      pub at_unclosed : Stuck (sign close_round) text name.at → Outside about_at depth text at
      at_unclosed never = fails_leaf (λ k. k name.value) at₁ never

      pub at_took : {end : ℕ} {x y : Nodes} → Comes (plain close_round) text name.at end
          → NodePut (node 28 0 name.value 0) x y
          → Took about_at next put_at depth text at x y end
      unfolding put_unit_f
      at_took leaf₂ p =
          took_alone name.value
          (went_leaf depth (λ k. k name.value) at₁ leaf₂ (λ k ts. close_back depth (k name.value) ts opens.roomy)) p refl (further at₁ leaf₂)

-- gap: two names and two numbers
-- what is still to come of it
abbrev gap_most : ℕ → ℕ → ℕ → (ℕ × ℕ × ℕ × ℕ → State) → ℕ → State
gap_most u v a k b = sign close_round (k (u, v, a, b))

abbrev gap_least : ℕ → ℕ → (ℕ × ℕ × ℕ × ℕ → State) → ℕ → State
gap_least u v k a = sign comma_sign (a_number (gap_most u v a k))

abbrev gap_second : ℕ → (ℕ × ℕ × ℕ × ℕ → State) → ℕ → State
gap_second u k v = sign comma_sign (a_number (gap_least u v k))

abbrev gap_first : (ℕ × ℕ × ℕ × ℕ → State) → ℕ → State
gap_first k u = sign comma_sign (a_name (gap_second u k))

module _ {depth : ℕ} {text : List ℕ} {at : ℕ} where
  module _ {opening : ℕ} (opens : Opens text at depth opening) where
    gap₀ : Went about_gap depth text at (depth - 1) opening (λ k. a_name (gap_first k))
    gap₀ = went_open (λ k. a_name (gap_first k)) opens

    module _ {first : Leaf} (leaf₁ : Comes (named first.value) text opening first.at) where
      gap₁ : Went about_gap depth text at (depth - 1) first.at (λ k. sign comma_sign (a_name (gap_second first.value k)))
      gap₁ =
          went_leaf (depth - 1) (λ k. gap_first k first.value) gap₀ leaf₁
          (λ k ts. name_run (depth - 1) first.value (gap_first k) ts)

      pub gap_no_comma₁ : Stuck (sign comma_sign) text first.at → Outside about_gap depth text at
      gap_no_comma₁ never = fails_leaf (λ k. a_name (gap_second first.value k)) gap₁ never

      module _ {comma₁ : ℕ} (leaf₂ : Comes (plain comma_sign) text first.at comma₁) where
        gap₂ : Went about_gap depth text at (depth - 1) comma₁ (λ k. a_name (gap_second first.value k))
        gap₂ =
            went_leaf (depth - 1) (λ k. a_name (gap_second first.value k)) gap₁ leaf₂
            (λ k ts. comma_run (depth - 1) (a_name (gap_second first.value k)) ts)

        pub gap_no_second : Stuck a_name text comma₁ → Outside about_gap depth text at
        gap_no_second never = fails_leaf (gap_second first.value) gap₂ never

        module _ {second : Leaf} (leaf₃ : Comes (named second.value) text comma₁ second.at) where
          gap₃ : Went about_gap depth text at (depth - 1) second.at
              (λ k. sign comma_sign (a_number (gap_least first.value second.value k)))
          gap₃ =
              went_leaf (depth - 1) (λ k. gap_second first.value k second.value) gap₂ leaf₃
              (λ k ts. name_run (depth - 1) second.value (gap_second first.value k) ts)

          pub gap_no_comma₂ : Stuck (sign comma_sign) text second.at → Outside about_gap depth text at
          gap_no_comma₂ never = fails_leaf (λ k. a_number (gap_least first.value second.value k)) gap₃ never

          module _ {comma₂ : ℕ} (leaf₄ : Comes (plain comma_sign) text second.at comma₂) where
            gap₄ : Went about_gap depth text at (depth - 1) comma₂ (λ k. a_number (gap_least first.value second.value k))
            gap₄ =
                went_leaf (depth - 1) (λ k. a_number (gap_least first.value second.value k)) gap₃ leaf₄
                (λ k ts. comma_run (depth - 1) (a_number (gap_least first.value second.value k)) ts)

            pub gap_no_least : Stuck a_number text comma₂ → Outside about_gap depth text at
            gap_no_least never = fails_leaf (gap_least first.value second.value) gap₄ never

            module _ {least : Leaf} (leaf₅ : Comes (number least.value) text comma₂ least.at) where
              gap₅ : Went about_gap depth text at (depth - 1) least.at
                  (λ k. sign comma_sign (a_number (gap_most first.value second.value least.value k)))
              gap₅ =
                  went_leaf (depth - 1) (λ k. gap_least first.value second.value k least.value) gap₄ leaf₅
                  (λ k ts. number_run (depth - 1) least.value (gap_least first.value second.value k) ts)

              pub gap_no_comma₃ : Stuck (sign comma_sign) text least.at → Outside about_gap depth text at
              gap_no_comma₃ never = fails_leaf (λ k. a_number (gap_most first.value second.value least.value k)) gap₅ never

              module _ {comma₃ : ℕ} (leaf₆ : Comes (plain comma_sign) text least.at comma₃) where
                gap₆ : Went about_gap depth text at (depth - 1) comma₃ (λ k. a_number (gap_most first.value second.value least.value k))
                gap₆ =
                    went_leaf (depth - 1) (λ k. a_number (gap_most first.value second.value least.value k)) gap₅ leaf₆
                    (λ k ts. comma_run (depth - 1) (a_number (gap_most first.value second.value least.value k)) ts)

                pub gap_no_most : Stuck a_number text comma₃ → Outside about_gap depth text at
                gap_no_most never = fails_leaf (gap_most first.value second.value least.value) gap₆ never

                module _ {most : Leaf} (leaf₇ : Comes (number most.value) text comma₃ most.at) where
                  gap_tree : ℕ × ℕ × ℕ × ℕ
                  gap_tree = (first.value, second.value, least.value, most.value)

                  gap₇ : Went about_gap depth text at (depth - 1) most.at (λ k. sign close_round (k gap_tree))
                  unfolding gap_tree
                  gap₇ =
                      went_leaf (depth - 1) (λ k. gap_most first.value second.value least.value k most.value) gap₆ leaf₇
                      (λ k ts. number_run (depth - 1) most.value (gap_most first.value second.value least.value k) ts)

                  pub gap_unclosed : Stuck (sign close_round) text most.at → Outside about_gap depth text at
                  gap_unclosed never = fails_leaf (λ k. k gap_tree) gap₇ never

                  pub gap_took : {end : ℕ} {x y : Nodes} → Comes (plain close_round) text most.at end
                      → NodePut (node 29 (16 * first.value + second.value) least.value most.value) x y
                      → Took about_gap next put_gap depth text at x y end
                  unfolding put_unit_f gap_tree
                  gap_took leaf₈ p =
                      took_alone gap_tree
                      (went_leaf depth (λ k. k gap_tree) gap₇ leaf₈ (λ k ts. close_back depth (k gap_tree) ts opens.roomy)) p refl
                      (further gap₇ leaf₈)
