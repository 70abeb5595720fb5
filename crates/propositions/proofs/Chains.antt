-- A chain of operands with one joiner between them, read by a loop. `Chain` says what the grammar and the nodes have for one joiner; the
-- laws after it are the loop's.
use Rattle.std.proofs.Common.{ℕ, ◌-◌, ◌<◌, arith, List, ◌∷◌, ◌⊎◌, inl, inr, ◌≡◌, sym, ap, ap₂, ◌∙◌}
use Rattle.grammar.specs.Token.{Token, plain}
use Rattle.grammar.specs.Reader.{State, sign, run, answer}
use Rattle.typed.specs.Draft.{Draft, last, node, put, put_joined}
use Rattle.propositions.specs.declared.nodes.Nodes.{Nodes}
use Rattle.propositions.specs.Nodes.{so_far, NodePut}
use Rattle.propositions.specs.Reads.{ahead, Comes, Stuck, Took, Outside, Ended}
use Rattle.propositions.proofs.Went.{put_counted}

-- One joiner: its node's op and its sign; what is read and put of a chain, and the signs that it takes; the same of an operand.
pub record Chain (op joiner : ℕ) {K T K₁ T₁ : Type 0} (about : K → State) (has : K → T → State) (puts : T → Draft → Draft) (Taken : ℕ → Type 0)
    (about₁ : K₁ → State) (has₁ : K₁ → T₁ → State) (puts₁ : T₁ → Draft → Draft) (Taken₁ : ℕ → Type 0) : Type 0 where
  pub op_fits : op < 256
  pub taken : (n : ℕ) → Taken n → (n ≡ joiner) ⊎ Taken₁ n
  pub passes : (room : ℕ) (s : State) (ts : List Token) → run room (sign joiner s) (plain joiner ∷ ts) ≡ run room s ts
  -- the first operand is a chain by itself
  pub first : K → K₁
  pub single : T₁ → T
  pub first_about : (k : K) → about₁ (first k) ≡ about k
  pub first_has : (k : K) (t : T₁) → has₁ (first k) t ≡ has k (single t)
  pub first_puts : (t : T₁) (d : Draft) → puts (single t) d ≡ puts₁ t d
  -- a further one after the joiner
  pub next : K → T → K₁
  pub joined : T → T₁ → T
  pub next_about : (room : ℕ) (k : K) (t : T) (ts : List Token) → run room (has k t) (plain joiner ∷ ts) ≡ run room (about₁ (next k t)) ts
  pub next_has : (k : K) (t : T) (u : T₁) → has₁ (next k t) u ≡ has k (joined t u)
  pub next_puts : (t : T) (u : T₁) (d : Draft) → puts (joined t u) d ≡ put_joined op (puts t d) (puts₁ u (puts t d))

module _ {op joiner : ℕ} {K T K₁ T₁ : Type 0} {about : K → State} {has : K → T → State} {puts : T → Draft → Draft} {Taken : ℕ → Type 0}
    {about₁ : K₁ → State} {has₁ : K₁ → T₁ → State} {puts₁ : T₁ → Draft → Draft} {Taken₁ : ℕ → Type 0}
    (chain : Chain op joiner about has puts Taken about₁ has₁ puts₁ Taken₁) {room : ℕ} {text : List ℕ} {at : ℕ} where
  -- no first operand
  pub chain_none : Outside about₁ room text at → Outside about room text at
  chain_none out =
      record { fails = λ k. ap (λ s. answer (run room s (ahead text at))) (sym (chain.first_about k)) ∙ out.fails (chain.first k) }

  module _ {x : Nodes} where
    -- the first operand
    pub chain_first : {y : Nodes} {r : ℕ} → Ended about₁ has₁ puts₁ Taken₁ room text at x y r
        → Ended about has puts Taken₁ room text at x y r
    chain_first {r = r} ended =
        let w = ended.took in
        record {
          took =
              record {
                tree = chain.single w.tree;
                goes = λ k.
                    ap (λ s. answer (run room s (ahead text at))) (sym (chain.first_about k)) ∙ w.goes (chain.first k)
                    ∙ ap (λ s. answer (run room s (ahead text r))) (chain.first_has k w.tree);
                drafted = w.drafted ∙ sym (chain.first_puts w.tree (so_far x));
                onward = w.onward;
                within = w.within;
                more = w.more;
                taken = w.taken;
              };
          stops = λ k n ts taken there.
              ap (λ s. answer (run room s (plain n ∷ ts))) (sym (chain.first_has k w.tree))
              ∙ ended.stops (chain.first k) n ts taken there;
        }

    -- what was read, and a joiner looked for after it
    module _ {y : Nodes} {got : ℕ} (ended : Ended about has puts Taken₁ room text at x y got) where
      t : Took about has puts room text at x y got
      t = ended.took

      -- it is not there
      pub chain_ends : Stuck (sign joiner) text got → Ended about has puts Taken room text at x y got
      unfolding t
      chain_ends never =
          record {
            took = t;
            stops = λ k n ts taken there. elim (chain.taken n taken) [
              | inl e ↦
                  ap (λ n. answer (run room (has k t.tree) (plain n ∷ ts))) e
                  ∙ ap answer (chain.next_about room k t.tree ts)
                  ∙ ap answer (sym (chain.passes room (about₁ (chain.next k t.tree)) ts))
                  ∙ ap (λ ts. answer (run room (sign joiner (about₁ (chain.next k t.tree))) ts)) (sym (there ∙ ap (λ n. plain n ∷ ts) e))
                  ∙ never.fails room (about₁ (chain.next k t.tree))
              | inr lower ↦ ended.stops k n ts lower there
            ];
          }

      -- it is there
      module _ {after : ℕ} (joins : Comes (plain joiner) text got after) where
        here : (k : K) → answer (run room (about k) (ahead text at)) ≡ answer (run room (about₁ (chain.next k t.tree)) (ahead text after))
        here k =
            t.goes k ∙ ap (λ ts. answer (run room (has k t.tree) ts)) joins.next
            ∙ ap answer (chain.next_about room k t.tree (ahead text after))

        -- no operand after it
        pub chain_fails : Outside about₁ room text after → Outside about room text at
        chain_fails out = record { fails = λ k. here k ∙ out.fails (chain.next k t.tree) }

        -- an operand after it
        module _ {z : Nodes} {second : ℕ} (ended₁ : Ended about₁ has₁ puts₁ Taken₁ room text after y z second) where
          u : Took about₁ has₁ puts₁ room text after y z second
          u = ended₁.took

          -- both with the joiner's node
          pub chain_turn : {w : Nodes} → NodePut (node op 0 (y.count - 1) (z.count - 1)) z w → Ended about has puts Taken₁ room text at x w second
          unfolding put_joined last u
          chain_turn puts-node =
              let one = put_counted puts-node in
              record {
                took =
                    record {
                      tree = chain.joined t.tree u.tree;
                      goes = λ k.
                          here k ∙ u.goes (chain.next k t.tree)
                          ∙ ap (λ s. answer (run room s (ahead text second))) (chain.next_has k t.tree u.tree);
                      drafted =
                          puts-node.drafted
                          ∙ ap₂ (λ (d e : Draft). put (node op 0 (d.count - 1) (e.count - 1)) e) t.drafted
                          (u.drafted ∙ ap (puts₁ u.tree) t.drafted)
                          ∙ sym (chain.next_puts t.tree u.tree (so_far x));
                      onward = omega (arith, t.onward, u.onward, joins.onward);
                      within = u.within;
                      more = omega (arith, one, t.more, u.more);
                      taken = omega (arith, one, t.taken, u.taken, joins.onward);
                    };
                stops = λ k n ts lower there.
                    ap (λ s. answer (run room s (plain n ∷ ts))) (sym (chain.next_has k t.tree u.tree))
                    ∙ ended₁.stops (chain.next k t.tree) n ts lower there;
              }
