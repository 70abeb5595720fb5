-- How deep brackets go, byte by byte.
use Rattle.std.proofs.Common.{ℕ, suc, ◌+◌, ◌≤◌, ◌<◌, true, false, ◌||◌, List, ◌∷◌, ◌≡◌, refl, add-one, lt-ltb, le-ltb, ltb, length, get_or, drop, drop_of_length-le, drop-cons}
use Rattle.grammar.specs.Brackets.{open_after, deeper}

deep_step : (n b : ℕ) (text : List ℕ) → deeper 32 n (b ∷ text) ≡ ltb 32 (open_after n b) || deeper 32 (open_after n b) text
unfolding deeper
deep_step n b text = refl

-- the byte at i leaves `after` open
module _ (text : List ℕ) (i n after : ℕ) (h : i < length text) (e : after ≡ open_after n (get_or text i 0)) where
  deep_at : deeper 32 n (drop i text) ≡ ltb 32 after || deeper 32 after (drop (i + 1) text)
  deep_at = rw (e, add-one, drop-cons text i 0 h) (deep_step n (get_or text i 0) (drop (suc i) text))

  pub deep_found : 32 < after → deeper 32 n (drop i text) ≡ true
  deep_found deep = rw (deep_at, lt-ltb 32 after deep)

  pub deep_next : after ≤ 32 → deeper 32 n (drop i text) ≡ deeper 32 after (drop (i + 1) text)
  deep_next few = rw (deep_at, le-ltb 32 after few)

pub deep_end : (text : List ℕ) (i n : ℕ) → length text ≤ i → deeper 32 n (drop i text) ≡ false
unfolding deeper
deep_end text i n h = rw (drop_of_length-le text h)
