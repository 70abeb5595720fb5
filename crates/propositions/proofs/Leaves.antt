-- Laws of single tokens: what a lexer's token says, and what is told of one that is looked for.
use Rattle.std.proofs.Common.{ℕ, zero, suc, ◌+◌, ◌-◌, ◌≤◌, ◌<◌, arith, false, cond, ◌&&◌, true≢false, List, [], ◌∷◌, ◌⊎◌, inl, inr, ◌≡◌, refl, sym, ap, subst, ◌∙◌, le-leb, eq-eqb, ne_eqb, eqb, leb, Option, Some, None}
use mathlib.Core.Option.{none}
use Rattle.std.proofs.lemmas.Bool.Decides.{nat_tests}
use Rattle.stored.specs.Tree.{comparison_of}
use Rattle.semantics.specs.Formula.{Comparison}
use Rattle.semantics.proofs.Tests.{test, and_intro}
use Rattle.grammar.specs.Token.{Token, plain, signalled, named, number, outside, comparison_sign, open_round}
use Rattle.grammar.specs.Reader.{State, failed, sign, a_number, a_name, a_signal, a_comparison, step, run, answer}
use Rattle.grammar.proofs.Said.{computing}
use Rattle.grammar.proofs.Next.{no_comparison, open_sign}
use Rattle.grammar.proofs.Room.{stuck_none}
use Rattle.lexer.specs.declared.Lexed.{Lexed}
use Rattle.lexer.specs.declared.Token.{Token as Told}
use Rattle.lexer.specs.declared.Token.TheVariants.{Plain, Signal, Name, Number, Outside, End}
use Rattle.lexer.specs.Lexed.{meant, is_end, Bounded, Next}
use Rattle.lexer.proofs.Read.{token_told, end_told}
use Rattle.propositions.specs.declared.leaf.Leaf.{Leaf}
use Rattle.propositions.specs.Lexemes.{SignRead, Opened, is_word, Awaits, awaited, word_from, WordComes, WordRead}
use Rattle.propositions.specs.Reads.{ahead, Small, Comes, Stuck, Leafs, comparison_token}

small_told : (t : Told) → Bounded t → Small (meant t)
unfolding meant
small_told (Plain n) h = h
small_told (Signal k) h = h
small_told (Name u) h = h
small_told (Number n) h = h
small_told Outside h = omega arith
small_told End h = omega arith

-- what the lexer told
module _ {text : List ℕ} {at : ℕ} {read : Lexed} (next : Next text at read) where
  pub comes : (t : Told) → read.token ≡ t → is_end t ≡ false → Comes (meant t) text at read.at
  comes t e goes =
      let told = token_told text at read next t e goes in
      record { next = told.0; small = small_told t told.2; onward = told.1; within = next.within }

  -- a token that cannot come, where the text may not end either
  pub stuck_at : {K : Type 0} (about : K → State) → (ahead text at ≡ [] → (k : K) → answer (about k) ≡ none)
      → ((k : K) → step (about k) (meant read.token) ≡ failed) → Stuck about text at
  unfolding run
  stuck_at {K = K} about unended other = elim (test (is_end read.token)) [
    | inl e ↦
        let none_left = (end_told text at read next e).0 in
        record {
          fails = λ room k. ap (λ ts. answer (run room (about k) ts)) none_left ∙ unended none_left k;
          stuck = λ k t ts there. absurd (no_token t ts (sym none_left ∙ there));
        }
    | inr goes ↦
        let told = (token_told text at read next read.token refl goes).0 in
        record {
          fails = λ room k. ap (λ ts. answer (run room (about k) ts)) told ∙ stuck_none room (about k) (meant read.token) (ahead text read.at) (other k);
          stuck = λ k t ts there. ap (step (about k)) (same t ts (sym there ∙ told)) ∙ other k;
        }
  ]
    where
      no_token : (t : Token) (ts : List Token) → [] ≡ t ∷ ts → ⊥
      no_token t ts e = let z : ◌≡◌ {A = ℕ} 0 1 = cc in omega arith

      same : (t : Token) (ts : List Token) → t ∷ ts ≡ meant read.token ∷ ahead text read.at → t ≡ meant read.token
      same t ts e = cc

-- a token that is not the one asked for
pub sign_no : (wanted : ℕ) (t : Told) → (t ≡ Plain wanted → ⊥) → (s : State) → step (sign wanted s) (meant t) ≡ failed
unfolding computing meant
sign_no wanted (Plain n) other s = ap (λ b. cond b s failed) (ne_eqb n wanted (λ e. other (ap Plain e)))
sign_no wanted (Signal k) other s = refl
sign_no wanted (Name u) other s = refl
sign_no wanted (Number n) other s = refl
sign_no wanted Outside other s = refl
sign_no wanted End other s = refl

pub number_no : (t : Told) → ((n : ℕ) → t ≡ Number n → ⊥) → (k : ℕ → State) → step (a_number k) (meant t) ≡ failed
unfolding computing meant
number_no (Plain n) other k = refl
number_no (Signal i) other k = refl
number_no (Name u) other k = refl
number_no (Number n) other k = absurd (other n refl)
number_no Outside other k = refl
number_no End other k = refl

pub name_no : (t : Told) → ((u : ℕ) → t ≡ Name u → ⊥) → (k : ℕ → State) → step (a_name k) (meant t) ≡ failed
unfolding computing meant
name_no (Plain n) other k = refl
name_no (Signal i) other k = refl
name_no (Name u) other k = absurd (other u refl)
name_no (Number n) other k = refl
name_no Outside other k = refl
name_no End other k = refl

pub signal_no : (t : Told) → ((i : ℕ) → t ≡ Signal i → ⊥) → (k : ℕ → State) → step (a_signal k) (meant t) ≡ failed
unfolding computing meant
signal_no (Plain n) other k = refl
signal_no (Signal i) other k = absurd (other i refl)
signal_no (Name u) other k = refl
signal_no (Number n) other k = refl
signal_no Outside other k = refl
signal_no End other k = refl

pub no_word : (low high : ℕ) (t : Told) → ((n : ℕ) → t ≡ Plain n → ⊥) → is_word low high (meant t) ≡ false
unfolding is_word meant
no_word low high (Plain n) other = absurd (other n refl)
no_word low high (Signal i) other = refl
no_word low high (Name u) other = refl
no_word low high (Number n) other = refl
no_word low high Outside other = refl
no_word low high End other = refl

pub other_word : (low high n : ℕ) → ((low ≤ n) × (high < n)) ⊎ (n < low) → is_word low high (plain n) ≡ false
unfolding is_word
other_word low high n (inl past) = let above = past.1 in grind (arith, nat_tests)
other_word low high n (inr before) = grind (arith, nat_tests)

-- a number outside a range
pub apart : (low high n m : ℕ) → leb low n && leb n high ≡ false → low ≤ m → m ≤ high → eqb n m ≡ false
apart low high n m e p q =
    ne_eqb n m
    (λ same. true≢false (sym (and_intro (leb low m) (leb m high) (le-leb low m p) (le-leb m high q)) ∙ ap
    (λ (k : ℕ). leb low k && leb k high) (sym same) ∙ e))

comparison_sign_lem : (q : ℕ) → q ≤ 4 → comparison_sign (comparison_of q) ≡ 17 + q
unfolding comparison_of
comparison_sign_lem zero h = refl
comparison_sign_lem (suc zero) h = refl
comparison_sign_lem (suc (suc zero)) h = refl
comparison_sign_lem (suc (suc (suc zero))) h = refl
comparison_sign_lem (suc (suc (suc (suc zero)))) h = refl
comparison_sign_lem (suc (suc (suc (suc (suc q))))) h = absurd (omega arith)

-- ---- a word read where a state awaits just these, which stand for the values of `token`
pub word_comes : {low high : ℕ} {text : List ℕ} {at : ℕ} {leaf : Leaf} (token : ℕ → Token)
    → ((v : ℕ) → v ≤ high - low → word_from low v ≡ token v) → WordComes low high text at leaf → Comes (token leaf.value) text at leaf.at
word_comes {text = text} {at = at} {leaf = leaf} token same word = subst (λ t. Comes t text at leaf.at) (same leaf.value word.range) word.comes

pub word_stuck : {K : Type 0} {low high : ℕ} {text : List ℕ} {at : ℕ} (about : K → State)
    → (ahead text at ≡ [] → (k : K) → answer (about k) ≡ none)
    → ((k : K) (t : Token) → is_word low high t ≡ false → step (about k) t ≡ failed)
    → Stuck (awaited {low = low} {high = high} {ts = ahead text at}) text at → Stuck about text at
word_stuck {K = K} {low} {high} {text} {at} about unended others never =
    record { fails = λ room k. never.fails room (awaits k); stuck = λ k. never.stuck (awaits k) }
  where
    awaits : K → Awaits low high (ahead text at)
    awaits k = record { state = about k; unended = λ end. unended end k; others = others k }

no_comparison_word : (k : Comparison → State) (t : Token) → is_word 17 21 t ≡ false → step (a_comparison k) t ≡ failed
unfolding computing is_word
no_comparison_word k (plain n) e =
    no_comparison k n (apart 17 21 n 17 e (omega arith) (omega arith)) (apart 17 21 n 18 e (omega arith) (omega arith))
    (apart 17 21 n 19 e (omega arith) (omega arith)) (apart 17 21 n 20 e (omega arith) (omega arith))
    (apart 17 21 n 21 e (omega arith) (omega arith))
no_comparison_word k (signalled i) e = refl
no_comparison_word k (named u) e = refl
no_comparison_word k (number n) e = refl
no_comparison_word k outside e = refl

pub comparison_leafs : (text : List ℕ) (at : ℕ) (r : Option Leaf) → WordRead 17 21 text at r
    → Leafs comparison_token a_comparison text at r
unfolding computing
comparison_leafs text at None never = word_stuck a_comparison (λ _ k. refl) no_comparison_word never
comparison_leafs text at (Some leaf) word = word_comes comparison_token (λ v h. ap plain (sym (comparison_sign_lem v h))) word

-- ---- a token that was looked for and is not there
live : sign 0 failed ≡ failed → ⊥
live e = let z : ◌≡◌ {A = ℕ} 0 1 = cc in omega arith

pub no_sign : {text : List ℕ} {at : ℕ} (n : ℕ) → Stuck (sign n) text at → (ts : List Token) → ahead text at ≡ plain n ∷ ts → ⊥
unfolding computing
no_sign n never ts there = live (rw (eq-eqb n n refl) at (never.stuck (sign 0 failed) (plain n) ts there))

pub no_name : {text : List ℕ} {at : ℕ} → Stuck a_name text at → (u : ℕ) (ts : List Token) → ahead text at ≡ named u ∷ ts → ⊥
unfolding computing
no_name never u ts there = live (never.stuck (λ _. sign 0 failed) (named u) ts there)

-- ---- a round bracket opened
pub opened_read : (text : List ℕ) (at depth : ℕ) (r : Option ℕ) → (depth ≡ 0 → ⊥) → SignRead open_round text at r
    → Opened text at depth r
opened_read text at zero r some read = absurd (some refl)
opened_read text at (suc depth) None some never = record { fails = λ s. never.fails (suc depth) s }
opened_read text at (suc depth) (Some after) some there =
    record {
      roomy = omega arith;
      goes = λ s.
          ap (λ ts. answer (run (suc depth) (sign open_round s) ts)) there.next
          ∙ ap answer (open_sign depth s (ahead text after) ∙ ap (λ room. run room s (ahead text after)) less);
      onward = there.onward;
      within = there.within;
    }
  where
    less : depth ≡ suc depth - 1
    less = omega arith
