-- Refusals and their numbers, and what an answer says of the number behind it.
use Rattle.std.proofs.Common.{◌≡◌, ℕ, zero, suc, ◌≤◌, Bool, true, false, eqb, Ok, Err, refl, sym, ◌∙◌, ap, arith, eqb-true, ne_eqb}
use borrow.Author.Tests.{eqb-false}
use Rattle.stored.specs.declared.refusal.Refusal.{Refusal}
use Rattle.stored.specs.declared.refusal.Refusal.TheVariants.{SheetNotFramed, UnknownSheetVersion, NotARequirement, CountOutOfRange, WrongSheetLength, InvalidNode, InvalidOperand, InvalidClause, UnlistedName, TraceNotFramed, UnknownTraceVersion, OtherSignals, InvalidCycles, ShortOutput, FewWords, NotAFormula, NameOffTrace, TooDeep, OutsideGrammar, TooLarge, InvalidCycle, BoardFull}
use Rattle.stored.specs.Bytes.{every_below}
use Rattle.stored.specs.Refusal.{number_of, last_number, refusals, refusal_numbered, answered, answer_number}
use Rattle.stored.specs.Tree.{pick}
use Rattle.stored.proofs.Rules.{every_at}

-- what holds of each refusal holds of all
pub each_refusal : (P : Refusal → Type 0) → P SheetNotFramed → P UnknownSheetVersion → P NotARequirement → P CountOutOfRange → P WrongSheetLength
    → P InvalidNode → P InvalidOperand → P InvalidClause → P UnlistedName → P TraceNotFramed → P UnknownTraceVersion → P OtherSignals → P InvalidCycles
    → P ShortOutput → P FewWords → P NotAFormula → P NameOffTrace → P TooDeep → P OutsideGrammar → P TooLarge → P InvalidCycle → P BoardFull
    → (e : Refusal) → P e
each_refusal P a b c d e f g h i j k l m n o p q r s t u v SheetNotFramed = a
each_refusal P a b c d e f g h i j k l m n o p q r s t u v UnknownSheetVersion = b
each_refusal P a b c d e f g h i j k l m n o p q r s t u v NotARequirement = c
each_refusal P a b c d e f g h i j k l m n o p q r s t u v CountOutOfRange = d
each_refusal P a b c d e f g h i j k l m n o p q r s t u v WrongSheetLength = e
each_refusal P a b c d e f g h i j k l m n o p q r s t u v InvalidNode = f
each_refusal P a b c d e f g h i j k l m n o p q r s t u v InvalidOperand = g
each_refusal P a b c d e f g h i j k l m n o p q r s t u v InvalidClause = h
each_refusal P a b c d e f g h i j k l m n o p q r s t u v UnlistedName = i
each_refusal P a b c d e f g h i j k l m n o p q r s t u v TraceNotFramed = j
each_refusal P a b c d e f g h i j k l m n o p q r s t u v UnknownTraceVersion = k
each_refusal P a b c d e f g h i j k l m n o p q r s t u v OtherSignals = l
each_refusal P a b c d e f g h i j k l m n o p q r s t u v InvalidCycles = m
each_refusal P a b c d e f g h i j k l m n o p q r s t u v ShortOutput = n
each_refusal P a b c d e f g h i j k l m n o p q r s t u v FewWords = o
each_refusal P a b c d e f g h i j k l m n o p q r s t u v NotAFormula = p
each_refusal P a b c d e f g h i j k l m n o p q r s t u v NameOffTrace = q
each_refusal P a b c d e f g h i j k l m n o p q r s t u v TooDeep = r
each_refusal P a b c d e f g h i j k l m n o p q r s t u v OutsideGrammar = s
each_refusal P a b c d e f g h i j k l m n o p q r s t u v TooLarge = t
each_refusal P a b c d e f g h i j k l m n o p q r s t u v InvalidCycle = u
each_refusal P a b c d e f g h i j k l m n o p q r s t u v BoardFull = v

-- a refusal has its own number, from 1 to the last
pub numbered_number : (e : Refusal) → refusal_numbered (number_of e) ≡ e
unfolding refusal_numbered number_of refusals
numbered_number =
    each_refusal (λ e. refusal_numbered (number_of e) ≡ e)
    refl refl refl refl refl refl refl refl refl refl refl refl refl refl refl refl refl refl refl refl refl refl

pub number_some : (e : Refusal) → 1 ≤ number_of e
unfolding number_of
number_some =
    each_refusal (λ e. 1 ≤ number_of e)
    (omega arith) (omega arith) (omega arith) (omega arith) (omega arith) (omega arith) (omega arith) (omega arith) (omega arith) (omega arith) (omega arith)
    (omega arith) (omega arith) (omega arith) (omega arith) (omega arith) (omega arith) (omega arith) (omega arith) (omega arith) (omega arith) (omega arith)

pub number_most : (e : Refusal) → number_of e ≤ last_number
unfolding number_of
number_most =
    each_refusal (λ e. number_of e ≤ last_number)
    (omega arith) (omega arith) (omega arith) (omega arith) (omega arith) (omega arith) (omega arith) (omega arith) (omega arith) (omega arith) (omega arith)
    (omega arith) (omega arith) (omega arith) (omega arith) (omega arith) (omega arith) (omega arith) (omega arith) (omega arith) (omega arith) (omega arith)

-- each number from 1 to the last is that of a refusal
pub number_numbered : (n : ℕ) → 1 ≤ n → n ≤ last_number → number_of (refusal_numbered n) ≡ n
unfolding every_below refusal_numbered number_of refusals
number_numbered zero l h = absurd (omega arith)
number_numbered (suc k) l h = eqb-true _ (suc k) (every_at last_number (λ k. eqb (number_of (refusal_numbered (suc k))) (suc k)) all k (omega arith))
  where
    all : every_below last_number (λ k. eqb (number_of (refusal_numbered (suc k))) (suc k)) ≡ true
    all = refl

-- ---- answers
-- the number of a refusal is not 0
pub refusal_applies : {n : ℕ} (e : Refusal) → number_of e ≡ n → eqb n 0 ≡ false
refusal_applies {n} e is = let some = number_some e in ne_eqb n 0 (λ z. omega arith)

module _ {A : Type 0} where
  pub answered_value : (n : ℕ) (x : A) → n ≡ 0 → Ok x ≡ answered n x
  unfolding answered pick
  answered_value n x e = rw e

  pub answered_refusal : (n : ℕ) (x : A) (e : Refusal) → number_of e ≡ n → Err e ≡ answered n x
  unfolding answered pick
  answered_refusal n x e is =
      let some = number_some e in
      rw (← is, ne_eqb (number_of e) 0 (λ z. omega arith), numbered_number e)

  -- an answer with a value, and one with a refusal
  pub of_value : (n : ℕ) (x y : A) → answered n x ≡ Ok y → (n ≡ 0) × (x ≡ y)
  unfolding answered pick
  of_value n x y e = go (eqb n 0) refl e
    where
      go : (b : Bool) → eqb n 0 ≡ b → pick b (Ok x) (Err (refusal_numbered n)) ≡ Ok y → (n ≡ 0) × (x ≡ y)
      go true p q = (eqb-true n 0 p, (cc))
      go false p q = absurd (let z : ◌≡◌ {A = ℕ} 0 1 = cc in omega arith)

  pub of_refusal : (n : ℕ) (x : A) (e : Refusal) → n ≤ last_number → answered n x ≡ Err e → number_of e ≡ n
  unfolding answered pick
  of_refusal n x e l is = go (eqb n 0) refl is
    where
      go : (b : Bool) → eqb n 0 ≡ b → pick b (Ok x) (Err (refusal_numbered n)) ≡ Err e → number_of e ≡ n
      go true p q = absurd (let z : ◌≡◌ {A = ℕ} 0 1 = cc in omega arith)
      go false p q =
          let some = eqb-false n 0 p in
          let same : refusal_numbered n ≡ e = cc in
          ap number_of (sym same) ∙ number_numbered n (omega arith) l

  pub number_answered : (n : ℕ) (x : A) → n ≤ last_number → answer_number (answered n x) ≡ n
  unfolding answered answer_number pick
  number_answered n x l = go (eqb n 0) refl
    where
      go : (b : Bool) → eqb n 0 ≡ b → answer_number (pick b (Ok x) (Err (refusal_numbered n))) ≡ n
      go true p = sym (eqb-true n 0 p)
      go false p = let some = eqb-false n 0 p in number_numbered n (omega arith) l
