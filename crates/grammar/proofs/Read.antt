-- The reader reads each text of the grammar as the tree that it says, and no other text; so a text says one tree at most.
use Rattle.std.proofs.Common.{ℕ, arith, true, false, List, ◌≡◌, sym, ap, ◌∙◌}
use mathlib.Core.Option.{none, some, some-injective, none-ne-some}
use Rattle.grammar.specs.Token.{tokens}
use Rattle.grammar.specs.Tree.{TypedSheet}
use Rattle.grammar.specs.Spelled.{ends_line, Says}
use Rattle.grammar.specs.Brackets.{too_deep}
use Rattle.grammar.specs.Reader.{read, start, answer, parse}
use Rattle.grammar.proofs.Said.{said_sheet}
use Rattle.grammar.proofs.Reading.{read_said}
use Rattle.grammar.proofs.Lexed.{shallow_tokens}
use Rattle.grammar.proofs.Room.{run_read, run_some}

says_answer : (text : List ℕ) (t : TypedSheet) → Says text t → answer (read start (tokens text)) ≡ some t
says_answer text t w = ap (λ ts. answer (read start ts)) (sym w.spelled) ∙ said_sheet t w.single

pub says_read : (text : List ℕ) (t : TypedSheet) → Says text t → too_deep text ≡ false → parse 32 (tokens text) ≡ some t
unfolding parse
says_read text t w shallow = ap answer (run_read 32 0 32 start (tokens text) (omega arith) (shallow_tokens text shallow)) ∙ says_answer text t w

pub read_says : (limit : ℕ) (text : List ℕ) (t : TypedSheet) → parse limit (tokens text) ≡ some t → ends_line text ≡ true → Says text t
unfolding parse
read_says limit text t e ended =
    let w = read_said (tokens text) t (run_some limit start (tokens text) t e) in
    record { spelled = w.0; ended = ended; single = w.1 }

pub unique : (text : List ℕ) (t t' : TypedSheet) → Says text t → Says text t' → t ≡ t'
unique text t t' w w' = some-injective t t' (sym (says_answer text t w) ∙ says_answer text t' w')

-- a text that is not too deep and is not read is outside the grammar
pub outside_unread : (text : List ℕ) → too_deep text ≡ false → parse 32 (tokens text) ≡ none → (t : TypedSheet) → Says text t → ⊥
outside_unread text shallow e t w = none-ne-some t (sym e ∙ says_read text t w shallow)
