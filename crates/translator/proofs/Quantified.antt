-- What follows of an emitted formula that is all of what is written: every written name stands under its quantifier.
use Rattle.std.proofs.Common.{ℕ, ◌<◌, true, List, ◌≡◌}
use Rattle.semantics.specs.Placement.{Names}
use Rattle.stored.specs.Sheet.{header_of, nodes_of}
use Rattle.stored.specs.Emitted.{root_of}
use Rattle.stored.specs.Reached.{Way, SomeWay}
use Rattle.stored.proofs.Ways.{name_quantified, some_way}
use Rattle.translator.specs.Translated.{FormulaOf}

-- a way leads to each node that has a name, and on every way to it its name is quantified
pub names_quantified : (s y : List ℕ) → FormulaOf s y → (i : ℕ) → i < (header_of y).nodes → (nodes_of y i).op ≡ 4
    → (SomeWay (nodes_of y) (root_of y) i) × ((K : Names) → Way (nodes_of y) (root_of y) K i → K (nodes_of y i).a ≡ true)
names_quantified s y formula i less name =
    (some_way (formula.reached i less), λ K way. name_quantified y formula.form K i way name)
