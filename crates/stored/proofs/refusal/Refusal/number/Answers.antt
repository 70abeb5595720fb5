-- `stored::refusal::Refusal::number` meets its contract.
use Rattle.std.proofs.Common.{◌≡◌, ◌+◌, refl}
use denote.Enum.Declared.{tag_of}
use Rattle.stored.specs.contracts.refusal.Refusal.{the_type}
use Rattle.stored.specs.Refusal.{number_of}
use Rattle.stored.proofs.Refusals.{each_refusal}
use Rattle.stored.proofs.refusal.Refusal.number.Goals as goal

pub returns-clause-value : goal.returns-clause-value
unfolding number_of
returns-clause-value c =
    each_refusal (λ e. tag_of the_type e + 1 ≡ number_of e)
    refl refl refl refl refl refl refl refl refl refl refl refl refl refl refl refl refl refl refl refl refl refl c.args.self
