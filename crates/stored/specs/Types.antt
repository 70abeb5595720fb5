-- The types of clauses of the code as those of the meanings, and the numbers of its roles.
use Rattle.std.specs.Prelude.{ℕ}
use Rattle.semantics.specs.Clause as clause
use Rattle.stored.specs.declared.clauses.ClauseType.{ClauseType}
use Rattle.stored.specs.declared.clauses.ClauseType.TheVariants.{Pref, Init, Anti, Implies, Follows, Triggers}
use Rattle.stored.specs.declared.clauses.Role.{Role}
use Rattle.stored.specs.declared.clauses.Role.TheVariants.{Assumption, Commitment, Advice}

abbrev pub type_stored : ClauseType → clause.ClauseType
type_stored Pref = clause.pref
type_stored Init = clause.init
type_stored Anti = clause.anti
type_stored Implies = clause.implies
type_stored Follows = clause.follows
type_stored Triggers = clause.triggers

abbrev pub role_number : Role → ℕ
role_number Assumption = 0
role_number Commitment = 1
role_number Advice = 2
