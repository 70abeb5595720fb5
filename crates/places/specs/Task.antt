-- What the check does for one clause: the part that it starts from, Ξ's part and the part that answers, and which names are put on cycles when.
use Rattle.std.specs.Prelude.{ℕ, ◌-◌, ◌^◌, Bool, cond, [], ◌∷◌, ltb, eqb, get_or}
use Rattle.std.specs.Int.Bits.{bit_and, bit_or}
use Rattle.semantics.specs.Proposition.{Trace}
use Rattle.semantics.specs.Placement.{Placement}
use Rattle.stored.specs.declared.Node.{Node}
use Rattle.stored.specs.declared.StoredClause.{StoredClause}
use Rattle.stored.specs.Clause.{part_of}
use Rattle.stored.specs.declared.clauses.ClauseType.{ClauseType}
use Rattle.stored.specs.declared.clauses.ClauseType.TheVariants.{Pref, Init, Anti, Implies, Follows, Triggers}
use Rattle.places.specs.declared.task.Task.{Task}
use Rattle.places.specs.declared.task.Part.{Part}
use Rattle.intervals.specs.Search.{on_inside, short_inside, answered, missed}
use Rattle.intervals.specs.Rows.{type_of}

-- types by their numbers, 1 to 6
unfoldable pub type_numbered : ℕ → ClauseType
type_numbered k = get_or (Pref ∷ Pref ∷ Init ∷ Anti ∷ Implies ∷ Follows ∷ Triggers ∷ []) k Triggers

-- a task over three parts
abbrev pub task_over : ClauseType → Part → Part → Part → ℕ → Task
task_over type premise third reply quantified =
    record {
      clause_type = type;
      premise = premise.root;
      premises = premise.names;
      third = third.root;
      thirds = third.names;
      reply = reply.root;
      replies = bit_and reply.names (2 ^ 64 - 1 - quantified);
      quantified = quantified;
    }

-- Each part with those of its names that no part before it lists. A type without Ξ's part takes the first part there: it says nothing.
unfoldable pub task_of : StoredClause → Task
task_of d =
    let quantified = cond (eqb d.clause_type 1) 0 (cond (eqb d.clause_type 2) d.mask2 (cond (ltb d.clause_type 5) d.mask1 (bit_or d.mask1 d.mask3))) in
    record {
      clause_type = type_numbered d.clause_type;
      premise = cond (eqb d.clause_type 2) d.root2 d.root1;
      premises = cond (eqb d.clause_type 2) d.mask2 d.mask1;
      third = cond (ltb d.clause_type 5) d.root1 d.root3;
      thirds = cond (ltb d.clause_type 5) d.mask1 (bit_and d.mask3 (2 ^ 64 - 1 - d.mask1));
      reply = cond (ltb d.clause_type 4) d.root1 d.root2;
      replies = bit_and (cond (ltb d.clause_type 4) d.mask1 d.mask2) (2 ^ 64 - 1 - quantified);
      quantified = quantified;
    }

-- the interval is unanswered at i, j, k, by the task's parts, with the quantified names standing where ν puts them
unfoldable pub missed_task : (ℕ → Node) → Task → Trace → ℕ → Placement → ℕ → ℕ → ℕ → Bool
missed_task x t σ last ν i j k =
    missed (type_of t.clause_type)
    (on_inside (part_of x t.premise t.premises) σ ν)
    (short_inside (part_of x t.third t.thirds) σ ν)
    (answered (part_of x t.reply t.replies) σ last ν)
    i j k
