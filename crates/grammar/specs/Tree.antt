-- Request 1: what a text says, as a tree. How tightly an operand binds is in its type, so that a tree can be read in one way alone: |
-- joins what & joins, & joins what ^ joins (in a formula) or single pieces (in a proposition), all to the left.
use Rattle.std.specs.Prelude.{ℕ, List}
use Rattle.semantics.specs.Formula.{Comparison}

mutual
  -- a proposition; what & joins; a single piece
  pub data OrP : Type 0 where
    one_p : AndP → OrP
    or_p : OrP → AndP → OrP

  pub data AndP : Type 0 where
    unit_p : UnitP → AndP
    and_p : AndP → UnitP → AndP

  pub data UnitP : Type 0 where
    trueP falseP : UnitP
    signalP nameP : ℕ → UnitP
    not_p : UnitP → UnitP
    bracket_p : OrP → UnitP

mutual
  -- a formula; what & joins; what ^ joins; a single piece
  pub data OrF : Type 0 where
    one_f : AndF → OrF
    or_f : OrF → AndF → OrF

  pub data AndF : Type 0 where
    chain_f : ChopF → AndF
    and_f : AndF → ChopF → AndF

  pub data ChopF : Type 0 where
    unit_f : UnitF → ChopF
    chop_f : ChopF → UnitF → ChopF

  pub data UnitF : Type 0 where
    -- <a>, [a], [[a]], {{a}}
    pointF stretchF wholeF braceF : OrP → UnitF
    -- slen, scount, sdur compared with a number
    slen_f : Comparison → ℕ → UnitF
    scountF sdurF : OrP → Comparison → ℕ → UnitF
    -- draw(q, signal), at(name), gap(name, name, a, b)
    draw_f : ℕ → ℕ → UnitF
    at_f : ℕ → UnitF
    gap_f : ℕ → ℕ → ℕ → ℕ → UnitF
    -- (f), (f)*
    bracketF starF : OrF → UnitF

-- a formula and the names after its colon
pub record TypedPart : Type 0 where
  pub formula : OrF
  pub names : List ℕ

-- pref and anti have one part, init and implies two, follows and triggers three
pub data TypedClause : Type 0 where
  pref_c anti_c : TypedPart → TypedClause
  init_c implies_c : TypedPart → TypedPart → TypedClause
  follows_c triggers_c : TypedPart → TypedPart → TypedPart → TypedClause

pub data Line : Type 0 where
  assume_l require_l : TypedClause → Line

-- the numbers of the first line, s and m, and the lines after it
pub record TypedSheet : Type 0 where
  pub signals : ℕ
  pub names : ℕ
  pub lines : List Line
