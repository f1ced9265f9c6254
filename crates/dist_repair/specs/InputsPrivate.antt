-- Serves private contracts: what files are judged by, within the limits.
use Rattle.std.specs.Prelude.{ℕ}
use Rattle.dist_clause.specs.ClauseList.{ClauseList}
use Rattle.dist_outside.specs.declared.limits.Limits.{Limits}
use Rattle.dist_space.specs.Space.{SpaceView}
use Rattle.dist_findings.specs.AnswerFiles.{AreWithin, Inputs}
use Rattle.dist_repair.specs.RepairFiles.{AreCountedInputs}

-- the variables and clauses of a set
abbrev pub inputs_of : ClauseList → Inputs
inputs_of set = record { variables = set.variables; clauses = set.clauses }

-- The set holds the clauses of the space with its counter, and keeps the limits.
pub record AreInputsWithin (limits : Limits) (s : SpaceView) (most : ℕ) (set : ClauseList) : Type 0 where
  pub counted : AreCountedInputs s most (inputs_of set)
  pub within : AreWithin limits (inputs_of set)
