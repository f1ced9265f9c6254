-- Numbers that are enough for the searches that answer one question: for an explanation, and for a repair.
use Rattle.std.specs.Prelude.{ℕ, ◌+◌, ◌*◌, List, length}
use Rattle.dist_clause.specs.Formula.{Literal}
use Rattle.dist_repo.specs.PackageList.{PackageList}
use Rattle.dist_space.specs.Space.{SpaceView}
use Rattle.dist_repair.specs.Counters.{counted_variables, counter_of}
use Rattle.dist_repair.specs.declared.verdict.RepairHeader.{RepairHeader}
use Rattle.dist_budget.specs.Budget.{FileSize}

-- Of so many relations: the first question is on all of them. A question that is refuted is on fewer relations than the
-- one refuted before. Behind it comes at most one question on some of its relations, and one that leaves out each.
abbrev pub explanation_questions : (relations : ℕ) → ℕ
explanation_questions relations = 1 + relations + relations * relations

-- The file of an explanation, with the clauses of all relations: behind the variables of the packages there is one for
-- each relation.
abbrev pub explanation_size : PackageList → (relations : List (List Literal)) → (limit : ℕ) → FileSize
explanation_size r relations limit = record {
  packages = length r.packages;
  variables = length r.packages + length relations;
  questions = explanation_questions (length relations);
  limit = limit;
}

-- the package alone, and where at most so many clusters have moved, from 0 to the most
abbrev pub repair_questions : (most : ℕ) → ℕ
repair_questions most = most + 2

-- The file of a repair: the variables are those of the space, and those that count the clusters.
abbrev pub repair_size : SpaceView → RepairHeader → FileSize
repair_size s h = record {
  packages = length s.repository.packages;
  variables = counted_variables (counter_of s h.most);
  questions = repair_questions h.most;
  limit = h.limit;
}
