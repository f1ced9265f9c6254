-- What is told of the packages of a Packages file that are explained, the newest of each name.
use Rattle.std.specs.Prelude.{◌≡◌, ℕ, ◌+◌, List, ◌++◌, codes, length}
use Rattle.dist_repo.specs.PackageList.{PackageList}
use Rattle.dist_bench.specs.Counted.{counted}
use Rattle.dist_bench.specs.declared.explained.ExplainCounts.{ExplainCounts}

-- of how many packages something is told
abbrev pub told_of : ExplainCounts → ℕ
told_of counts = counts.explained + counts.others

-- the counts in words
abbrev pub explained_text : ExplainCounts → List ℕ
explained_text counts = (counted counts.explained (codes " explained, ")
    ++ counted counts.relations (codes " relations, ")) ++ counted counts.others (codes " others\n")

-- Something is told of each package of the repository. How many are explained, and by how many relations, is no
-- promise.
pub record IsExplainedText (r : PackageList) (answer : List ℕ) : Type 0 where
  pub counts : ExplainCounts
  pub each : told_of counts ≡ length r.packages
  pub is : answer ≡ explained_text counts
