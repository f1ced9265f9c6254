-- The stage that makes a repository of a Packages file: it is read, then taken apart.
use Rattle.std.specs.Prelude.{ℕ, List, Option}
use Rattle.dist_outside.specs.Files.{Files}
use Rattle.dist_outside.specs.declared.limits.Limits.{Limits}
use Rattle.dist_repo.specs.PackageList.{PackageList}
use Rattle.dist_commands.specs.RepositoryStage.{RepositoryStage}
use Rattle.dist_commands.specs.Stages.{Step, Goes, Ends, Then}
use Rattle.dist_commands.specs.TextStage.{TextStage}

-- PACKAGES is read, then taken apart to its repository
abbrev pub PackagesStage : Option Files → Limits → (name : List ℕ) → Step PackageList → Type 0
PackagesStage files limits name (Goes repository) = (text : List ℕ) × TextStage files name limits.bytes (Goes text)
    × RepositoryStage files limits.stanzas text (Goes repository)
PackagesStage files limits name (Ends ending) =
    Then (TextStage files name limits.bytes) (λ text end. RepositoryStage files limits.stanzas text (Ends end)) ending
