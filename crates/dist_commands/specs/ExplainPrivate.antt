-- What finding a package and explaining it comes to. No public clause cites it.
use Rattle.std.specs.Prelude.{◌≡◌, ◌⊎◌, ℕ, List, Option}
use Rattle.dist_outside.specs.DeskView.{DeskView}
use Rattle.dist_outside.specs.Files.{Files}
use Rattle.dist_outside.specs.declared.limits.Limits.{Limits}
use Rattle.dist_list.specs.NamedPackage.{IsNamed}
use Rattle.dist_repo.specs.PackageList.{PackageList}
use Rattle.dist_explain.specs.ExplanationFiles.{PassesFirst}
use Rattle.dist_commands.specs.DuePrivate.{IsPartGivenUp, WritingStops}
use Rattle.dist_commands.specs.Explain.{explain_writing}
use Rattle.dist_commands.specs.NamedStage.{NamedStage}
use Rattle.dist_commands.specs.Stages.{Ending, Ends, Goes}
use Rattle.dist_commands.specs.WrittenFile.{IsWritten, NumbersStage}
use Rattle.dist_commands.specs.declared.refusal.Refusal.{Refusal}

-- the package was found, and its file was written
abbrev pub IsFoundAndWritten : Option Files → Limits → (cert named : List ℕ) → (limit : ℕ) → PackageList → Ending
    → Type 0
IsFoundAndWritten files limits cert named limit r ending = (number : ℕ) × IsNamed r.packages named number
    × NumbersStage (PassesFirst r limits) files (Goes tt)
    × IsWritten (explain_writing limits limit r number) files cert ending

-- no package was found, or the writing of its file was given up
abbrev pub ExplainStops : Limits → (cert named : List ℕ) → (limit : ℕ) → PackageList → DeskView → DeskView → Refusal
    → Type 0
ExplainStops limits cert named limit r old new refusal =
    ((new ≡ old) × IsPartGivenUp (λ ending. NamedStage old.files r.packages named (Ends ending)) old.files refusal)
    ⊎ ((number : ℕ) × IsNamed r.packages named number
    × WritingStops (explain_writing limits limit r number) cert old new refusal)
