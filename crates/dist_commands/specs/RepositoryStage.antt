-- The stage that takes a Packages text apart.
use Rattle.std.specs.Prelude.{◌≡◌, ℕ, List, Option}
use Rattle.dist_control.specs.RawStanza.{raw_stanzas}
use Rattle.dist_outside.specs.Files.{Files}
use Rattle.dist_outside.specs.declared.trouble.What.TheVariants.{Stanzas}
use Rattle.dist_package.specs.FirstFault.{IsRefused}
use Rattle.dist_package.specs.RepositoryOf.{IsRepositoryOf}
use Rattle.dist_package.specs.declared.error.PackagesError.{PackagesError}
use Rattle.dist_package.specs.declared.error.PackagesError.TheVariants.{Bad, TooMany, NoMemory}
use Rattle.dist_repo.specs.PackageList.{PackageList}
use Rattle.dist_commands.specs.Stages.{Ending, Step, Goes, Ends, refused}
use Rattle.dist_commands.specs.declared.refusal.Refusal.TheVariants.{BadPackages, TooLarge}

-- the end that an error of reading packages gives
abbrev pub IsEndOf : Option Files → PackagesError → Ending → Type 0
IsEndOf files (Bad fault) ending = ending ≡ refused files (BadPackages fault)
IsEndOf files TooMany ending = ending ≡ refused files (TooLarge Stanzas)
IsEndOf files NoMemory ending = ⊥

-- the repository of the text, or its first fault, or more stanzas than the limit
abbrev pub RepositoryStage : Option Files → (stanzas : ℕ) → (text : List ℕ) → Step PackageList → Type 0
RepositoryStage files stanzas text (Goes repository) = IsRepositoryOf text stanzas repository
RepositoryStage files stanzas text (Ends ending) = (error : PackagesError) × IsRefused (raw_stanzas text) stanzas error
    × IsEndOf files error ending
