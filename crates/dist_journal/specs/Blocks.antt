-- The block of a step line: its lines are those of a Packages file.
use Rattle.std.specs.Prelude.{◌≡◌, ℕ, List}
use Rattle.dist_control.specs.Lines.{lines}
use Rattle.dist_control.specs.RawStanza.{raw_stanzas}
use Rattle.dist_repo.specs.PackageList.{PackageList}
use Rattle.dist_package.specs.FirstFault.{IsRefused}
use Rattle.dist_package.specs.RepositoryOf.{IsRepositoryOf}
use Rattle.dist_package.specs.declared.error.PackagesError.{PackagesError}

-- a text of these lines is a Packages file of at most so many stanzas, and these are its packages
abbrev pub IsBlockOf : (limit : ℕ) → List (List ℕ) → PackageList → Type 0
IsBlockOf limit block packages = (text : List ℕ) × (lines text ≡ block) × IsRepositoryOf text limit packages

-- why a text of these lines is none
abbrev pub IsBlockRefused : (limit : ℕ) → List (List ℕ) → PackagesError → Type 0
IsBlockRefused limit block error = (text : List ℕ) × (lines text ≡ block) × IsRefused (raw_stanzas text) limit error
