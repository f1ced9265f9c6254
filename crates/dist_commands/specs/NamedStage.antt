-- The stage that finds the package which the option `--package` names.
use Rattle.std.specs.Prelude.{◌≡◌, ℕ, List, Option}
use Rattle.dist_outside.specs.Files.{Files}
use Rattle.dist_list.specs.NamedPackage.{IsNamed}
use Rattle.dist_repo.specs.declared.package.Package.{Package}
use Rattle.dist_commands.specs.Stages.{Step, Goes, Ends, refused}
use Rattle.dist_commands.specs.declared.refusal.Refusal.TheVariants.{NoSuchPackage}

-- the package, by its number, or the end of a run where none is named
abbrev pub NamedStage : Option Files → List Package → (text : List ℕ) → Step ℕ → Type 0
NamedStage files packages text (Goes number) = IsNamed packages text number
NamedStage files packages text (Ends ending) = ((number : ℕ) → ¬ IsNamed packages text number)
    × (ending ≡ refused files NoSuchPackage)
