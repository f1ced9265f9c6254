-- How far a journal is followed. No public clause cites it.
use Rattle.std.specs.Prelude.{◌≡◌, ◌≢◌, ◌⊎◌, ℕ, ◌+◌, List, ◌++◌, Result, Ok, Err, length}
use Rattle.dist_control.specs.Lines.{lines}
use Rattle.dist_package.specs.declared.error.PackagesError.TheVariants as packages_error
use Rattle.dist_package.specs.declared.error.Fault.{Fault}
use Rattle.dist_repo.specs.declared.package.Package.{Package}
use Rattle.dist_space.specs.Space.{SpaceView}
use Rattle.dist_archive.specs.Refusals.{Refuses}
use Rattle.dist_archive.specs.Steps.{Makes}
use Rattle.dist_archive.specs.declared.step.Step.{Step}
use Rattle.dist_archive.specs.declared.step.StepError.{StepError}
use Rattle.dist_archive.specs.declared.step.StepError.TheVariants as step_error
use Rattle.dist_journal.specs.Blocks.{IsBlockRefused}
use Rattle.dist_journal.specs.Follow.{Follows}
use Rattle.dist_journal.specs.Journal.{AreBlank, Entry, entries, entries_from, front}
use Rattle.dist_journal.specs.Steps.{IsStepOf}
use Rattle.dist_journal.specs.declared.fault.FollowError.{FollowError}
use Rattle.dist_journal.specs.declared.fault.FollowError.TheVariants.{Bad, TooMany, NoMemory}
use Rattle.dist_journal.specs.declared.fault.JournalFault.TheVariants.{BadBlock, Refused}
use Rattle.dist_journal.specs.declared.reading.Section.{Section}

-- the entry that a section is
abbrev pub entry_of : Section → Entry
entry_of section = record { number = section.number; line = section.line.now; block = lines section.block.now }

-- why the block of an entry is not read
abbrev pub IsBlockError : (limit : ℕ) → (number : ℕ) → (block : List (List ℕ)) → FollowError → Type 0
IsBlockError limit number block (Bad line fault) = (fault ≡ BadBlock)
    × ((found : Fault) × IsBlockRefused limit block (packages_error.Bad found) × (line ≡ number + found.line))
IsBlockError limit number block TooMany = IsBlockRefused limit block packages_error.TooMany
IsBlockError limit number block NoMemory = ⊥

-- an archive takes a step
pub record IsTaken (s : SpaceView) (step : Step) (old new : List Package) : Type 0 where
  pub unrefused : (error : StepError) → ¬ Refuses s old step error
  pub makes : Makes s step old new

-- or refuses it, which is told at a line
abbrev pub IsRefusalAt : SpaceView → (archive : List Package) → Step → (number : ℕ) → FollowError → Type 0
IsRefusalAt s archive step number error =
    (reason : StepError) × (error ≡ Bad number (Refused reason)) × Refuses s archive step reason

-- what an archive said of a step, told at a line
abbrev pub IsTold : Result (Unit {0}) StepError → (number : ℕ) → Result (Unit {0}) FollowError → Type 0
IsTold (Ok done) number (Ok told) = Unit {0}
IsTold (Ok done) number (Err error) = ⊥
IsTold (Err reason) number (Ok told) = ⊥
IsTold (Err reason) number (Err error) = ((reason ≡ step_error.NoMemory) × (error ≡ NoMemory))
    ⊎ ((reason ≢ step_error.NoMemory) × (error ≡ Bad number (Refused reason)))

-- an archive takes the step of an entry
pub record TakesStep (s : SpaceView) (limit : ℕ) (entry : Entry) (old new : List Package) : Type 0 where
  pub step : Step
  pub is_step : IsStepOf s limit entry step
  pub taken : IsTaken s step old new

-- a journal is followed to where this text is left, whose first line has this number
pub record IsFollowedTo (s : SpaceView) (limit : ℕ) (journal : List ℕ) (old new : List Package) (rest : List ℕ)
    (number count : ℕ) : Type 0 where
  pub head : AreBlank (front (lines journal))
  pub before : List Entry
  pub pieces : entries journal ≡ before ++ entries_from number (lines rest)
  pub follows : Follows s limit before old new
  pub count_is : count ≡ length before
