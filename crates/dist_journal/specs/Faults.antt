-- What is wrong with an entry of a journal, where the archive has come so far. For one entry a fault holds only where
-- none holds that stands before it here.
use Rattle.std.specs.Prelude.{◌≡◌, ◌⊎◌, ℕ, ◌+◌, List}
use Rattle.dist_repo.specs.declared.package.Package.{Package}
use Rattle.dist_package.specs.declared.error.Fault.{Fault}
use Rattle.dist_package.specs.declared.error.PackagesError.TheVariants as packages_error
use Rattle.dist_space.specs.Space.{SpaceView}
use Rattle.dist_future.specs.Future.{IsTaken}
use Rattle.dist_archive.specs.Refusals.{Refuses}
use Rattle.dist_archive.specs.declared.step.Step.{Step}
use Rattle.dist_journal.specs.Blocks.{IsBlockRefused}
use Rattle.dist_journal.specs.Journal.{Entry, IsFirstStray, SayNothing, Says, words}
use Rattle.dist_journal.specs.Steps.{IsStepOf}
use Rattle.dist_journal.specs.declared.fault.FollowError.{FollowError}
use Rattle.dist_journal.specs.declared.fault.FollowError.TheVariants.{Bad, TooMany, NoMemory}
use Rattle.dist_journal.specs.declared.fault.JournalFault.{JournalFault}
use Rattle.dist_journal.specs.declared.fault.JournalFault.TheVariants.{BadStep, UnknownName, Stray, BadBlock, Refused}
use Rattle.dist_journal.specs.declared.step_line.StepLine.TheVariants.{Upload, Removal, NewName}

-- the step line is an upload by the name of a package of the repository, or a new name
abbrev pub BringsBlock : SpaceView → (line : List ℕ) → Type 0
BringsBlock s line = ((name version : List ℕ) × Says (words line) (Upload name version) × IsTaken s.repository name)
    ⊎ Says (words line) NewName

-- The fault of an entry, and its line: the step line, but for a line that is not blank behind a removal, and for the
-- fault of a block, whose lines are numbered behind the step line.
abbrev pub HasFault : SpaceView → (limit : ℕ) → (archive : List Package) → Entry → (line : ℕ) → JournalFault → Type 0
HasFault s limit archive entry line BadStep = (line ≡ entry.number) × SayNothing (words entry.line)
HasFault s limit archive entry line UnknownName = (line ≡ entry.number)
    × ((name version : List ℕ) × Says (words entry.line) (Upload name version) × (¬ IsTaken s.repository name))
HasFault s limit archive entry line Stray =
    (name : List ℕ) × Says (words entry.line) (Removal name) × IsFirstStray (entry.number + 1) entry.block line
HasFault s limit archive entry line BadBlock = BringsBlock s entry.line
    × ((fault : Fault) × IsBlockRefused limit entry.block (packages_error.Bad fault)
    × (line ≡ entry.number + fault.line))
HasFault s limit archive entry line (Refused error) = (line ≡ entry.number)
    × ((step : Step) × IsStepOf s limit entry step × Refuses s archive step error)

-- why an entry is not followed
abbrev pub IsEntryError : SpaceView → (limit : ℕ) → (archive : List Package) → Entry → FollowError → Type 0
IsEntryError s limit archive entry (Bad line fault) = HasFault s limit archive entry line fault
IsEntryError s limit archive entry TooMany =
    BringsBlock s entry.line × IsBlockRefused limit entry.block packages_error.TooMany
IsEntryError s limit archive entry NoMemory = ⊥
