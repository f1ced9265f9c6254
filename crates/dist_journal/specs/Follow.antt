-- What following a journal leaves of an archive.
use Rattle.std.specs.Prelude.{◌≡◌, ◌⊎◌, ℕ, List, ◌∷◌, ◌++◌, length}
use Rattle.dist_control.specs.Lines.{lines}
use Rattle.dist_repo.specs.declared.package.Package.{Package}
use Rattle.dist_space.specs.Space.{SpaceView}
use Rattle.dist_archive.specs.Reach.{AreMade}
use Rattle.dist_archive.specs.declared.step.Step.{Step}
use Rattle.dist_journal.specs.Faults.{IsEntryError}
use Rattle.dist_journal.specs.Journal.{AreBlank, Entry, IsFirstStray, entries, front}
use Rattle.dist_journal.specs.Steps.{AreStepsOf}
use Rattle.dist_journal.specs.declared.fault.FollowError.{FollowError}
use Rattle.dist_journal.specs.declared.fault.FollowError.TheVariants.{Bad}
use Rattle.dist_journal.specs.declared.fault.JournalFault.TheVariants.{Stray}

-- The steps of some entries are made, one after another.
pub record Follows (s : SpaceView) (limit : ℕ) (read : List Entry) (old new : List Package) : Type 0 where
  pub steps : List Step
  pub are_steps : AreStepsOf s limit read steps
  pub made : AreMade s steps old new

-- A journal has only blank lines before its first step line, and all its steps, which are so many, are made.
pub record IsFollowed (s : SpaceView) (limit : ℕ) (journal : List ℕ) (old new : List Package) (count : ℕ) : Type 0 where
  pub head : AreBlank (front (lines journal))
  pub follows : Follows s limit (entries journal) old new
  pub count_is : count ≡ length (entries journal)

-- Following stops at an entry: there are only blank lines before the first step line, and the steps of the entries
-- before this one are made.
pub record StopsAt (s : SpaceView) (limit : ℕ) (journal : List ℕ) (old new : List Package) (entry : Entry) : Type 0
  where
    pub head : AreBlank (front (lines journal))
    pub before : List Entry
    pub after : List Entry
    pub pieces : entries journal ≡ before ++ entry ∷ after
    pub follows : Follows s limit before old new

-- a line that is not blank stands before the first step line, and no step is made
abbrev pub IsStrayHead : (journal : List ℕ) → (old new : List Package) → FollowError → Type 0
IsStrayHead journal old new error = (new ≡ old)
    × ((line : ℕ) × (error ≡ Bad line Stray) × IsFirstStray 1 (front (lines journal)) line)

-- Why a journal is not followed to its end.
abbrev pub IsStopped : SpaceView → (limit : ℕ) → (journal : List ℕ) → (old new : List Package) → FollowError → Type 0
IsStopped s limit journal old new error = IsStrayHead journal old new error
    ⊎ ((entry : Entry) × StopsAt s limit journal old new entry × IsEntryError s limit new entry error)

-- where memory ran out, the steps of some first entries are made
abbrev pub IsLeft : SpaceView → (limit : ℕ) → (journal : List ℕ) → (old new : List Package) → Type 0
IsLeft s limit journal old new = (read : List Entry) × (after : List Entry) × (entries journal ≡ read ++ after)
    × Follows s limit read old new
