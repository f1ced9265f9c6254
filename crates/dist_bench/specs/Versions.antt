-- Versions, one a line, sorted.
use Rattle.std.specs.Prelude.{◌≡◌, ◌≢◌, ◌⊎◌, ℕ, List, [], ◌∷◌, ◌++◌, ◌==◌, All, codes, filter, length, not}
use Rattle.std.specs.Prelude.{IsPermutation}
use Rattle.std.specs.List.{flat_map}
use Rattle.std.specs.List.Sorted.{IsSorted, IsStable}
use Rattle.dist_control.specs.Lines.{lines}
use Rattle.dist_version.specs.Faults as version
use Rattle.dist_version.specs.Order.{version_cmp}
use Rattle.dist_version.specs.Spelling.{IsVersion}
use Rattle.dist_version.specs.declared.error.VersionError.{VersionError}
use Rattle.dist_bench.specs.FirstLine.{IsFirstFault}
use Rattle.dist_bench.specs.declared.error.JobError.{JobError}
use Rattle.dist_bench.specs.declared.error.JobError.TheVariants.{NoVersion}

-- the lines that are not empty
abbrev pub written : List (List ℕ) → List (List ℕ)
written list = filter (λ line. not (length line == 0)) list

-- a line is empty or a version
abbrev pub IsVersionLine : List ℕ → Type 0
IsVersionLine line = (line ≡ []) ⊎ IsVersion line

-- each line of the text is empty or a version, and these are the versions
pub record AreVersions (text : List ℕ) (versions : List (List ℕ)) : Type 0 where
  pub each : All IsVersionLine (lines text)
  pub are : versions ≡ written (lines text)

-- a text of one line for a version
abbrev pub version_line : List ℕ → List ℕ
version_line version = version ++ codes "\n"

-- a fault of a version, as one of a job
abbrev pub IsVersionFault : List ℕ → JobError → Type 0
IsVersionFault line (NoVersion fault) = version.IsTextFault line fault
IsVersionFault line error = ⊥

-- a line that is neither
abbrev pub HasVersionFault : List ℕ → VersionError → Type 0
HasVersionFault line fault = (line ≢ []) × version.IsTextFault line fault

-- the same, as why a job has no answer
abbrev pub HasLineFault : List ℕ → JobError → Type 0
HasLineFault line (NoVersion fault) = HasVersionFault line fault
HasLineFault line error = ⊥

-- a line that is empty or a version, which was added
pub record AddsLine (line : List ℕ) (old new : List (List ℕ)) : Type 0 where
  pub reads : IsVersionLine line
  pub added : new ≡ old ++ written (line ∷ [])

-- the answer of `sort-versions`: the versions in their order, equal ones as they came, one a line
pub record IsSortedText (text answer : List ℕ) : Type 0 where
  pub versions : List (List ℕ)
  pub are_versions : AreVersions text versions
  pub sorted : List (List ℕ)
  pub same : IsPermutation versions sorted
  pub in_order : IsSorted version_cmp sorted
  pub stable : IsStable version_cmp versions sorted
  pub is : answer ≡ flat_map version_line sorted

-- why it has none: the first line that is neither empty nor a version has this fault
abbrev pub HasNoVersion : (text : List ℕ) → JobError → Type 0
HasNoVersion text (NoVersion fault) = IsFirstFault text IsVersionLine HasVersionFault fault
HasNoVersion text error = ⊥
