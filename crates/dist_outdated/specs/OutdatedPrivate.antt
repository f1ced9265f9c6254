-- Serves private contracts: what is kept between claims on outdated packages, and the steps of a claim.
use Rattle.std.specs.Prelude.{◌≡◌, ℕ, ◌+◌, ◌-◌, ◌<◌, ◌≤◌, Bool, true, false, if◌then◌else◌, List, [], Contains, length}
use Rattle.std.specs.Prelude.{slice_index, slice_index_or}
use Rattle.dist_clause.specs.Formula.{value_of}
use Rattle.dist_cert.specs.declared.TheConstants.{REACH}
use Rattle.dist_cert.specs.declared.records.CertKind.TheVariants.{Outdated}
use Rattle.dist_cert.specs.declared.records.CertRecord.{CertRecord}
use Rattle.dist_cert.specs.Groups.{installations}
use Rattle.dist_space.specs.Space.{SpaceView, variable_of}
use Rattle.dist_space.specs.declared.meaning.Meaning.TheVariants.{Present}
use Rattle.dist_sweep.specs.Script.{Setting}
use Rattle.dist_sweep.specs.Window.{WindowView}
use Rattle.dist_sweep.specs.Futures.{IsOfSpace}

-- a space of futures, and for each of its packages the number of an installation, or 0
pub record OutdatedView : Type 0 where
  pub space : SpaceView
  pub latest : List ℕ

-- The number, from 1, is that of the latest of these installations that has the variable; it is 0 where none has.
pub record IsLatestWith (installed : List (List ℕ)) (variable number : ℕ) : Type 0 where
  pub upto : number ≤ length installed
  pub has : 1 ≤ number → Contains (slice_index_or installed (number - 1) []) variable
  pub none_later : (later : ℕ) → number < later → later ≤ length installed
      → ¬ Contains (slice_index_or installed (later - 1) []) variable

-- for each package the latest installation that holds it as it is
abbrev pub AreLatest : SpaceView → List (List ℕ) → List ℕ → Type 0
AreLatest s installed latest = (r : ℕ) → r < length s.repository.packages
    → IsLatestWith installed (variable_of s (Present r)) (slice_index latest r)

-- The certificate is one of outdated packages in the futures of the space, and the numbers are those of its lines.
pub record KeepsOutdated (g : Setting) (before : List CertRecord) (c : OutdatedView) : Type 0 where
  pub of_space : IsOfSpace Outdated c.space g
  pub latest : AreLatest c.space (installations before) c.latest

-- ---- the steps of a claim

-- of the first n packages those that some values hold have the number, and all others are as before
pub record AreNoted (s : SpaceView) (n : ℕ) (values : List Bool) (number : ℕ) (old new : List ℕ) : Type 0 where
  pub size : length new ≡ length old
  pub each : (r : ℕ) → r < n → slice_index new r ≡ (if value_of values (variable_of s
      (Present r)) then number else slice_index old r)
  pub rest : (r : ℕ) → n ≤ r → slice_index new r ≡ slice_index old r

-- the first package from r on that some values hold, or the number of packages
pub record IsNextHeld (s : SpaceView) (values : List Bool) (r next : ℕ) : Type 0 where
  pub from : r ≤ next
  pub within : next ≤ length s.repository.packages
  pub holds : next < length s.repository.packages → value_of values (variable_of s (Present next)) ≡ true
  pub none : (other : ℕ) → r ≤ other → other < next → value_of values (variable_of s (Present other)) ≡ false

-- the number is that of the latest installation with package p, and a claim may reach it
pub record IsReached (c : OutdatedView) (w : WindowView) (p number : ℕ) : Type 0 where
  pub is : number ≡ slice_index c.latest (p - 1)
  pub from_one : 1 ≤ number
  pub recent : w.count < number + REACH
