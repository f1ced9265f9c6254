-- How far a file was read, piece by piece.
use Rattle.std.specs.Prelude.{◌≡◌, ℕ, ◌≤◌, List, length, take, Option, Some, None}
use Rattle.std.specs.FinMap.{get}
use Rattle.dist_outside.specs.Files.{Files, Mode, Reading}

-- Of the file of that name these bytes were read, and the desk stands behind them.
pub record ReadTo (files : Files) (mode : Mode) (name bytes whole : List ℕ) : Type 0 where
  pub file : get files name ≡ Some whole
  pub at : mode ≡ Reading (Some (name, length bytes))
  pub front : bytes ≡ take (length bytes) whole
  pub within : length bytes ≤ length whole

-- the same where files are told, and else that some file is being read
abbrev pub SoFar : Option Files → Mode → List ℕ → List ℕ → Type 0
SoFar None mode name bytes = mode ≡ Reading None
SoFar (Some files) mode name bytes = (whole : List ℕ) × ReadTo files mode name bytes whole
