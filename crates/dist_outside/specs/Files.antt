-- The files of a desk, and what it is doing with one of them.
use Rattle.std.specs.Prelude.{◌≡◌, ℕ, ◌<◌, List, ◌++◌, length, Option, Some, None, IsSome}
use Rattle.std.specs.Ordering.{nat_cmp}
use Rattle.std.specs.Cmp.Lexicographic.{slice_cmp}
use Rattle.std.specs.FinMap.{FinMap, get, insert}

-- a finite map from the bytes of a file's name to the file's bytes
abbrev pub Files : Type 0
Files = FinMap (slice_cmp nat_cmp) (List ℕ)

-- what a desk is doing: nothing, reading, or writing. Where files are told, it is known with which file,
-- and for reading also at which place, counted in bytes from the file's start.
pub data Mode : Type 0 where
  Idle : Mode
  Reading : Option (List ℕ × ℕ) → Mode
  Writing : Option (List ℕ) → Mode

-- a fact that only a desk that tells its files gives
abbrev pub where_told : {A : Type 0} → Option Files → A → Option A
where_told None x = None
where_told (Some files) x = Some x

-- the desk reads a file
abbrev pub IsReading : Mode → Type 0
IsReading Idle = ⊥
IsReading (Reading at) = Unit {0}
IsReading (Writing name) = ⊥

-- the desk writes a file
abbrev pub IsWriting : Mode → Type 0
IsWriting Idle = ⊥
IsWriting (Reading at) = ⊥
IsWriting (Writing name) = Unit {0}

-- the desk does nothing, or reads
abbrev pub IsNotWriting : Mode → Type 0
IsNotWriting Idle = Unit {0}
IsNotWriting (Reading at) = Unit {0}
IsNotWriting (Writing name) = ⊥

-- the bytes of the file of that name, where files are told and it is there
abbrev pub file_bytes : Option Files → List ℕ → Option (List ℕ)
file_bytes None name = None
file_bytes (Some files) name = get files name

-- the file of that name is there, where the desk tells its files
abbrev pub IsPresent : Option Files → List ℕ → Type 0
IsPresent None name = Unit {0}
IsPresent (Some files) name = IsSome (get files name)

-- the file's bytes are these, where the desk tells its files
abbrev pub IsFile : Option Files → List ℕ → List ℕ → Type 0
IsFile None name bytes = Unit {0}
IsFile (Some files) name bytes = file_bytes (Some files) name ≡ Some bytes

-- the file has more bytes than the limit, where the desk tells its files
abbrev pub IsLonger : Option Files → List ℕ → ℕ → Type 0
IsLonger None name limit = Unit {0}
IsLonger (Some files) name limit = (bytes : List ℕ) × (file_bytes (Some files) name ≡ Some bytes)
    × (limit < length bytes)

-- the files once the file of that name has these bytes; all others are as before
abbrev pub with_file : Option Files → List ℕ → List ℕ → Option Files
with_file None name bytes = None
with_file (Some files) name bytes = Some (insert files name bytes)

-- the files once a piece was appended to the file of that name, which had these bytes, if it is there
abbrev pub appended_to : Files → List ℕ → Option (List ℕ) → List ℕ → Files
appended_to files name None piece = files
appended_to files name (Some bytes) piece = insert files name (bytes ++ piece)

-- the files once a piece was appended to the one that is being written; all others are as before
abbrev pub with_more : Option Files → Mode → List ℕ → Option Files
with_more None mode piece = None
with_more (Some files) Idle piece = Some files
with_more (Some files) (Reading at) piece = Some files
with_more (Some files) (Writing None) piece = Some files
with_more (Some files) (Writing (Some name)) piece = Some (appended_to files name (get files name) piece)
