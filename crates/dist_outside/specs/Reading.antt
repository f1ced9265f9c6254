-- What a desk's reading gives, what it moves, and when it is given up.
use Rattle.std.specs.Prelude.{◌≡◌, ℕ, ◌+◌, ◌≤◌, List, [], length, take, drop, Option, Some, None}
use Rattle.dist_outside.specs.Files.{Files, Mode, Idle, Reading, Writing, file_bytes, IsFile}
use Rattle.dist_outside.specs.DeskView.{DeskView}
use Rattle.dist_outside.specs.Counts.{Rose}
use Rattle.dist_outside.specs.declared.trouble.What.TheVariants.{Bytes}
use Rattle.dist_outside.specs.declared.trouble.WorkError.{WorkError}
use Rattle.dist_outside.specs.declared.trouble.WorkError.TheVariants.{ReadFault, WriteFault, TooLarge, NoMemory}

-- the mode after that many more bytes were read
abbrev pub moved : Mode → ℕ → Mode
moved Idle count = Idle
moved (Reading None) count = Reading None
moved (Reading (Some (name, place))) count = Reading (Some (name, place + count))
moved (Writing name) count = Writing name

-- what is left of a file from a place on
abbrev pub bytes_from : ℕ → Option (List ℕ) → Option (List ℕ)
bytes_from place None = None
bytes_from place (Some bytes) = Some (drop place bytes)

-- the bytes that are left to read, where the desk tells them
abbrev pub bytes_left : Option Files → Mode → Option (List ℕ)
bytes_left files Idle = None
bytes_left files (Reading None) = None
bytes_left files (Reading (Some (name, place))) = bytes_from place (file_bytes files name)
bytes_left files (Writing name) = None

-- a read of that many bytes into the front of the buffer gave the next of those that were left,
-- and none only at their end
abbrev pub GivesNext : Option (List ℕ) → ℕ → List ℕ → Type 0
GivesNext None count buffer = Unit {0}
GivesNext (Some left) count buffer = (count ≤ length left) × (take count buffer ≡ take count left)
    × (count ≡ 0 → left ≡ [])

-- A read put that many of the file's next bytes into the buffer's front, and moved the place behind them.
pub record ReadsNext (read : ℕ) (buffer : List ℕ) (old new : DeskView) : Type 0 where
  pub count : read ≤ length buffer
  pub next : GivesNext (bytes_left old.files old.mode) read buffer
  pub moved : new.mode ≡ moved old.mode read

-- The bytes are those of the file, where the desk tells its files, and within the limit.
pub record IsWhole (files : Option Files) (name : List ℕ) (limit : ℕ) (text : List ℕ) : Type 0 where
  pub bytes : IsFile files name text
  pub within : length text ≤ limit

-- when reading a whole file gives each error, where the last argument says that more bytes came than the limit.
-- Want of memory is free.
abbrev pub ReadCause : WorkError → DeskView → DeskView → Type 0 → Type 0
ReadCause ReadFault old new longer = Rose old.read_faults new.read_faults
ReadCause (TooLarge Bytes) old new longer = longer
ReadCause NoMemory old new longer = Unit {0}
ReadCause _ old new longer = ⊥

-- when writing a whole text to a desk gives each error. Want of memory is free.
abbrev pub DeskWriteCause : WorkError → DeskView → DeskView → Type 0
DeskWriteCause WriteFault old new = Rose old.write_faults new.write_faults
DeskWriteCause NoMemory old new = Unit {0}
DeskWriteCause _ old new = ⊥
