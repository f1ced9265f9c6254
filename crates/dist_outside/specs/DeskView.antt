-- What is known of a desk, and what its calls leave alone.
use Rattle.std.specs.Prelude.{◌≡◌, ℕ, ◌≤◌, ◌⊎◌, List, [], Option}
use Rattle.dist_base.specs.Front.{IsFrontOf}
use Rattle.dist_outside.specs.Files.{Files, Mode, Idle, IsNotWriting, with_file, with_more}

-- a desk: its files, where it tells them, what it is doing, and how often the calls that read, and those that write,
-- failed
pub record DeskView : Type 0 where
  pub files : Option Files
  pub mode : Mode
  pub read_faults : ℕ
  pub write_faults : ℕ

-- The desk was only read.
pub record OnlyReads (old new : DeskView) : Type 0 where
  pub files_stay : new.files ≡ old.files
  pub not_writing : IsNotWriting new.mode
  pub read_faults_stand : old.read_faults ≤ new.read_faults
  pub write_faults_stay : new.write_faults ≡ old.write_faults

-- The counts of a desk that was only written to.
pub record WriteCounts (old new : DeskView) : Type 0 where
  pub read_faults_stay : new.read_faults ≡ old.read_faults
  pub write_faults_stand : old.write_faults ≤ new.write_faults

-- The desk was written to: the file of that name has these bytes, all other files are as before,
-- and that is what the desk does now.
pub record Holds (name bytes : List ℕ) (mode : Mode) (old new : DeskView) : Type 0 where
  pub files : new.files ≡ with_file old.files name bytes
  pub mode_is : new.mode ≡ mode
  pub counts : WriteCounts old new

-- No file was made to be written: the one of that name is as before or empty, and all others are as before.
pub record NotCreated (name : List ℕ) (old new : DeskView) : Type 0 where
  pub idle : new.mode ≡ Idle
  pub as_before_or_empty : (new.files ≡ old.files) ⊎ (new.files ≡ with_file old.files name [])
  pub counts : WriteCounts old new

-- The file that is being written took these bytes at its end, and is still being written. All others are as before.
pub record FileGrew (bytes : List ℕ) (old new : DeskView) : Type 0 where
  pub appended : new.files ≡ with_more old.files old.mode bytes
  pub mode_stays : new.mode ≡ old.mode
  pub counts : WriteCounts old new

-- The file that is being written took some front of the bytes, perhaps nothing, perhaps all.
pub record FileGrewByFront (bytes : List ℕ) (old new : DeskView) : Type 0 where
  pub front : List ℕ
  pub is_front : IsFrontOf bytes front
  pub grew : FileGrew front old new

-- The desk writes no longer, and its files are as before.
pub record Closed (old new : DeskView) : Type 0 where
  pub idle : new.mode ≡ Idle
  pub files_stay : new.files ≡ old.files
  pub counts : WriteCounts old new
