-- What a desk in memory keeps, as the files and the mode that it tells.
use Rattle.std.specs.Prelude.{ℕ, List, [], ◌∷◌, Some, map, string_bytes}
use Rattle.std.specs.FinMap.{from_entries}
use Rattle.dist_outside.specs.Files.{Files, Mode, Idle, Reading, Writing}
use Rattle.dist_outside.specs.declared.named_files.NamedFile.{NamedFile}
use Rattle.dist_outside.specs.declared.memory_desk.Open.{Open}
use Rattle.dist_outside.specs.declared.memory_desk.Open.TheVariants as kept

-- the newest file of a name counts
abbrev pub entries_of : List NamedFile → List (List ℕ × List ℕ)
entries_of files = map (λ file. (string_bytes file.name, file.bytes.items)) files

abbrev pub files_of : List NamedFile → Files
files_of files = from_entries (entries_of files)

-- the name of the newest file
abbrev pub newest_name : List NamedFile → List ℕ
newest_name [] = []
newest_name (file ∷ files) = string_bytes file.name

-- the newest file is the one that is being written
abbrev pub mode_of : List NamedFile → Open → Mode
mode_of files kept.Nothing = Idle
mode_of files (kept.Reading name place) = Reading (Some (string_bytes name, place))
mode_of files kept.Writing = Writing (Some (newest_name files))
