-- The lines of a report, in the block style of YAML 1.2 (chapter 8). Strings stand in double quotes: no byte of a name,
-- of a version or of a class's text needs an escape there.
use Rattle.std.specs.Prelude.{ℕ, Bool, List, ◌++◌, ◌==◌, codes, length, if◌then◌else◌}
use Rattle.std.specs.List.{flat_map}

-- a string behind what stands before it in the line
abbrev pub string_line : (before text : List ℕ) → List ℕ
string_line before text = before ++ (codes "\"" ++ (text ++ codes "\"\n"))

-- the line of a key that has a list, which may be empty
abbrev pub key_line : List ℕ → Bool → List ℕ
key_line key is_empty = key ++ (if is_empty then codes " []\n" else codes "\n")

-- a key and the lines of each item of its list
abbrev pub listed : {X : Type 0} → List ℕ → (X → List ℕ) → List X → List ℕ
listed key lines_of xs = key_line key (length xs == 0) ++ flat_map lines_of xs
