-- The raw stanzas of a text (Debian Policy 5.1): the longest runs of lines that are not blank, each with
-- the number, from 1, of its first line.
use Rattle.std.specs.Prelude.{ℕ, ◌+◌, Bool, true, false, List, [], ◌∷◌, if◌then◌else◌}
use Rattle.dist_control.specs.Bytes.{is_blank}
use Rattle.dist_control.specs.Lines.{lines}

-- a stanza as lines: the number of its first line, from 1, and the lines
pub record RawStanza : Type 0 where
  pub line : ℕ
  pub lines : List (List ℕ)

-- the longest front of lines that are not blank
abbrev pub run : List (List ℕ) → List (List ℕ)
run [] = []
run (line ∷ rest) = if is_blank line then [] else line ∷ run rest

-- The stanzas of lines that are numbered from here. One begins at each line that is not blank and is
-- apart, which means that it is the first line or follows a blank one.
abbrev pub raw_stanzas_from : (number : ℕ) (apart : Bool) → List (List ℕ) → List RawStanza
raw_stanzas_from number apart [] = []
raw_stanzas_from number true (line ∷ rest) =
    if is_blank line
    then raw_stanzas_from (number + 1) true rest
    else record { line = number; lines = line ∷ run rest } ∷ raw_stanzas_from (number + 1) false rest
raw_stanzas_from number false (line ∷ rest) =
    if is_blank line then raw_stanzas_from (number + 1) true rest else raw_stanzas_from (number + 1) false rest

abbrev pub raw_stanzas : List ℕ → List RawStanza
raw_stanzas text = raw_stanzas_from 1 true (lines text)
