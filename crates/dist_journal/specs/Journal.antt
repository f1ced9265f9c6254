-- The form of a journal, a text that tells steps of an archive, one after another. Its lines are those of control text.
-- A line that begins with an equals sign and a space is a step line. The lines after it, up to the next step line or to
-- the end, are its block.
use Rattle.std.specs.Prelude.{◌≡◌, ℕ, ◌+◌, Bool, true, false, ◌&&◌, ◌==◌, List, [], ◌∷◌, ◌++◌, All, codes}
use Rattle.std.specs.Prelude.{if◌then◌else◌, length}
use Rattle.std.specs.List.{slice_split}
use Rattle.dist_base.specs.Ascii.{equals, space}
use Rattle.dist_version.specs.Spelling.{IsVersion}
use Rattle.dist_relation.specs.Bytes.{IsName}
use Rattle.dist_control.specs.Bytes.{is_blank}
use Rattle.dist_control.specs.Lines.{lines}
use Rattle.dist_journal.specs.declared.step_line.StepLine.{StepLine}
use Rattle.dist_journal.specs.declared.step_line.StepLine.TheVariants.{Upload, Removal, NewName}

-- ---- step lines and their blocks

-- a line begins with an equals sign and a space
abbrev pub is_step_line : List ℕ → Bool
is_step_line (first ∷ second ∷ rest) = first == equals && second == space
is_step_line line = false

-- the longest front of lines that are no step lines
abbrev pub front : List (List ℕ) → List (List ℕ)
front [] = []
front (line ∷ rest) = if is_step_line line then [] else line ∷ front rest

-- a step line, with its number, and the lines of its block
pub record Entry : Type 0 where
  pub number : ℕ
  pub line : List ℕ
  pub block : List (List ℕ)

-- the entries of lines that are numbered from here
abbrev pub entries_from : (number : ℕ) → List (List ℕ) → List Entry
entries_from number [] = []
entries_from number (line ∷ rest) =
    if is_step_line line
    then record { number = number; line = line; block = front rest } ∷ entries_from (number + 1) rest
    else entries_from (number + 1) rest

-- The entries of a journal, whose lines are numbered from 1.
abbrev pub entries : (journal : List ℕ) → List Entry
entries journal = entries_from 1 (lines journal)

-- ---- lines that are not blank

-- all of these lines are empty, or have only spaces and tabs
abbrev pub AreBlank : List (List ℕ) → Type 0
AreBlank list = All (λ line. is_blank line ≡ true) list

-- The first of some lines that is not blank, by its number, where the first of all has this number.
pub record IsFirstStray (number : ℕ) (list : List (List ℕ)) (place : ℕ) : Type 0 where
  pub before : List (List ℕ)
  pub line : List ℕ
  pub after : List (List ℕ)
  pub pieces : list ≡ before ++ line ∷ after
  pub blank : AreBlank before
  pub stray : is_blank line ≡ false
  pub place_is : place ≡ number + length before

-- ---- what a step line says

abbrev pub is_space : ℕ → Bool
is_space byte = byte == space

-- what stands before, between and after the spaces of a line
abbrev pub words : List ℕ → List (List ℕ)
words line = slice_split is_space line

-- The words of a step line say an upload of the cluster of a name at a version, a removal of a name, or a new name.
abbrev pub Says : (words : List (List ℕ)) → StepLine → Type 0
Says words (Upload name version) = (words ≡ codes "=" ∷ codes "upload" ∷ name ∷ version ∷ [])
    × IsName name × IsVersion version
Says words (Removal name) = (words ≡ codes "=" ∷ codes "removal" ∷ name ∷ []) × IsName name
Says words NewName = words ≡ codes "=" ∷ codes "new" ∷ []

-- they say nothing of these
abbrev pub SayNothing : (words : List (List ℕ)) → Type 0
SayNothing words = (said : StepLine) → ¬ Says words said
