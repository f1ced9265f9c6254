-- Invented versions, this project's own rule: one just above a version, and one below it. And the suffix that a rebuild
-- of a binary package adds to its version.
use Rattle.std.specs.Prelude.{◌≡◌, ℕ, ◌+◌, Bool, false, ◌&&◌, ◌==◌, List, [], ◌∷◌, ◌++◌, length, replicate, Option}
use Rattle.std.specs.Prelude.{None, Some, codes, is_none, if◌then◌else◌}
use Rattle.std.specs.Char.{is_ascii_digit}
use Rattle.std.specs.List.{list_all}
use Rattle.std.specs.Option.{unwrap_or}
use Rattle.dist_base.specs.Ascii.{hyphen, letter_b, plus, tilde}
use Rattle.dist_version.specs.Spelling.{IsMadeOf, IsVersion, rsplit_once, revision_of}
use Rattle.dist_version.specs.Faults.{fault_of}

-- the last byte is a digit
abbrev pub ends_in_digit : List ℕ → Bool
ends_in_digit [] = false
ends_in_digit (b ∷ []) = is_ascii_digit b
ends_in_digit (b ∷ c ∷ cs) = ends_in_digit (c ∷ cs)

-- what is put behind a revision: `0` where it doesn't end in a digit, then `A`, then so many tildes
abbrev pub extension : List ℕ → ℕ → List ℕ
extension revision tildes = (if ends_in_digit revision then [] else codes "0") ++ (codes "A" ++ replicate tildes tilde)

-- a missing revision gets its hyphen first
abbrev pub missing_hyphen : Option (List ℕ) → List ℕ
missing_hyphen None = hyphen ∷ []
missing_hyphen (Some revision) = []

-- the text just above another one: the same with its revision extended
unfoldable pub above_text : List ℕ → ℕ → List ℕ
above_text text tildes = text ++ (missing_hyphen (revision_of text)
    ++ extension (unwrap_or (revision_of text) []) tildes)

-- the text below another one: as many tildes as it has bytes, and one more
abbrev pub below_text : List ℕ → List ℕ
below_text text = replicate (length text + 1) tilde

-- `b` and one or more digits
abbrev pub is_rebuild : List ℕ → Bool
is_rebuild [] = false
is_rebuild (b ∷ []) = false
is_rebuild (b ∷ d ∷ ds) = b == letter_b && list_all is_ascii_digit (d ∷ ds)

-- what stands before the last plus, where a rebuild's suffix follows it and a version is left; else the whole text
abbrev pub taken_off : List ℕ → Option (List ℕ × List ℕ) → List ℕ
taken_off text None = text
taken_off text (Some s) = if is_rebuild s.1 && is_none (fault_of s.0) then s.0 else text

-- The version without its rebuild suffix, a final `+b` and one or more digits. It is taken off once.
unfoldable pub without_rebuild_text : List ℕ → List ℕ
without_rebuild_text text = taken_off text (rsplit_once plus text)

-- the text is this version and a rebuild's suffix
pub record IsRebuildOf (text base : List ℕ) : Type 0 where
  pub digits : List ℕ
  pub whole : text ≡ base ++ (codes "+b" ++ digits)
  pub made : IsMadeOf is_ascii_digit digits
  pub version : IsVersion base
