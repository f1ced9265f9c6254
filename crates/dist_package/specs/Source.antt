-- The value of a Source field (Debian Policy 5.6.1): a name, and perhaps a version in parentheses.
use Rattle.std.specs.Prelude.{◌≡◌, ◌≢◌, ◌⊎◌, ℕ, Bool, ◌||◌, ◌==◌, List, [], ◌∷◌, ◌++◌, Option, None, Some, length, drop}
use Rattle.std.specs.List.{before_first}
use Rattle.dist_base.specs.Ascii.{closing, is_white, opening}
use Rattle.dist_control.specs.Fields.{trim}
use Rattle.dist_relation.specs.Bytes.{IsName}
use Rattle.dist_version.specs.Faults.{IsTextFault}
use Rattle.dist_version.specs.Spelling.{ReadsVersion}
use Rattle.dist_version.specs.declared.error.VersionError.{VersionError}

-- white space or an opening parenthesis
abbrev pub ends_name : ℕ → Bool
ends_name byte = is_white byte || byte == opening

-- what stands before the first white space or opening parenthesis
abbrev pub name_part : List ℕ → List ℕ
name_part value = before_first ends_name value

-- what stands after the name, without white space at its ends
abbrev pub version_part : List ℕ → List ℕ
version_part value = trim (drop (length (name_part value)) value)

-- a text in parentheses, with white space round it or not
pub record IsInParentheses (part text : List ℕ) : Type 0 where
  pub inner : List ℕ
  pub parts : part ≡ opening ∷ inner ++ closing ∷ []
  pub text_is : text ≡ trim inner

-- what the version part gives: no version where it is empty, or the version in parentheses
abbrev pub ReadsVersionPart : List ℕ → Option (List ℕ) → Type 0
ReadsVersionPart part None = part ≡ []
ReadsVersionPart part (Some version) = (text : List ℕ) × IsInParentheses part text × ReadsVersion text version

-- the value gives this source name, and this version where it has one
pub record SpellsSource (value name : List ℕ) (version : Option (List ℕ)) : Type 0 where
  pub name_is : name ≡ name_part value
  pub is_name : IsName name
  pub version_is : ReadsVersionPart (version_part value) version

-- the version part is not empty, and has no version in parentheses
abbrev pub IsNoVersionPart : List ℕ → Type 0
IsNoVersionPart part =
    ((part ≢ []) × ((text : List ℕ) → ¬ IsInParentheses part text))
    ⊎ ((text : List ℕ) × IsInParentheses part text × ((fault : VersionError) × IsTextFault text fault))

-- The value is no source: it begins with no name, or goes on otherwise than in parentheses, or there is no
-- version in them.
abbrev pub IsNoSource : List ℕ → Type 0
IsNoSource value =
    (¬ IsName (name_part value))
    ⊎ IsNoVersionPart (version_part value)
