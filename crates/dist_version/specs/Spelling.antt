-- Version texts, by Debian Policy 5.6.12: `[epoch:]upstream_version[-debian_revision]`. Which text spells which
-- version, and where a text is cut.
use Rattle.std.specs.Prelude.{◌≡◌, ◌≢◌, ℕ, ◌<◌, ◌≤◌, Bool, ◌||◌, ◌==◌, ◌⊎◌, List, [], ◌∷◌, ◌++◌, length, Option, None}
use Rattle.std.specs.Prelude.{Some, IfSome, IsSome, IsTrue, if◌then◌else◌, codes}
use Rattle.std.specs.Char.{is_ascii_alphanumeric, is_ascii_digit}
use Rattle.std.specs.List.{list_any, list_all}
use Rattle.std.specs.Option.{option_map, option_map_or, option_or}
use Rattle.std.specs.Str.Parse.{digits_value}
use Rattle.dist_base.specs.Ascii.{colon, hyphen}
use Rattle.dist_version.specs.declared.TheConstants.{MAX_EPOCH}

-- the byte stands somewhere in the bytes
abbrev pub has : ℕ → List ℕ → Bool
has byte bytes = list_any (λ b. b == byte) bytes

-- an upstream version has letters, digits and . + - ~ :
abbrev pub is_upstream_byte : ℕ → Bool
is_upstream_byte b = is_ascii_alphanumeric b || has b (codes ".+-~:")

-- a revision has letters, digits and . + ~
abbrev pub is_revision_byte : ℕ → Bool
is_revision_byte b = is_ascii_alphanumeric b || has b (codes ".+~")

-- what a version says
pub record Parts : Type 0 where
  pub epoch : ℕ
  pub upstream : List ℕ
  pub revision : Option (List ℕ)

-- one byte or more, and each of them passes
abbrev pub IsMadeOf : (ℕ → Bool) → List ℕ → Type 0
IsMadeOf test bytes = (0 < length bytes) × IsTrue (list_all test bytes)

-- the epoch, written as one or more digits of that value and a colon, or not at all where it is 0
abbrev pub SpellsEpoch : List ℕ → ℕ → Type 0
SpellsEpoch front epoch =
    ((digits : List ℕ) × (front ≡ digits ++ colon ∷ []) × IsMadeOf is_ascii_digit digits
    × (digits_value 10 digits ≡ epoch))
    ⊎ ((front ≡ []) × (epoch ≡ 0))

-- the revision after a hyphen, where there is one
abbrev pub revision_text : Option (List ℕ) → List ℕ
revision_text None = []
revision_text (Some revision) = hyphen ∷ revision

-- The text is an epoch as it may be written, the upstream version and the revision.
pub record Spells (text : List ℕ) (version : Parts) : Type 0 where
  pub front : List ℕ
  pub whole : text ≡ front ++ version.upstream ++ revision_text version.revision
  pub epoch : SpellsEpoch front version.epoch
  pub small : version.epoch ≤ MAX_EPOCH
  pub upstream : IsMadeOf is_upstream_byte version.upstream
  pub revision : IfSome version.revision (IsMadeOf is_revision_byte)
  -- An upstream version with a colon needs the epoch written, and one with a hyphen needs a revision.
  pub written : IsTrue (has colon version.upstream) → front ≢ []
  pub revised : IsTrue (has hyphen version.upstream) → IsSome version.revision

-- the text spells some version
abbrev pub IsVersion : List ℕ → Type 0
IsVersion text = (version : Parts) × Spells text version

-- What a reader of versions gives: the text, where it spells a version.
abbrev pub ReadsVersion : List ℕ → List ℕ → Type 0
ReadsVersion text version = (version ≡ text) × IsVersion text

-- what stands before and after the first such byte, where there is one
abbrev pub split_once : ℕ → List ℕ → Option (List ℕ × List ℕ)
split_once byte [] = None
split_once byte (b ∷ bs) = if b == byte then Some ([], bs) else option_map (λ s. (b ∷ s.0, s.1)) (split_once byte bs)

-- what stands before and after the last such byte, where there is one
abbrev pub rsplit_once : ℕ → List ℕ → Option (List ℕ × List ℕ)
rsplit_once byte [] = None
rsplit_once byte (b ∷ bs) = option_or (option_map (λ s. (b ∷ s.0, s.1)) (rsplit_once byte bs))
    (if b == byte then Some ([], bs) else None)

-- The epoch ends at the first colon: what stands before it, and what stands after it or is the whole text without one.
unfoldable pub epoch_digits : List ℕ → Option (List ℕ)
epoch_digits text = option_map (λ s. s.0) (split_once colon text)

unfoldable pub after_epoch : List ℕ → List ℕ
after_epoch text = option_map_or (λ s. s.1) (split_once colon text) text

-- The revision starts after the last hyphen of the rest.
unfoldable pub upstream_of : List ℕ → List ℕ
upstream_of text = option_map_or (λ s. s.0) (rsplit_once hyphen (after_epoch text)) (after_epoch text)

unfoldable pub revision_of : List ℕ → Option (List ℕ)
revision_of text = option_map (λ s. s.1) (rsplit_once hyphen (after_epoch text))

-- a missing epoch is 0
unfoldable pub epoch_of : List ℕ → ℕ
epoch_of text = option_map_or (digits_value 10) (epoch_digits text) 0

-- the version that a text spells, if it spells one
abbrev pub parts_of : List ℕ → Parts
parts_of text = record { epoch = epoch_of text; upstream = upstream_of text; revision = revision_of text }
