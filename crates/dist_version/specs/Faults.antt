-- Why a text spells no version: its faults, in the order in which they count. The first one decides.
use Rattle.std.specs.Prelude.{◌≡◌, ℕ, ◌+◌, ◌-◌, Bool, not, nat_lt, List, [], ◌∷◌, length, Option, None, Some}
use Rattle.std.specs.Prelude.{if◌then◌else◌}
use Rattle.std.specs.Char.{is_ascii_digit}
use Rattle.std.specs.List.{list_all, position_from}
use Rattle.std.specs.Option.{option_map, option_map_or, option_or, unwrap_or}
use Rattle.std.specs.Str.Parse.{digits_value}
use Rattle.dist_version.specs.declared.error.VersionError.{VersionError}
use Rattle.dist_version.specs.declared.error.VersionError.TheVariants.{Empty, BadEpoch, EpochTooLarge, EmptyUpstream}
use Rattle.dist_version.specs.declared.error.VersionError.TheVariants.{EmptyRevision, BadByte}
use Rattle.dist_version.specs.declared.TheConstants.{MAX_EPOCH}
use Rattle.dist_version.specs.Spelling.{is_upstream_byte, is_revision_byte, epoch_digits, after_epoch, upstream_of}
use Rattle.dist_version.specs.Spelling.{revision_of}

-- no byte at all
abbrev pub empty_fault : List ℕ → Option VersionError
empty_fault [] = Some Empty
empty_fault (b ∷ bs) = None

-- what stands before the colon is one digit or more, of a value that an epoch may have
abbrev pub epoch_fault : List ℕ → Option VersionError
epoch_fault [] = Some BadEpoch
epoch_fault (d ∷ ds) =
    if not (list_all is_ascii_digit (d ∷ ds)) then Some BadEpoch else if nat_lt MAX_EPOCH (digits_value 10 (d ∷ ds))
    then Some EpochTooLarge else None

-- an upstream version is not empty
abbrev pub upstream_fault : List ℕ → Option VersionError
upstream_fault [] = Some EmptyUpstream
upstream_fault (b ∷ bs) = None

-- a revision, where a hyphen begins one, is not empty
abbrev pub revision_fault : Option (List ℕ) → Option VersionError
revision_fault None = None
revision_fault (Some []) = Some EmptyRevision
revision_fault (Some (b ∷ bs)) = None

-- the place of the first byte that fails the test, where the bytes begin at a place
abbrev pub bad_byte : (ℕ → Bool) → ℕ → List ℕ → Option VersionError
bad_byte test start bytes = option_map (λ place. BadByte place) (position_from (λ b. not (test b)) start bytes)

-- the place in the whole text where the upstream version begins, and where the revision does
abbrev pub upstream_start : List ℕ → ℕ
upstream_start text = length text - length (after_epoch text)

abbrev pub revision_start : List ℕ → ℕ
revision_start text = upstream_start text + length (upstream_of text) + 1

-- the first byte, by its place in the whole text, that its part may not have
abbrev pub byte_fault : List ℕ → Option VersionError
byte_fault text =
    option_or (bad_byte is_upstream_byte (upstream_start text) (upstream_of text))
    (bad_byte is_revision_byte (revision_start text) (unwrap_or (revision_of text) []))

-- the first fault of a text, or none
unfoldable pub fault_of : List ℕ → Option VersionError
fault_of text =
    option_or (empty_fault text)
    (option_or (option_map_or epoch_fault (epoch_digits text) None)
    (option_or (upstream_fault (upstream_of text))
    (option_or (revision_fault (revision_of text))
    (byte_fault text))))

-- this is the first fault of the text
abbrev pub IsTextFault : List ℕ → VersionError → Type 0
IsTextFault text fault = fault_of text ≡ Some fault
