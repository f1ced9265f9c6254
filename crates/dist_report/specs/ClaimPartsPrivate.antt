-- What the parts of the reports of claims take of a claim. No public clause cites it.
use Rattle.std.specs.Prelude.{◌==◌, ◌-◌, ℕ, Bool, false, List, [], ◌∷◌, ◌++◌, codes, length, slice_get, if◌then◌else◌}
use Rattle.std.specs.Option.{option_map_or}
use Rattle.dist_cert.specs.declared.records.Claim.{Claim}
use Rattle.dist_report.specs.ClaimParts.{challenged_by, has_some, is_outdated, is_uninstallable, is_unknown, strong_on}
use Rattle.dist_report.specs.ClaimParts.{undecided_by, undecided_on}
use Rattle.dist_report.specs.declared.claim_parts.Listing.{Listing}
use Rattle.dist_report.specs.declared.claim_parts.Listing.TheVariants.{Claimed, Undecided}
use Rattle.dist_report.specs.declared.claim_parts.Part.{Part}
use Rattle.dist_report.specs.declared.claim_parts.Part.TheVariants.{NotInstallable, OutOfDate, NotKnown, With}

abbrev pub list_of : Listing → Claim → List ℕ
list_of Claimed = strong_on
list_of Undecided = undecided_on

abbrev pub pairs_of : Listing → Claim → List (ℕ × ℕ)
pairs_of Claimed = challenged_by
pairs_of Undecided = undecided_by

-- the key of the classes that break packages
abbrev pub key_of : Listing → List ℕ
key_of Claimed = codes "challenged:"
key_of Undecided = codes "undecided_classes:"

abbrev pub is_part : Part → Claim → Bool
is_part NotInstallable claim = is_uninstallable claim
is_part OutOfDate claim = is_outdated claim
is_part NotKnown claim = is_unknown claim
is_part (With kind) claim = has_some (list_of kind claim)

abbrev pub list_at : Listing → List Claim → ℕ → List ℕ
list_at kind made p = option_map_or (list_of kind) (slice_get made p) []

-- whether the list's last number is this one
abbrev pub ends_with : List ℕ → ℕ → Bool
ends_with numbers number = option_map_or (λ last. last == number) (slice_get numbers (length numbers - 1)) false

-- the list with the number at its end, once
abbrev pub ended_by : List ℕ → ℕ → List ℕ
ended_by numbers number = if ends_with numbers number then numbers else (numbers ++ number ∷ [])

-- the list with the number at its end, where it is to be
abbrev pub noted : ℕ → Bool → List ℕ → List ℕ
noted number there numbers = if there then (numbers ++ number ∷ []) else numbers
