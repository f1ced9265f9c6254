-- The parts of a line of LIST.
use Rattle.std.specs.Prelude.{◌≡◌, ℕ, Bool, true, false, not, List, [], ◌∷◌, if◌then◌else◌, codes, refl}
use Rattle.dist_base.specs.Ascii.{is_padding}

-- the next byte, if there is one, belongs to a part
abbrev pub goes_on : List ℕ → Bool
goes_on [] = false
goes_on (byte ∷ bytes) = not (is_padding byte)

-- a byte in front of the first part, or as a part of its own
abbrev pub in_part : ℕ → Bool → List (List ℕ) → List (List ℕ)
in_part byte true (part ∷ parts) = (byte ∷ part) ∷ parts
in_part byte true [] = (byte ∷ []) ∷ []
in_part byte false parts = (byte ∷ []) ∷ parts

-- the longest runs of bytes that are neither spaces nor tabs, in order
abbrev pub parts_of : List ℕ → List (List ℕ)
parts_of [] = []
parts_of (byte ∷ bytes) = if is_padding byte then parts_of bytes else in_part byte (goes_on bytes) (parts_of bytes)

pub two_parts : parts_of (codes " ab  c\t") ≡ codes "ab" ∷ codes "c" ∷ []
two_parts = refl

-- a part that is not empty in front of the others, or no part where nothing is left
abbrev pub with_part : List ℕ → List (List ℕ) → List (List ℕ)
with_part [] parts = []
with_part (byte ∷ bytes) parts = (byte ∷ bytes) ∷ parts
