-- The bytes of control text, by Debian Policy 5.1.
use Rattle.std.specs.Prelude.{ℕ, Bool, false, not, ◌&&◌, ◌||◌, ◌==◌, nat_le, List, [], ◌∷◌}
use Rattle.std.specs.List.{list_all}
use Rattle.dist_base.specs.Ascii.{colon, exclamation_mark, hash, hyphen, is_padding, tilde}

-- a line that is empty or has only spaces and tabs
abbrev pub is_blank : List ℕ → Bool
is_blank line = list_all is_padding line

-- a line that begins with a space or a tab
abbrev pub is_continuation : List ℕ → Bool
is_continuation [] = false
is_continuation (byte ∷ line) = is_padding byte

-- U+0021 to U+007E, but for the colon
abbrev pub is_field_name_byte : ℕ → Bool
is_field_name_byte byte = (nat_le exclamation_mark byte && nat_le byte tilde) && not (byte == colon)

-- a field name: not empty, of those bytes alone, and with no # or - in front
abbrev pub is_field_name : List ℕ → Bool
is_field_name [] = false
is_field_name (byte ∷ name) = not (byte == hash || byte == hyphen) && list_all is_field_name_byte (byte ∷ name)
