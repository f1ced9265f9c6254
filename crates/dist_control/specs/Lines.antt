-- The lines of a text (Debian Policy 5.1): each ends with LF, which the last one may lack.
use Rattle.std.specs.Prelude.{◌≡◌, ◌⊎◌, ℕ, List, [], ◌∷◌, ◌++◌, ◌==◌, if◌then◌else◌}
use Rattle.dist_base.specs.Ascii.{line_feed}

-- a line with one more byte in front, or a first line of that byte alone
abbrev pub in_front : ℕ → List (List ℕ) → List (List ℕ)
in_front byte [] = (byte ∷ []) ∷ []
in_front byte (line ∷ lines) = (byte ∷ line) ∷ lines

-- the lines of a text, without their LF
abbrev pub lines : List ℕ → List (List ℕ)
lines [] = []
lines (byte ∷ bytes) = if byte == line_feed then [] ∷ lines bytes else in_front byte (lines bytes)

-- A text is cut at a line feed, or it is the line and nothing comes after it. That the line has no line feed of its own
-- is for `lines` to say.
abbrev pub IsCutAtLine : (text line after : List ℕ) → Type 0
IsCutAtLine text line after = (text ≡ line ++ line_feed ∷ after) ⊎ ((text ≡ line) × (after ≡ []))
