-- Strings that stand in double quotes as they are (YAML 1.2, sections 5.1 and 5.7): their bytes are printable ones of
-- ASCII, and none is `"` or `\`.
use Rattle.std.specs.Prelude.{◌≢◌, ℕ, ◌≤◌, List, [], ◌∷◌, All}
use Rattle.dist_version.specs.Spelling.{IsVersion}
use Rattle.dist_classes.specs.declared.class_value.Class.{Class}
use Rattle.dist_classes.specs.declared.class_value.Class.TheVariants.{Point, Between, Above, Below, Any}

abbrev pub IsPlainByte : ℕ → Type 0
IsPlainByte b = (32 ≤ b) × (b ≤ 126) × (b ≢ 34) × (b ≢ 92)

abbrev pub IsPlain : List ℕ → Type 0
IsPlain text = All IsPlainByte text

-- the versions that the text of a class names
abbrev pub versions_in : Class → List (List ℕ)
versions_in (Point v) = v ∷ []
versions_in (Between a b) = a ∷ b ∷ []
versions_in (Above a) = a ∷ []
versions_in (Below b) = b ∷ []
versions_in Any = []

abbrev pub HasVersionTexts : Class → Type 0
HasVersionTexts class = All IsVersion (versions_in class)
