-- The bytes of relation fields: white space, names and operators, by Debian Policy 5.6.1 and 7.1 (this project also
-- allows capital letters and `_` in names).
use Rattle.std.specs.Prelude.{◌≡◌, ℕ, Bool, false, true, not, ◌&&◌, ◌||◌, ◌==◌, List, [], ◌∷◌, IsTrue}
use Rattle.std.specs.Char.{is_ascii_alphanumeric}
use Rattle.std.specs.List.{list_all}
use Rattle.dist_base.specs.Ascii.{bar, closing, comma, dot, equals, greater, hyphen, is_white, less, opening, plus}
use Rattle.dist_base.specs.Ascii.{underscore}

-- letters, digits and + - . _
abbrev pub is_name_byte : ℕ → Bool
is_name_byte b = is_ascii_alphanumeric b || (b == plus || b == hyphen || b == dot || b == underscore)

-- < = >
abbrev pub is_operator_byte : ℕ → Bool
is_operator_byte b = b == less || b == equals || b == greater

-- a version ends at white space and at ( ) , |
abbrev pub is_word_byte : ℕ → Bool
is_word_byte b = not (is_white b || (b == opening || b == closing || b == comma || b == bar))

-- white space alone
abbrev pub IsBlank : List ℕ → Type 0
IsBlank text = IsTrue (list_all is_white text)

-- a letter or a digit, and then bytes of names; no bytes are no name
abbrev pub IsName : List ℕ → Type 0
IsName [] = IsTrue false
IsName (b ∷ bs) = IsTrue (is_ascii_alphanumeric b && list_all is_name_byte bs)

-- What a reader of names gives: the bytes, where they are a name.
abbrev pub ReadsName : List ℕ → List ℕ → Type 0
ReadsName bytes name = (name ≡ bytes) × IsName bytes

-- the text is at its end, or goes on with a byte that passes
abbrev pub Meets : (ℕ → Bool) → List ℕ → Type 0
Meets test [] = Unit {0}
Meets test (b ∷ bs) = test b ≡ true

-- the text is at its end, or goes on with a byte that fails
abbrev pub Stops : (ℕ → Bool) → List ℕ → Type 0
Stops test [] = Unit {0}
Stops test (b ∷ bs) = test b ≡ false
