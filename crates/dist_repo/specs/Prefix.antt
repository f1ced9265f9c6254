-- The first bytes of a name as one number, which decides most comparisons of names. Private to the keys of the ordered
-- maps.
use Rattle.std.specs.Prelude.{◌≡◌, ℕ, zero, suc, ◌+◌, ◌*◌, ◌^◌, ◌<◌, List, [], ◌∷◌, All}

-- the first bytes of a list as digits to the base 256, as many as there are places; behind the end of the list stand
-- zeros
unfoldable pub digits : ℕ → List ℕ → ℕ
digits zero bytes = 0
digits (suc places) [] = 0
digits (suc places) (b ∷ bytes) = b * 256 ^ places + digits places bytes

-- a number is that of the first sixteen bytes of a name, which has bytes alone
pub record IsPrefixOf (prefix : ℕ) (name : List ℕ) : Type 0 where
  pub number : prefix ≡ digits 16 name
  pub bytes : All (λ b. b < 256) name
