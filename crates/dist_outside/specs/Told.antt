-- Bytes that an object of the outside tells, or none where it tells nothing.
use Rattle.std.specs.Prelude.{◌≡◌, ℕ, List, [], ◌∷◌, ◌++◌, Option, Some, None, refl}

-- what is told once a piece was appended: nothing stays nothing, and bytes grow by the piece
abbrev pub grown : Option (List ℕ) → List ℕ → Option (List ℕ)
grown None piece = None
grown (Some bytes) piece = Some (bytes ++ piece)

-- Worked examples.
two_pieces : grown (grown (Some (1 ∷ [])) (2 ∷ [])) (3 ∷ []) ≡ Some (1 ∷ 2 ∷ 3 ∷ [])
two_pieces = refl

nothing_told : grown None (2 ∷ []) ≡ None
nothing_told = refl
