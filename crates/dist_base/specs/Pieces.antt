-- Lists kept one after another in a single list, with the place where each of them ends.
use Rattle.std.specs.Prelude.{◌≡◌, ℕ, zero, suc, ◌+◌, ◌≤◌, List, [], ◌∷◌, ◌++◌, length, slice_index, sum_by, refl}
use Rattle.std.specs.List.{slice_range}

-- the pieces of a list that end at the given places, the first of them beginning at `start`
abbrev pub pieces : {X : Type 0} → ℕ → List ℕ → List X → List (List X)
pieces start [] xs = []
pieces start (end ∷ ends) xs = slice_range xs start end ∷ pieces end ends xs

-- the ends rise from `start`, and the last of them is n
abbrev pub AreEnds : ℕ → List ℕ → ℕ → Type 0
AreEnds start [] n = start ≡ n
AreEnds start (end ∷ ends) n = (start ≤ end) × AreEnds end ends n

-- how many items the lists have together
abbrev pub total : {X : Type 0} → List (List X) → ℕ
total lists = sum_by (λ list. length list) lists

-- where the piece at a place begins
abbrev pub begin_of : ℕ → List ℕ → ℕ → ℕ
begin_of start ends zero = start
begin_of start ends (suc place) = slice_index ends place

pieces_example : pieces {X = ℕ} 0 (2 ∷ 2 ∷ 3 ∷ []) (7 ∷ 8 ∷ 9 ∷ []) ≡ (7 ∷ 8 ∷ []) ∷ [] ∷ (9 ∷ []) ∷ []
pieces_example = refl

-- a piece is added at the end
pub record AddsPiece {X : Type 0} (old_items : List X) (old_ends : List ℕ) (piece new_items : List X)
    (new_ends : List ℕ) : Type 0 where
  pub items : new_items ≡ old_items ++ piece
  pub ends : new_ends ≡ old_ends ++ (length old_items + length piece) ∷ []
