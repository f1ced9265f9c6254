-- The first line of a text that a job can't read.
use Rattle.std.specs.Prelude.{◌≡◌, List, ℕ, ◌∷◌, ◌++◌, All}
use Rattle.dist_control.specs.Lines.{lines}

-- A line has this fault, and each line before it reads.
pub record IsFirstFault {E : Type 0} (text : List ℕ) (Reads : List ℕ → Type 0) (HasFault : List ℕ → E → Type 0)
    (fault : E) : Type 0 where
  pub before : List (List ℕ)
  pub line : List ℕ
  pub after : List (List ℕ)
  pub pieces : lines text ≡ before ++ line ∷ after
  pub read : All Reads before
  pub has : HasFault line fault
