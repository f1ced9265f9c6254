-- What a search for a repair goes by: what its questions find, and when this decides the answer.
use Rattle.std.specs.Prelude.{◌≡◌, ◌⊎◌, ℕ, ◌+◌, ◌<◌, ◌≤◌, Bool, true, false, List, [], ◌∷◌, ◌++◌, All, Contains, length}
use Rattle.std.specs.Prelude.{Some}
use Rattle.dist_clause.specs.Formula.{Literal}
use Rattle.dist_cert.specs.Rising.{is_among}
use Rattle.dist_space.specs.Space.{SpaceView}
use Rattle.dist_findings.specs.SoundLaws.{IsSound}
use Rattle.dist_findings.specs.declared.finding.Finding.{Finding}
use Rattle.dist_findings.specs.declared.finding.Finding.TheVariants.{Refuted, LeftUndecided, Installed}
use Rattle.dist_repair.specs.Answered.{Answers, Asked, AsksAlone, AsksAt, IsLeft, IsLower, IsRefuted, IsUpper, beyond}
use Rattle.dist_repair.specs.Answered.{installed}
use Rattle.dist_repair.specs.Answered.{own}
use Rattle.dist_repair.specs.Counters.{counted_clauses}
use Rattle.dist_repair.specs.NotesPrivate.{AreNotesOf, NotesView, answer_of}
use Rattle.dist_repair.specs.RepairFiles.{IsDecided}

-- the question of the package alone is closed, or an installation has the package
abbrev pub IsBegun : SpaceView → Asked → List Finding → Type 0
IsBegun s asked found = IsRefuted (AsksAlone s asked) found ⊎ (IsLeft (AsksAlone s asked) found
    ⊎ ((members : List ℕ) × Contains (installed s asked found) members))

-- what the question of the package alone finds: it is closed, or the installation has the package
abbrev pub IsFoundAlone : SpaceView → Asked → Finding → Type 0
IsFoundAlone s asked (Refuted question) = AsksAlone s asked question
IsFoundAlone s asked (LeftUndecided question) = AsksAlone s asked question
IsFoundAlone s asked (Installed members) = is_among members (own s asked) ≡ true

-- what the question at j finds: it is closed, or the installation makes it true
abbrev pub IsFoundAt : SpaceView → Asked → (j : ℕ) → Finding → Type 0
IsFoundAt s asked j (Refuted question) = AsksAt s asked j question
IsFoundAt s asked j (LeftUndecided question) = AsksAt s asked j question
IsFoundAt s asked j (Installed members) = (is_among members (own s asked) ≡ true)
    × (is_among members (beyond s asked j) ≡ false)

-- Behind that question, what the one at the lower bound finds decides the answer, or the bound is one more, where each
-- finding is true of the clauses of the space with its counter.
abbrev pub NextDecides : SpaceView → List (List Literal) → Type 0
NextDecides s clauses = (asked : Asked) (limit : ℕ) (found : List Finding) (f : Finding) (j : ℕ) (n : NotesView)
    → asked.number < length s.repository.packages
    → All (IsSound (counted_clauses s clauses asked.most) limit) (found ++ f ∷ [])
    → AreNotesOf s asked (found ++ f ∷ []) n → IsBegun s asked found → IsLower s asked found j → j ≤ asked.most
    → IsFoundAt s asked j f → IsBegun s asked (found ++ f ∷ [])
    × (IsDecided s asked (found ++ f ∷ []) ⊎ IsLower s asked (found ++ f ∷ []) (j + 1))

-- The number is one below the upper bound, or the most where that is smaller.
abbrev pub IsBelowUpper : SpaceView → Asked → List Finding → (j : ℕ) → Type 0
IsBelowUpper s asked found j = (upper : ℕ × List Bool) × IsUpper s asked (installed s asked found) (Some upper)
    × ((j + 1 ≡ upper.0) ⊎ ((j ≡ asked.most) × (j < upper.0)))

-- Where an answer is decided, it still is behind what the question at such a number finds.
abbrev pub LowerDecides : SpaceView → List (List Literal) → Type 0
LowerDecides s clauses = (asked : Asked) (limit : ℕ) (found : List Finding) (f : Finding) (j : ℕ) (n m : NotesView)
    → asked.number < length s.repository.packages
    → All (IsSound (counted_clauses s clauses asked.most) limit) (found ++ f ∷ [])
    → AreNotesOf s asked found n → AreNotesOf s asked (found ++ f ∷ []) m → IsDecided s asked found → j ≤ asked.most
    → IsBelowUpper s asked found j → IsFoundAt s asked j f → IsDecided s asked (found ++ f ∷ [])

-- Notes of findings that decide an answer have this one.
abbrev pub NotesAnswer : SpaceView → Type 0
NotesAnswer s = (asked : Asked) (found : List Finding) (n : NotesView) → AreNotesOf s asked found n
    → IsDecided s asked found → Answers s asked found (answer_of n)

-- Once all questions up to the most are refuted, the answer is decided.
abbrev pub LastDecides : SpaceView → Type 0
LastDecides s = (asked : Asked) (found : List Finding) (n : NotesView) → AreNotesOf s asked found n
    → IsBegun s asked found → IsLower s asked found (asked.most + 1) → IsDecided s asked found
