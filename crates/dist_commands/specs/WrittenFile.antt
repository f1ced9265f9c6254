-- A command that writes a file: how the writing ends, and what it leaves.
use Rattle.std.specs.Prelude.{◌≡◌, ◌⊎◌, ℕ, List, Option}
use Rattle.dist_outside.specs.Files.{Files, with_file}
use Rattle.dist_outside.specs.declared.trouble.What.{What}
use Rattle.dist_commands.specs.Stages.{Ending, Step, Goes, Ends, answered, refused}
use Rattle.dist_commands.specs.declared.refusal.Refusal.{Refusal}
use Rattle.dist_commands.specs.declared.refusal.Refusal.TheVariants.{TooLarge, WriteFault}
use Rattle.dist_commands.specs.declared.status.Status.{Status}

-- What is written: what it is judged by passes this number first; the text is whole and says this; it is what may be
-- written so far, and one line more would pass this number; it is that, perhaps with a front of one line more. And what
-- is told of what a whole text says, with which status.
pub record Writing (X : Type 0) : Type 1 where
  pub PassesFirst : What → Type 0
  pub IsWhole : X → (text : List ℕ) → Type 0
  pub IsFull : What → (text : List ℕ) → Type 0
  pub IsCut : (text : List ℕ) → Type 0
  pub status : X → Status
  pub IsTold : X → (out : List ℕ) → Type 0

-- What the file is judged by keeps its numbers, or the first number that it passes ends the run.
abbrev pub NumbersStage : (What → Type 0) → Option Files → Step (Unit {0}) → Type 0
NumbersStage PassesFirst files (Goes _) = (what : What) → ¬ PassesFirst what
NumbersStage PassesFirst files (Ends ending) =
    (what : What) × PassesFirst what × (ending ≡ refused files (TooLarge what))

-- The writing came to its end: the file is whole, and what it says is told.
pub record IsWritten {X : Type 0} (writing : Writing X) (files : Option Files) (name : List ℕ) (ending : Ending)
    : Type 0 where
  pub made : X
  pub text : List ℕ
  pub whole : writing.IsWhole made text
  pub out : List ℕ
  pub told : writing.IsTold made out
  pub is : ending ≡ answered (with_file files name text) (writing.status made) out

-- The writing stopped, since one line more would pass a number: the file holds the lines until then.
pub record IsFilled {X : Type 0} (writing : Writing X) (files : Option Files) (name : List ℕ) (ending : Ending) : Type 0
  where
    pub what : What
    pub text : List ℕ
    pub full : writing.IsFull what text
    pub is : ending ≡ refused (with_file files name text) (TooLarge what)

-- one of the two
abbrev pub Writes : {X : Type 0} → Writing X → Option Files → (name : List ℕ) → Ending → Type 0
Writes writing files name ending = IsWritten writing files name ending ⊎ IsFilled writing files name ending

-- the file is as before, or holds what may be written so far, perhaps with a front of one line more behind it
abbrev pub LeavesCut : {X : Type 0} → Writing X → (name : List ℕ) → (files left : Option Files) → Type 0
LeavesCut writing name files left =
    (left ≡ files) ⊎ ((text : List ℕ) × writing.IsCut text × (left ≡ with_file files name text))

-- The writing was given up, for a fault of writing or want of memory, behind stages that gave this.
pub record IsGivenUp {Y X : Type 0} (Reached : Y → Type 0) (writing : Y → Writing X) (files : Option Files)
    (name : List ℕ) (refusal : Refusal) (ending : Ending) : Type 0 where
  pub at : Y
  pub reached : Reached at
  pub kept : refusal ≡ WriteFault → NumbersStage (writing at).PassesFirst files (Goes tt)
  pub left : Option Files
  pub leaves : LeavesCut (writing at) name files left
  pub is : ending ≡ refused left refusal
