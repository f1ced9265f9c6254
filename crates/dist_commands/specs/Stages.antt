-- Work in stages. A stage gives a value to the next one or ends the run, and the first that ends decides.
use Rattle.std.specs.Prelude.{◌≡◌, ◌⊎◌, ℕ, List, [], Option}
use Rattle.dist_outside.specs.Files.{Files}
use Rattle.dist_commands.specs.Refusal.{status_of, refusal_text}
use Rattle.dist_commands.specs.declared.status.Status.{Status}
use Rattle.dist_commands.specs.declared.refusal.Refusal.{Refusal}

-- How a run ends: its status, what `out` grows by, the line on `err`, and the files afterwards, where the desk
-- tells them.
pub record Ending : Type 0 where
  pub status : Status
  pub out : List ℕ
  pub err : List ℕ
  pub files : Option Files

-- the end of a run that is given up with the files as they are
abbrev pub refused : Option Files → Refusal → Ending
refused files refusal = record { status = status_of refusal; out = []; err = refusal_text refusal; files = files }

-- the end of a run that prints a text and leaves the files as they are
abbrev pub answered : Option Files → Status → List ℕ → Ending
answered files status text = record { status = status; out = text; err = []; files = files }

-- what a stage comes to: a value to go on with, or the run's end
pub data Step (X : Type 0) : Type 0 where
  Goes : X → Step X
  Ends : Ending → Step X

-- a stage, and what the rest of the run comes to from its value on
abbrev pub Then : {X : Type 0} → (Step X → Type 0) → (X → Ending → Type 0) → Ending → Type 0
Then {X} First Rest ending = First (Ends ending) ⊎ ((value : X) × First (Goes value) × Rest value ending)

-- a stage comes to one thing at most
abbrev pub IsDetermined : {X : Type 0} → (Step X → Type 0) → Type 0
IsDetermined {X} Stage = (step other : Step X) → Stage step → Stage other → other ≡ step

-- Where a refusal comes, no other end does.
abbrev pub Excludes : (Refuses Decides : Ending → Type 0) → Type 0
Excludes Refuses Decides = (end ending : Ending) → Refuses end → Decides ending → ending ≡ end
