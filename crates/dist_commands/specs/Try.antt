-- What `try --size N --seed S` comes to. It touches no file.
use Rattle.std.specs.Prelude.{◌≡◌, ◌⊎◌, ◌<◌, ◌≤◌, ℕ, false, List, Option, length}
use Rattle.dist_outside.specs.Files.{Files}
use Rattle.dist_outside.specs.declared.limits.Limits.{Limits}
use Rattle.dist_outside.specs.declared.trouble.What.{What}
use Rattle.dist_outside.specs.declared.trouble.What.TheVariants.{Bytes, Stanzas}
use Rattle.dist_package.specs.RepositoryOf.{IsRepositoryOf}
use Rattle.dist_repo.specs.PackageList.{PackageList}
use Rattle.dist_cert.specs.declared.records.CertKind.{CertKind}
use Rattle.dist_cert.specs.declared.records.CertKind.TheVariants as kinds
use Rattle.dist_cert.specs.declared.records.Claim.{Claim}
use Rattle.dist_generate.specs.Generator.{generated}
use Rattle.dist_trial.specs.Summary.{has_marks, summary_text}
use Rattle.dist_trial.specs.Trial.{AreSwept, IsStoppedAt}
use Rattle.dist_commands.specs.Claims.{marked_status}
use Rattle.dist_commands.specs.Stages.{Ending, Step, Goes, Ends, Then, answered, refused}
use Rattle.dist_commands.specs.Sweeps.{InputsStage}
use Rattle.dist_commands.specs.declared.refusal.Refusal.TheVariants.{TooLarge}

-- the repository of the archive of the size and the seed, or the first of two limits that the archive passes
abbrev pub ArchiveStage : Option Files → Limits → (size seed : ℕ) → Step PackageList → Type 0
ArchiveStage files limits size seed (Goes r) = (length (generated size seed) ≤ limits.bytes) × (size ≤ limits.stanzas)
    × IsRepositoryOf (generated size seed) limits.stanzas r
ArchiveStage files limits size seed (Ends ending) =
    ((limits.bytes < length (generated size seed)) × (ending ≡ refused files (TooLarge Bytes)))
    ⊎ ((length (generated size seed) ≤ limits.bytes) × (limits.stanzas < size)
    × (ending ≡ refused files (TooLarge Stanzas)))

-- A certificate of each kind for the archive, plain and with the limit of a question where none is given, is accepted,
-- and the summary of their claims is told.
pub record IsTrialTold (files : Option Files) (limits : Limits) (size : ℕ) (r : PackageList) (ending : Ending) : Type 0
  where
    pub strong : List Claim
    pub outdated : List Claim
    pub challenged : List Claim
    pub are_strong : AreSwept r kinds.Strong limits strong
    pub are_outdated : AreSwept r kinds.Outdated limits outdated
    pub are_challenged : AreSwept r kinds.Challenged limits challenged
    pub is : ending ≡ answered files (marked_status (has_marks strong outdated challenged))
        (summary_text size strong outdated challenged)

-- The sweep of a kind stopped: what it is judged by passes a number, or one line more would.
pub record IsTrialStopped (files : Option Files) (limits : Limits) (r : PackageList) (ending : Ending) : Type 0 where
  pub kind : CertKind
  pub what : What
  pub stopped : IsStoppedAt r kind limits what
  pub is : ending ≡ refused files (TooLarge what)

-- The sweep of kind strong comes first: the number that what it is judged by passes first is told.
pub record Tries (files : Option Files) (limits : Limits) (size : ℕ) (r : PackageList) (ending : Ending) : Type 0 where
  pub first : (end : Ending) → InputsStage files limits kinds.Strong false r (Ends end) → ending ≡ end
  pub comes : IsTrialTold files limits size r ending ⊎ IsTrialStopped files limits r ending

-- The archive is made and taken apart, then its packages are swept.
abbrev pub TryStages : Option Files → Limits → (size seed : ℕ) → (PackageList → Ending → Type 0) → Ending → Type 0
TryStages files limits size seed Last = Then (ArchiveStage files limits size seed) Last
